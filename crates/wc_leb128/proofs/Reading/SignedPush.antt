-- What a byte makes of the bytes so far of a signed integer.
use Rattle.std.proofs.Common.{◌≡◌, ℕ, zero, suc, ◌+◌, ◌-◌, ◌*◌, ◌/◌, ◌%◌, ◌^◌, ◌<◌, ℤ, pos, negsuc, ◌+ℤ◌, ◌-ℤ◌, ◌*ℤ◌}
use Rattle.std.proofs.Common.{Bool, List, [], ◌∷◌, ◌++◌, None, inr, refl, ap, ◌∙◌, arith}
use Rattle.std.proofs.Math.IntN.{neg_ℤ, pos-*ℤ-pos, pos-*ℤ-negsuc}
use Rattle.std.proofs.lemmas.Int.{ints}
use Rattle.wc_leb128.specs.declared.step.Step.{Step}
use Rattle.wc_leb128.specs.declared.step.Step.TheVariants.{More, Done, Bad}
use Rattle.wc_leb128.specs.Standard.Integers.{S}
use Rattle.wc_leb128.specs.Standard.Pushing.{AnswersFrom}
use Rattle.wc_leb128.specs.Reading.State.{digits, pushed, Ends}
use Rattle.wc_leb128.proofs.Laws.SignedLaws.{continues, last-alone}
use Rattle.wc_leb128.proofs.Reading.Digits.{power_up, below_digit}
use Rattle.wc_leb128.proofs.Reading.Push.{Finds, opened, push_bad}

lowest : (v : ℕ) (m : ℤ) → v < 1 → pos v +ℤ (pos 1 *ℤ m) ≡ m
lowest v m h = omega (arith, ints)

seven_more : (v : ℕ) (q : ℤ)
    → pos v +ℤ (pos 128 *ℤ q) ≡ (pos 128 *ℤ (pos (v / 128) +ℤ q)) +ℤ (pos (128 + v % 128) -ℤ pos 128)
seven_more v q = omega (arith, ints)

scaled_pos : (t : ℕ) (q r : ℤ) → q ≡ pos t → r ≡ pos (128 * t) → r ≡ pos 128 *ℤ q
scaled_pos t q r e f = omega (arith, ints, e, f)

scaled_neg : (t : ℕ) (q r : ℤ) → q ≡ neg_ℤ (pos t) → r ≡ neg_ℤ (pos (128 * t)) → r ≡ pos 128 *ℤ q
scaled_neg t q r e f = omega (arith, ints, e, f)

regrouped : (p : ℕ) (m : ℤ) → pos (128 * p) *ℤ m ≡ pos 128 *ℤ (pos p *ℤ m)
regrouped p (pos n) =
    let e : 128 * p * n ≡ 128 * (p * n) = omega arith in
    scaled_pos (p * n) (pos p *ℤ pos n) (pos (128 * p) *ℤ pos n) (pos-*ℤ-pos p n) (pos-*ℤ-pos (128 * p) n ∙ ap pos e)
regrouped p (negsuc n) =
    let e : 128 * p * suc n ≡ 128 * (p * suc n) = omega arith in
    scaled_neg (p * suc n) (pos p *ℤ negsuc n) (pos (128 * p) *ℤ negsuc n) (pos-*ℤ-negsuc p n)
    (pos-*ℤ-negsuc (128 * p) n ∙ ap (λ (x : ℕ). neg_ℤ (pos x)) e)

-- what completes the bytes so far
pub digits-spelled : (N k v : ℕ) (m : ℤ) (c : List ℕ) → 7 * k < N → v < 2 ^ (7 * k) → S (N - 7 * k) c m
    → S N (digits k v ++ c) (pos v +ℤ (pos (2 ^ (7 * k)) *ℤ m))
unfolding digits
digits-spelled N zero v m c lt h u =
    let n : N - 7 * 0 ≡ N = omega arith in
    rw (lowest v m h) (rw n at u)
digits-spelled N (suc k) v m c lt h u =
    let p = power_up k in
    let h' : v / 128 < 2 ^ (7 * k) = below_digit v (2 ^ (7 * k)) (omega arith) in
    let e : N - 7 * suc k ≡ N - 7 - 7 * k = omega arith in
    let r = digits-spelled (N - 7) k (v / 128) m c (omega arith) h' (rw e at u) in
    let value = seven_more v (pos (2 ^ (7 * k)) *ℤ m) in
    inr (inr (
      omega arith,
      omega arith,
      omega arith,
      pos (v / 128) +ℤ (pos (2 ^ (7 * k)) *ℤ m),
      r,
      rw
          (p, regrouped (2 ^ (7 * k)) m) value,
    ))

pub push_ended : (N k v b : ℕ) (u : Bool) → Finds N k v b u → b < 128 → (r : Step ℤ) → Ends (N - 7 * k) b v (7 * k) r
    → AnswersFrom (S N) (pushed u k v) b r None
push_ended N k v b u h lt More e = absurd e
push_ended N k v b u h lt (Done z) e =
    let o = opened N k v b u h in
    let s = digits-spelled N k v e.0 (b ∷ []) o.2 o.3 e.1 in
    rw (h.unfinished, e.2) (s, refl)
push_ended N k v b u h lt Bad e =
    push_bad ℤ S continues N k v b u h (λ g. e g.1 (last-alone (N - 7 * k) b g.0 g.1 lt g.2))
