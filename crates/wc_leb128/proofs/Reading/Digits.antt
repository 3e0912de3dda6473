-- The bytes so far of an unfinished spelling, seven bits each.
use Rattle.std.proofs.Common.{◌≡◌, ℕ, zero, suc, ◌+◌, ◌-◌, ◌*◌, ◌/◌, ◌%◌, ◌^◌, ◌<◌, List, [], ◌∷◌, ◌++◌, inr, refl, ap}
use Rattle.std.proofs.Common.{arith}
use Rattle.std.proofs.lemmas.Nat.{pow-add}
use Rattle.wc_leb128.specs.Standard.Integers.{U, Begins, IsUnfinished}
use Rattle.wc_leb128.specs.Reading.State.{digits}
use Rattle.wc_leb128.proofs.Laws.Spellings.{Continues, tail-unfinished}

pub power_up : (k : ℕ) → 2 ^ (7 * suc k) ≡ 128 * 2 ^ (7 * k)
power_up k = let e : 7 * suc k ≡ 7 + 7 * k = omega arith in rw (e, pow-add) refl

pub below_digit : (v p : ℕ) → v < 128 * p → v / 128 < p
below_digit v p h = omega arith

shifted_rem : (v d p : ℕ) → (v + d * (128 * p)) % 128 ≡ v % 128
shifted_rem v d p = omega arith

shifted_div : (v d p : ℕ) → (v + d * (128 * p)) / 128 ≡ v / 128 + d * p
shifted_div v d p = omega arith

pub digits-push : (k v d : ℕ) → v < 2 ^ (7 * k) → d < 128
    → digits (suc k) (v + d * 2 ^ (7 * k)) ≡ digits k v ++ (128 + d) ∷ []
unfolding digits
digits-push zero v d h lt =
    let z : v ≡ 0 = omega arith in
    let e : (v + d * 1) % 128 ≡ d = omega arith in
    ap (λ (x : ℕ). (128 + x) ∷ []) e
digits-push (suc k) v d h lt =
    let p = power_up k in
    let h' : v < 128 * 2 ^ (7 * k) = omega arith in
    let r = digits-push k (v / 128) d (below_digit v (2 ^ (7 * k)) h') lt in
    rw (p, shifted_rem, shifted_div) (ap (λ (x : List ℕ). (128 + v % 128) ∷ x) r)

-- what completes the bytes so far
pub digits-spelled : (N k v m : ℕ) (c : List ℕ) → 7 * k < N → v < 2 ^ (7 * k) → U (N - 7 * k) c m
    → U N (digits k v ++ c) (v + 2 ^ (7 * k) * m)
unfolding digits
digits-spelled N zero v m c lt h u =
    let z : v ≡ 0 = omega arith in
    let n : N - 7 * 0 ≡ N = omega arith in
    rw z (let e : 0 + 1 * m ≡ m = omega arith in rw e (rw n at u))
digits-spelled N (suc k) v m c lt h u =
    let p = power_up k in
    let h' : v / 128 < 2 ^ (7 * k) = below_digit v (2 ^ (7 * k)) (omega arith) in
    let e : N - 7 * suc k ≡ N - 7 - 7 * k = omega arith in
    let r = digits-spelled (N - 7) k (v / 128) m c (omega arith) h' (rw e at u) in
    inr (omega arith, omega arith, omega arith, v / 128 + 2 ^ (7 * k) * m, r, rw p (omega arith))

pub digits-begin : (A : Type 0) (R : ℕ → List ℕ → A → Type 0) → Continues A R → (N k v : ℕ) (c : List ℕ) → 7 * k < N
    → Begins (R N) (digits k v ++ c) → Begins (R (N - 7 * k)) c
unfolding digits
digits-begin A R l N zero v c lt h = let n : N - 7 * 0 ≡ N = omega arith in rw n h
digits-begin A R l N (suc k) v c lt h =
    let e : N - 7 * suc k ≡ N - 7 - 7 * k = omega arith in
    rw e (digits-begin A R l (N - 7) k (v / 128) c (omega arith)
    (l.begins-tail N (128 + v % 128) (digits k (v / 128) ++ c) (omega arith) h))

pub digits-unfinished : (A : Type 0) (R : ℕ → List ℕ → A → Type 0) → Continues A R → (N k v : ℕ) → 7 * k < N
    → IsUnfinished (R N) (digits k v)
unfolding digits
digits-unfinished A R l N zero v lt = l.nothing-unfinished N
digits-unfinished A R l N (suc k) v lt =
    tail-unfinished A R l N (128 + v % 128) (digits k (v / 128)) (omega arith) (omega arith) (omega arith)
    (digits-unfinished A R l (N - 7) k (v / 128) (omega arith))
