-- What a byte makes of the bytes so far.
use Rattle.std.proofs.Common.{◌≡◌, ℕ, ◌+◌, ◌-◌, ◌*◌, ◌%◌, ◌^◌, ◌<◌, ◌≤◌, Bool, true, List, [], ◌∷◌, ◌++◌, Some, None}
use Rattle.std.proofs.Common.{inl, refl, sym, ap, ◌∙◌, add-one, arith}
use Rattle.std.proofs.Math.Pow.{pow_mono}
use Rattle.std.proofs.Math.Nat.{mod-eq_of_lt, mul-le-mul_right}
use Rattle.std.proofs.lemmas.Nat.{pow-add}
use Rattle.wc_leb128.specs.declared.step.Step.TheVariants.{More, Done, Bad}
use Rattle.wc_leb128.specs.Standard.Integers.{U, Begins}
use Rattle.wc_leb128.specs.Standard.Pushing.{AnswersFrom}
use Rattle.wc_leb128.specs.Reading.State.{digits, pushed, IsState}
use Rattle.wc_leb128.proofs.Laws.Spellings.{Continues}
use Rattle.wc_leb128.proofs.Reading.Digits.{digits-push, digits-spelled, digits-begin, digits-unfinished, power_up}

-- the state that a push finds
pub record Finds (N k v b : ℕ) (u : Bool) : Type 0 where
  pub unfinished : u ≡ true
  pub state : IsState N u k v
  pub fits : b < 256

pub opened : (N k v b : ℕ) (u : Bool) → Finds N k v b u → (0 < N) × (N ≤ 64) × (7 * k < N) × (v < 2 ^ (7 * k))
opened N k v b u h = let s = h.state in rw h.unfinished at s

product_below : (b p q : ℕ) → b < q → b * p + p ≤ q * p
product_below b p q h = let le = mul-le-mul_right p h in omega arith

-- the parts fit
pub part_fits : (k r b v : ℕ) → b < 2 ^ r → v < 2 ^ k → v + b * 2 ^ k < 2 ^ (k + r)
part_fits k r b v h g =
    let one = product_below b (2 ^ k) (2 ^ r) h in
    let two : 2 ^ r * 2 ^ k ≡ 2 ^ (k + r) = sym (pow-add 2 r k) ∙ ap (λ (x : ℕ). 2 ^ x) (omega arith) in
    omega arith

fits64 : (N k r b v : ℕ) → N ≤ 64 → 7 * k + r ≡ N → b < 2 ^ r → v < 2 ^ (7 * k) → v + b * 2 ^ (7 * k) < 2 ^ 64
fits64 N k r b v le e h g =
    let lt = part_fits (7 * k) r b v h g in
    let bits : 7 * k + r ≤ 64 = omega arith in
    let three : 2 ^ (7 * k + r) ≤ 2 ^ 64 = pow_mono bits in
    omega arith

small : (b N k v r : ℕ) → N ≤ 64 → 7 * k + r ≡ N → b < 2 ^ r → v < 2 ^ (7 * k)
    → b * 2 ^ (7 * k) % 2 ^ 64 ≡ b * 2 ^ (7 * k)
small b N k v r le e h g =
    let lt = fits64 N k r b v le e h g in
    let m : b * 2 ^ (7 * k) < 2 ^ 64 = omega arith in mod-eq_of_lt m

pub sum_fits : (N k v b : ℕ) (u : Bool) → Finds N k v b u → (d : ℕ) → d < 2 ^ (N - 7 * k)
    → v + d * 2 ^ (7 * k) % 2 ^ 64 < 2 ^ 64
sum_fits N k v b u h d lt =
    let o = opened N k v b u h in
    let e : 7 * k + (N - 7 * k) ≡ N = omega arith in
    rw (small d N k v (N - 7 * k) o.1 e lt o.3) (fits64 N k (N - 7 * k) d v o.1 e lt o.3)

pub push_done : (N k v b : ℕ) (u : Bool) → Finds N k v b u → b < 128 → b < 2 ^ (N - 7 * k)
    → AnswersFrom (U N) (pushed u k v) b (Done (v + b * 2 ^ (7 * k) % 2 ^ 64)) None
push_done N k v b u h lt below =
    let o = opened N k v b u h in
    let e : 7 * k + (N - 7 * k) ≡ N = omega arith in
    let s = digits-spelled N k v b (b ∷ []) o.2 o.3 (inl (lt, below, refl, refl)) in
    let c : v + 2 ^ (7 * k) * b ≡ v + b * 2 ^ (7 * k) = omega arith in
    rw (h.unfinished, small b N k v (N - 7 * k) o.1 e below o.3) (rw c at s, refl)

pub push_bad : (A : Type 0) (R : ℕ → List ℕ → A → Type 0) → Continues A R → (N k v b : ℕ) (u : Bool) → Finds N k v b u
    → (Begins (R (N - 7 * k)) (b ∷ []) → ⊥) → AnswersFrom (R N) (pushed u k v) b Bad None
push_bad A R l N k v b u h bars =
    let o = opened N k v b u h in
    rw h.unfinished (λ g. bars (digits-begin A R l N k v (b ∷ []) o.2 g), refl)

grown : (N k v b : ℕ) → N ≤ 64 → v < 2 ^ (7 * k) → 128 ≤ b → b < 256 → 7 < N - 7 * k
    → digits (k + 1) (v + (b - 128) * 2 ^ (7 * k) % 2 ^ 64) ≡ digits k v ++ b ∷ []
grown N k v b le h high fits room =
    let e : 7 * k + (N - 7 * k) ≡ N = omega arith in
    let more : 7 ≤ N - 7 * k = omega arith in
    let p : 2 ^ 7 ≤ 2 ^ (N - 7 * k) = pow_mono more in
    let whole : 128 + (b - 128) ≡ b = omega arith in
    rw (
      small (b - 128) N k v (N - 7 * k) le e (omega arith) h,
      add-one,
      digits-push k v (b - 128) h
          (omega arith),
      whole,
    ) refl

pub push_more : (A : Type 0) (R : ℕ → List ℕ → A → Type 0) → Continues A R → (N k v b : ℕ) (u : Bool)
    → Finds N k v b u → 128 ≤ b → 7 < N - 7 * k
    → AnswersFrom (R N) (pushed u k v) b More (pushed u (k + 1) (v + (b - 128) * 2 ^ (7 * k) % 2 ^ 64))
push_more A R l N k v b u h le room =
    let o = opened N k v b u h in
    let e = grown N k v b o.1 o.3 le h.fits room in
    let d = digits-unfinished A R l N (k + 1) (v + (b - 128) * 2 ^ (7 * k) % 2 ^ 64) (omega arith) in
    rw h.unfinished (rw e at d, ap (λ (x : List ℕ). Some x) e)

value_below : (v d p : ℕ) → v < p → d < 128 → v + d * p < 128 * p
value_below v d p h lt = let q = product_below d p 128 lt in omega arith

pub state_more : (N k v b : ℕ) (u : Bool) → Finds N k v b u → 128 ≤ b → 7 < N - 7 * k
    → IsState N u (k + 1) (v + (b - 128) * 2 ^ (7 * k) % 2 ^ 64)
state_more N k v b u h le room =
    let o = opened N k v b u h in
    let fits = h.fits in
    let e : 7 * k + (N - 7 * k) ≡ N = omega arith in
    let more : 7 ≤ N - 7 * k = omega arith in
    let p : 2 ^ 7 ≤ 2 ^ (N - 7 * k) = pow_mono more in
    let s = value_below v (b - 128) (2 ^ (7 * k)) o.3 (omega arith) in
    rw (h.unfinished, small (b - 128) N k v (N - 7 * k) o.1 e (omega arith) o.3, add-one, power_up k)
    (o.0, o.1, omega arith, s)
