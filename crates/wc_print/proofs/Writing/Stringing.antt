-- Strings as they are put.
use Rattle.std.proofs.Common.{◌≡◌, ℕ, zero, suc, ◌+◌, ◌-◌, ◌<◌, ◌≤◌, ◌/◌, ◌%◌, Bool, true, List, [], ◌∷◌, ◌++◌}
use Rattle.std.proofs.Common.{length, get_or, take, drop, inl, inr}
use Rattle.std.proofs.Common.{refl, sym, ap, subst, ◌∙◌, arith, append_assoc, Fits, w8}
use Rattle.std.specs.Prelude.{if◌then◌else◌}
use Rattle.std.proofs.lemmas.List.{append-nil, get_or-take, length-drop, length-take-le, nil_from_length}
use Rattle.std.proofs.lemmas.List.{take-append-drop, take_all}
use Rattle.std.proofs.lemmas.List.Edits.{length-between, get_or-between}
use Rattle.std.proofs.lemmas.Bool.{cases_lt}
use Rattle.std.proofs.lemmas.Grind.{flat_map-append}
use Rattle.std.specs.List.{AllByRecursion, flat_map, between}
use Rattle.wc_print.specs.Standard.Printed.{stands, hex, escaped, quoted, after}
use Rattle.wc_print.specs.Standard.Printable.{IsByte, Put}
use Rattle.wc_print.specs.Standard.Going.{Says, Puts, LeavesEscaped}
use Rattle.wc_print.proofs.Writing.Going.{text, says-same, says-then, says-none}

bytes-fit : (bs : List ℕ) → ((i : ℕ) → Fits w8 (get_or bs i 0)) → AllByRecursion IsByte bs
bytes-fit [] h = tt
bytes-fit (b ∷ bs) h = ((h 0).fits, bytes-fit bs (λ i. h (suc i)))

as-itself : (b : ℕ) → stands b ≡ true → escaped b ≡ b ∷ []
as-itself b e = ap (λ (t : Bool). if t then (b ∷ []) else (92 ∷ hex (b / 16) ∷ hex (b % 16) ∷ [])) e

-- bytes that stand for themselves
pub as-themselves : (bs : List ℕ) (n : ℕ) → n ≤ length bs → ((k : ℕ) → k < n → stands (get_or bs k 0) ≡ true)
    → flat_map escaped (take n bs) ≡ take n bs
as-themselves bs zero le h = refl
as-themselves [] (suc n) le h = absurd (omega arith)
as-themselves (b ∷ bs) (suc n) le h =
    let here : escaped b ≡ b ∷ [] = as-itself b (h 0 (omega arith)) in
    let others : flat_map escaped (take n bs) ≡ take n bs =
    as-themselves bs n (omega (arith, le)) (λ k lt. h (suc k) (omega (arith, lt))) in
    ap (λ (x : List ℕ). x ++ flat_map escaped (take n bs)) here ∙ ap (λ (x : List ℕ). b ∷ x) others

-- so many more at a place
pub stand-more : (bs : List ℕ) (at : ℕ) → at + 16 ≤ length bs → ((k : ℕ) → k < at → stands (get_or bs k 0) ≡ true)
    → ((k : ℕ) → k < length (between at (at + 16) bs) → stands (get_or (between at (at + 16) bs) k 0) ≡ true)
    → (at + 16 ≤ length bs) × ((k : ℕ) → k < at + 16 → stands (get_or bs k 0) ≡ true)
stand-more bs at fits before here = (
  fits,
  λ k lt. elim (cases_lt k at) [
    | inl below ↦ before k below
    | inr above ↦
        let e : at + (k - at) ≡ k = omega (arith, above) in
        let within : k - at < length (between at (at + 16) bs) =
        omega (arith, length-between bs at (at + 16) fits, above, lt) in
        let same : get_or (between at (at + 16) bs) (k - at) 0 ≡ get_or bs k 0 =
        rw e at (get_or-between bs at (at + 16) (k - at) 0 (omega (arith, above, lt))) in
        rw same at (here (k - at) within)
  ],
)

stand-behind : (bs : List ℕ) (at : ℕ) → ((k : ℕ) → k < at → stands (get_or bs k 0) ≡ true)
    → ((k : ℕ) → k < length (drop at bs) → stands (get_or (drop at bs) k 0) ≡ true)
    → (k : ℕ) → k < length bs → stands (get_or bs k 0) ≡ true
stand-behind bs zero before here k lt = here k lt
stand-behind [] (suc at) before here k lt = absurd (omega (arith, lt))
stand-behind (b ∷ bs) (suc at) before here zero lt = before zero (omega arith)
stand-behind (b ∷ bs) (suc at) before here (suc k) lt =
    stand-behind bs at (λ j l. before (suc j) (omega (arith, l))) here k (omega (arith, lt))

-- those at the front, and all behind
pub stand-rest : (bs : List ℕ) (at : ℕ) → ((k : ℕ) → k < at → stands (get_or bs k 0) ≡ true)
    → ((k : ℕ) → k < length (take (length bs - at) (drop at bs))
    → stands (get_or (take (length bs - at) (drop at bs)) k 0) ≡ true)
    → (k : ℕ) → k < length bs → stands (get_or bs k 0) ≡ true
stand-rest bs at before here =
    let whole : take (length bs - at) (drop at bs) ≡ drop at bs =
    take_all (length bs - at) (drop at bs) (omega (arith, length-drop at bs)) in
    stand-behind bs at before
    (subst (λ (x : List ℕ). (k : ℕ) → k < length x → stands (get_or x k 0) ≡ true) whole here)

module _ {F S : Type 0} {Has : F → S → List ℕ → Type 0} where
  -- so many bytes at the front are put
  pub leaves-behind : (all put : List ℕ) (n : ℕ) {old out : S} → put ≡ flat_map escaped (take n all)
      → Says Has put old out
      → LeavesEscaped Has (drop n all) all out old
  leaves-behind all put n is h = record {
    finish = λ new k.
        says-same
        (sym (flat_map-append escaped (take n all) (drop n all))
        ∙ ap (λ (x : List ℕ). flat_map escaped x) (take-append-drop n all))
        (says-then (says-same is h) k);
    fewer = omega (arith, length-drop n all);
  }

  -- a space and a quote, all bytes, and a quote
  pub string-put : (bs rest : List ℕ) {old mid out new : S} → ((k : ℕ) → Fits w8 (get_or bs k 0)) → length rest ≡ 0
      → Says Has (32 ∷ 34 ∷ []) old mid → LeavesEscaped Has rest bs out mid → Says Has (34 ∷ []) out new
      → Puts Has (after (quoted bs) ∷ []) old new
  string-put bs rest {out = out} fits none start left end =
      let empty : flat_map escaped rest ≡ [] = ap (λ (x : List ℕ). flat_map escaped x) (nil_from_length rest none) in
      let all : Says Has (flat_map escaped bs) _ out = left.finish out (says-same (sym empty) (says-none out)) in
      text (after (quoted bs) ∷ []) (bytes-fit bs fits, tt)
      (ap (λ (x : List ℕ). 32 ∷ 34 ∷ x) (sym (append-nil (flat_map escaped bs ++ 34 ∷ []))))
      (says-then start (says-then all end))

-- bytes that stand for themselves
pub plain-put : (bs old mid out new : List ℕ) → ((k : ℕ) → Fits w8 (get_or bs k 0))
    → ((k : ℕ) → k < length bs → stands (get_or bs k 0) ≡ true) → mid ≡ old ++ (32 ∷ 34 ∷ []) → out ≡ mid ++ bs
    → new ≡ out ++ (34 ∷ []) → Put (after (quoted bs) ∷ []) old new
plain-put bs old mid out new fits plain start middle end =
    let whole : flat_map escaped bs ≡ bs =
    subst (λ (x : List ℕ). flat_map escaped x ≡ x) (take_all (length bs) bs (omega arith))
    (as-themselves bs (length bs) (omega arith) plain) in
    let done : out ≡ mid ++ flat_map escaped bs = middle ∙ ap (λ (x : List ℕ). mid ++ x) (sym whole) in
    record { spelled = (bytes-fit bs fits, tt); bytes = end ∙ rw (done, start) (simp (append_assoc, append-nil)) }

-- so many at each end, which are all
pub ends-stand : (bs : List ℕ) (size : ℕ) → size ≤ length bs → length bs ≤ size + size
    → ((k : ℕ) → k < length (take size bs) → stands (get_or (take size bs) k 0) ≡ true)
    → ((k : ℕ) → k < length (take (length bs - (length bs - size)) (drop (length bs - size) bs))
    → stands (get_or (take (length bs - (length bs - size)) (drop (length bs - size) bs)) k 0) ≡ true)
    → (k : ℕ) → k < length bs → stands (get_or bs k 0) ≡ true
ends-stand bs size enough few front back =
    let before : (k : ℕ) → k < length bs - size → stands (get_or bs k 0) ≡ true = λ k lt.
    let here : k < size = omega (arith, few, lt) in
    rw (get_or-take size bs k 0 here) at (front k (omega (arith, length-take-le size bs enough, here))) in
    stand-rest bs (length bs - size) before back
