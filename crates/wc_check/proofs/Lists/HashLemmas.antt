-- Names differ where their hashes, put in order, rise.
use Rattle.std.proofs.Common.{◌≡◌, ℕ, zero, suc, ◌+◌, ◌≤◌, Bool, true, false, ◌&&◌, ◌||◌, ◌==◌, nat_lt, nat_le, cond}
use Rattle.std.proofs.Common.{◌++◌, List, [], ◌∷◌, map, take, refl, sym, ap, ◌∙◌, arith, inl, inr}
use Rattle.std.specs.Prelude.{slice_get, Some}
use Rattle.std.specs.List.{sum_by}
use Rattle.std.specs.List.Sorted.{IsPermutation}
use Rattle.std.specs.Str.{bytes_eq}
use Rattle.std.proofs.lemmas.Bool.{cases_Bool, eqb-true, ltb-true}
use Rattle.std.proofs.lemmas.Bool.Decides.{Decides-eqb}
use Rattle.std.proofs.lemmas.List.Sorted.{sum_by-IsPermutation}
use Rattle.std.proofs.lemmas.List.Sums.{sum_by-cons}
use Rattle.std.proofs.lemmas.Slice.Eq.{bytes_eq-Decides}
use Rattle.wc_ast.specs.declared.export.Export.{Export}
use Rattle.wc_check.specs.Standard.ExportRules.{has_name, space_size, export_rules}
use Rattle.wc_check.specs.declared.context.Context.{Context}
use Rattle.wc_check.specs.declared.fault.CheckWhy.{CheckWhy}
use Rattle.wc_check.specs.declared.fault.CheckWhy.TheVariants as whys
use Rattle.wc_check.specs.Standard.Rules.{rule}
use Rattle.wc_check.specs.Judging.Names.{AreDistinct, hash_of_name, rises_above, rises}

-- ---- how often a number stands in a list

abbrev times : ℕ → List ℕ → ℕ
times h [] = 0
times h (x ∷ xs) = cond (x == h) 1 0 + times h xs

times-sum : (h : ℕ) (xs : List ℕ) → times h xs ≡ sum_by (λ x. cond (x == h) 1 0) xs
times-sum h [] = refl
times-sum h (x ∷ xs) =
    ap (λ n. cond (x == h) 1 0 + n) (times-sum h xs) ∙ sym (sum_by-cons (λ y. cond (y == h) 1 0) x xs)

times-permutation : (h : ℕ) (xs ys : List ℕ) → IsPermutation xs ys → times h xs ≡ times h ys
times-permutation h xs ys p =
    times-sum h xs ∙ sym (sum_by-IsPermutation (λ x. cond (x == h) 1 0) xs ys p) ∙ sym (times-sum h ys)

one-more : (x h : ℕ) (xs : List ℕ) → x ≡ h → times h (x ∷ xs) ≡ 1 + times h xs
one-more x h xs e = ap (λ b. cond b 1 0 + times h xs) ((Decides-eqb x h).1 e)

no-more : (x h : ℕ) (xs : List ℕ) → (x == h) ≡ false → times h (x ∷ xs) ≡ times h xs
no-more x h xs e =
    let zero : times h (x ∷ xs) ≡ 0 + times h xs = ap (λ b. cond b 1 0 + times h xs) e in omega (arith, zero)

-- ---- rising numbers

both : (a b : Bool) → (a && b) ≡ true → (a ≡ true) × (b ≡ true)
both true true e = (refl, refl)
both true false e = absurd cc
both false b e = absurd cc

-- nothing up to the number that they are above is among them
none-below : (last h : ℕ) (xs : List ℕ) → rises_above last xs ≡ true → h ≤ last → times h xs ≡ 0
none-below last h [] e le = refl
none-below last h (x ∷ xs) e le =
    let up = both (nat_lt last x) (rises_above x xs) e in
    let lt = ltb-true last x up.0 in
    elim (cases_Bool (x == h)) [
      | inl same ↦ absurd (omega (arith, lt, le, eqb-true x h same))
      | inr other ↦ no-more x h xs other ∙ none-below x h xs up.1 (omega (arith, lt, le))
    ]

at-most-once : (last h : ℕ) (xs : List ℕ) → rises_above last xs ≡ true → times h xs ≤ 1
at-most-once last h [] e = omega arith
at-most-once last h (x ∷ xs) e =
    let up = both (nat_lt last x) (rises_above x xs) e in
    elim (cases_Bool (x == h)) [
      | inl same ↦
          let none = none-below x h xs up.1 (omega (arith, eqb-true x h same)) in
          omega (arith, one-more x h xs (eqb-true x h same), none)
      | inr other ↦ omega (arith, no-more x h xs other, at-most-once x h xs up.1)
    ]

once : (h : ℕ) (xs : List ℕ) → rises xs ≡ true → times h xs ≤ 1
once h [] e = omega arith
once h (x ∷ xs) e = elim (cases_Bool (x == h)) [
  | inl same ↦
      let none = none-below x h xs e (omega (arith, eqb-true x h same)) in
      omega (arith, one-more x h xs (eqb-true x h same), none)
  | inr other ↦ omega (arith, no-more x h xs other, at-most-once x h xs e)
]

-- ---- names

abbrev hashes : List Export → List ℕ
hashes exports = map (λ e. hash_of_name e.name) exports

-- the hash of a name stands among those of exports that have it
named-once : (q : List ℕ) (exports : List Export) → has_name q exports ≡ true
    → 1 ≤ times (hash_of_name q) (hashes exports)
named-once q [] e = absurd cc
named-once q (x ∷ xs) e = elim (cases_Bool (bytes_eq q x.name)) [
  | inl same ↦
      let name = (bytes_eq-Decides q x.name).0 same in
      omega (arith, one-more (hash_of_name x.name) (hash_of_name q) (hashes xs) (sym (ap (λ n. hash_of_name n) name)))
  | inr other ↦
      let rest : has_name q xs ≡ true = sym (ap (λ b. b || has_name q xs) other) ∙ e in
      omega (arith, named-once q xs rest)
]

-- and once more where one more has it
named-twice : (q : List ℕ) (exports : List Export) (n : ℕ) (e : Export) → slice_get exports n ≡ Some e → e.name ≡ q
    → times (hash_of_name q) (hashes (take n exports)) + 1 ≤ times (hash_of_name q) (hashes exports)
named-twice q [] n e at same = absurd cc
named-twice q (x ∷ xs) zero e at same =
    let this : x ≡ e = cc in
    let name : hash_of_name x.name ≡ hash_of_name q = ap (λ z. hash_of_name z.name) this
    ∙ ap (λ z. hash_of_name z) same in
    omega (arith, one-more (hash_of_name x.name) (hash_of_name q) (hashes xs) name)
named-twice q (x ∷ xs) (suc n) e at same =
    omega (arith, named-twice q xs n e at same)

-- where the hashes, put in order, rise, no name comes twice
pub distinct-hashes : (exports : List Export) (ordered : List ℕ)
    → IsPermutation (hashes exports) ordered → rises ordered ≡ true → AreDistinct exports
distinct-hashes exports ordered p up = λ n e at. elim (cases_Bool (has_name e.name (take n exports))) [
  | inl there ↦
      let few = once (hash_of_name e.name) ordered up in
      let all = times-permutation (hash_of_name e.name) (hashes exports) ordered p in
      let some = named-once e.name (take n exports) there in
      absurd (omega (arith, few, all, some, named-twice e.name exports n e at refl))
  | inr new ↦ new
]

-- ---- exports

alone : (why : CheckWhy) (b : Bool) → rule why b ++ [] ≡ rule why b
alone why true = refl
alone why false = refl

-- an export whose name is no other's may break the rule on its index alone
pub distinct-rules : (c : Context) (exports : List Export) (n : ℕ) (e : Export) → AreDistinct exports
    → slice_get exports n ≡ Some e
    → export_rules c (take n exports) e ≡ rule whys.Index (nat_le (space_size c e.kind) e.index)
distinct-rules c exports n e d there =
    ap (λ b. rule whys.Index (nat_le (space_size c e.kind) e.index) ++ rule whys.ExportName b) (d n e there)
    ∙ alone whys.Index (nat_le (space_size c e.kind) e.index)
