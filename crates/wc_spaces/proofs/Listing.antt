-- One more type.
use Rattle.std.proofs.Common.{◌≡◌, ℕ, suc, Bool, cond, List, [], ◌∷◌, ◌++◌, length, map, Option, Some, None}
use Rattle.std.proofs.Common.{is_some, refl, sym, ap, ◌∙◌, arith}
use Rattle.std.proofs.lemmas.List.{map-append}
use Rattle.std.specs.Borrow.{Bor}
use Rattle.std.specs.Str.{bytes_eq}
use Rattle.wc_spaces.specs.declared.types.Types.{Types}
use Rattle.wc_spaces.specs.Kept.Places.{place_in}
use Rattle.wc_spaces.specs.Kept.Types.{AreTypes}
use Rattle.wc_spaces.specs.Standard.Types.{index_of, with_type}
use Rattle.wc_spaces.proofs.FirstStays.{equal-text}
use Rattle.wc_spaces.proofs.Positions.{position-push}

length-now : (ts : List (Bor (List ℕ))) → length (map (λ (t : Bor (List ℕ)). t.now) ts) ≡ length ts
length-now [] = refl
length-now (t ∷ ts) = ap (λ n. suc n) (length-now ts)

-- as many are kept as are in the list
pub same-count : (ts : List (List ℕ)) (types : Types) → AreTypes ts types → length types.keys.items ≡ length ts
same-count ts types w = sym (length-now types.keys.items) ∙ ap (λ (x : List (List ℕ)). length x) w.listed

pub pushed : (ts : List (List ℕ)) (old new : Types) (t : Bor (List ℕ)) (n : ℕ) → AreTypes ts old
    → n ≡ length old.keys.items
    → new.keys.items ≡ old.keys.items ++ t ∷ []
    → ((q : List ℕ) → place_in new.places q ≡ cond (is_some (place_in old.places q)) (place_in old.places q)
    (cond (bytes_eq t.now q) (Some n) None))
    → AreTypes (ts ++ t.now ∷ []) new
pushed ts old new t n w e f h = record {
  listed = ap (λ (x : List (Bor (List ℕ))). map (λ (t : Bor (List ℕ)). t.now) x) f
      ∙ map-append (λ (t : Bor (List ℕ)). t.now) old.keys.items (t ∷ [])
      ∙ ap (λ (x : List (List ℕ)). x ++ t.now ∷ []) w.listed;
  placed = λ q. h q
      ∙ ap (λ (o : Option ℕ). cond (is_some o) o (cond (bytes_eq t.now q) (Some n) None)) (w.placed q)
      ∙ sym (position-push (λ u. bytes_eq u q) 0 n ts t.now (omega (arith, e, same-count ts old w)));
}

module _ (ts : List (List ℕ)) (t : List ℕ) where
  pub known : (n : ℕ) → index_of t ts ≡ Some n → with_type ts t ≡ ts
  known n e = rw e refl

  pub known-place : (n : ℕ) → index_of t ts ≡ Some n → index_of t (with_type ts t) ≡ Some n
  known-place n e = ap (λ (x : List (List ℕ)). index_of t x) (known n e) ∙ e

  pub unknown : index_of t ts ≡ None → with_type ts t ≡ ts ++ t ∷ []
  unknown e = rw e refl

  pub unknown-place : (n : ℕ) → n ≡ length ts → index_of t ts ≡ None → index_of t (with_type ts t) ≡ Some n
  unknown-place n size e =
      ap (λ (x : List (List ℕ)). index_of t x) (unknown e)
      ∙ position-push (λ u. bytes_eq u t) 0 n ts t (omega (arith, size))
      ∙ ap (λ (o : Option ℕ). cond (is_some o) o (cond (bytes_eq t t) (Some n) None)) e
      ∙ ap (λ (b : Bool). cond b (Some n) None) (equal-text t)
