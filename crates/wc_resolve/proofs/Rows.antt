-- Rows of items one after another.
use Rattle.std.proofs.Common.{◌≡◌, ℕ, ◌+◌, ◌<◌, List, [], ◌∷◌, ◌++◌, length, drop, get_or, map, Option, sym, ap, ◌∙◌}
use Rattle.std.proofs.Common.{append_assoc}
use Rattle.std.specs.List.{flat_map}
use Rattle.wc_declare.proofs.Faults.{next}

-- one more part of what is still to come
pub part : {Y : Type 0} (out new all xs rest from : List Y) → from ≡ xs ++ rest → new ≡ out ++ xs → out ++ from ≡ all
    → new ++ rest ≡ all
part {Y = Y} out new all xs rest from e g h =
    ap (λ (x : List Y). x ++ rest) g ∙ append_assoc out xs rest ∙ ap (λ (x : List Y). out ++ x) (sym e) ∙ h

module _ {X Y : Type 0} (f : X → List Y) where
  -- what the next item gives
  pub flat-next : (xs : List X) (i : ℕ) (x : X) → i < length xs → x ≡ get_or xs i x
      → flat_map f (drop i xs) ≡ f x ++ flat_map f (drop (i + 1) xs)
  flat-next xs i x lt e = ap (λ (ys : List X). flat_map f ys) (next xs i x lt)
      ∙ ap (λ (y : X). f y ++ flat_map f (drop (i + 1) xs)) (sym e)

  pub flat-more : (xs : List X) (i : ℕ) (x : X) (out new all : List Y) → i < length xs → x ≡ get_or xs i x
      → new ≡ out ++ f x
      → out ++ flat_map f (drop i xs) ≡ all → new ++ flat_map f (drop (i + 1) xs) ≡ all
  flat-more xs i x out new all lt e g h = part out new all (f x) _ _ (flat-next xs i x lt e) g h

module _ {X Y : Type 0} (f : X → Y) where
  pub map-more : (xs : List X) (i : ℕ) (x : X) (out new all : List Y) → i < length xs → x ≡ get_or xs i x
      → new ≡ out ++ f x ∷ []
      → out ++ map f (drop i xs) ≡ all → new ++ map f (drop (i + 1) xs) ≡ all
  map-more xs i x out new all lt e g h =
      part out new all (f x ∷ []) (map f (drop (i + 1) xs)) (map f (drop i xs))
      (ap (λ (ys : List X). map f ys) (next xs i x lt) ∙ ap (λ (y : X). f y ∷ map f (drop (i + 1) xs)) (sym e)) g h
