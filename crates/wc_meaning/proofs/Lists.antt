-- Lists that are made of the items of another.
use Rattle.std.proofs.Common.{◌≡◌, List, [], ◌∷◌, ◌++◌, map, refl, ap₂}
use Rattle.std.specs.List.{flat_map, AllByRecursion}

-- two lists, each made in another way
pub both : {X : Type 0} {us vs xs ys : List X} → us ≡ xs → vs ≡ ys → us ++ vs ≡ xs ++ ys
both e f = ap₂ (λ x y. x ++ y) e f

module _ {X Y : Type 0} (f g : X → Y) where
  pub map-same : ((x : X) → f x ≡ g x) → (xs : List X) → map f xs ≡ map g xs
  map-same same [] = refl
  map-same same (x ∷ xs) = ap₂ (λ (y : Y) (ys : List Y). y ∷ ys) (same x) (map-same same xs)

module _ {X Y Z : Type 0} (h : X → Y) where
  pub mapped-same : (f : Y → Z) (g : X → Z) → ((x : X) → f (h x) ≡ g x) → (xs : List X) → map f (map h xs) ≡ map g xs
  mapped-same f g same [] = refl
  mapped-same f g same (x ∷ xs) = ap₂ (λ (z : Z) (zs : List Z). z ∷ zs) (same x) (mapped-same f g same xs)

  pub flat-mapped : (f : Y → List Z) (g : X → List Z) → ((x : X) → f (h x) ≡ g x) → (xs : List X)
      → flat_map f (map h xs) ≡ flat_map g xs
  flat-mapped f g same [] = refl
  flat-mapped f g same (x ∷ xs) = both (same x) (flat-mapped f g same xs)

  -- the same, knowing this of each item
  pub flat-where : (P : X → Type 0) (f : Y → List Z) (g : X → List Z) → ((x : X) → P x → f (h x) ≡ g x)
      → (xs : List X) → AllByRecursion P xs → flat_map f (map h xs) ≡ flat_map g xs
  flat-where P f g same [] p = refl
  flat-where P f g same (x ∷ xs) p = both (same x p.0) (flat-where P f g same xs p.1)

  pub map-where : (P : X → Type 0) (f : Y → Z) (g : X → Z) → ((x : X) → P x → f (h x) ≡ g x)
      → (xs : List X) → AllByRecursion P xs → map f (map h xs) ≡ map g xs
  map-where P f g same [] p = refl
  map-where P f g same (x ∷ xs) p =
      ap₂ (λ (z : Z) (zs : List Z). z ∷ zs) (same x p.0) (map-where P f g same xs p.1)
