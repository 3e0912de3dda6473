-- Faults one after another.
use Rattle.std.proofs.Common.{◌≡◌, ℕ, ◌+◌, ◌<◌, List, ◌∷◌, ◌++◌, length, drop, get_or, Option, sym, ap, ◌∙◌}
use Rattle.std.proofs.Common.{add-one}
use Rattle.std.proofs.Math.Seq.{drop-cons}
use Rattle.std.specs.List.{flat_map}
use Rattle.std.proofs.lemmas.Grind.{flat_map-append}
use Rattle.wc_resolve_code.specs.declared.why.NameWhy.{NameWhy}
use Rattle.wc_spaces.specs.declared.noted.Fault.{Fault}
use Rattle.wc_spaces.specs.Standard.Least.{least_from}
use Rattle.wc_spaces.proofs.Least.{least-append}

-- what is left of a list, its next item first
pub next : {X : Type 0} (xs : List X) (i : ℕ) (d : X) → i < length xs → drop i xs ≡ get_or xs i d ∷ drop (i + 1) xs
next xs i d h = rw add-one (drop-cons xs i d h)

-- faults that were told come first
pub told : (o p all : Option (Fault NameWhy)) (fs gs : List (Fault NameWhy)) → p ≡ least_from o fs
    → least_from o (fs ++ gs) ≡ all
    → least_from p gs ≡ all
told o p all fs gs e h = rw e (sym (least-append o fs gs) ∙ h)

module _ {X : Type 0} (f : X → List (Fault NameWhy)) where
  -- the faults of a part of what is still to come
  pub faults-on : (o p all : Option (Fault NameWhy)) (from xs rest : List X) → from ≡ xs ++ rest
      → p ≡ least_from o (flat_map f xs)
      → least_from o (flat_map f from) ≡ all → least_from p (flat_map f rest) ≡ all
  faults-on o p all from xs rest e g h =
      told o p all (flat_map f xs) (flat_map f rest) g
      (ap (λ (fs : List (Fault NameWhy)). least_from o fs) (sym (flat_map-append f xs rest))
      ∙ ap (λ (ys : List X). least_from o (flat_map f ys)) (sym e) ∙ h)

  -- the faults of one more item
  pub faults-next : (xs : List X) (i : ℕ) (x : X) (o p all : Option (Fault NameWhy)) → i < length xs → x ≡ get_or xs i x
      → p ≡ least_from o (f x)
      → least_from o (flat_map f (drop i xs)) ≡ all
      → least_from p (flat_map f (drop (i + 1) xs)) ≡ all
  faults-next xs i x o p all lt e g h =
      told o p all (f x) (flat_map f (drop (i + 1) xs)) g
      (ap (λ (y : X). least_from o (f y ++ flat_map f (drop (i + 1) xs))) e
      ∙ ap (λ (ys : List X). least_from o (flat_map f ys)) (sym (next xs i x lt)) ∙ h)

  -- the faults of two parts
  pub faults-both : (o p q : Option (Fault NameWhy)) (xs ys front back : List X) → xs ≡ front → ys ≡ back
      → p ≡ least_from o (flat_map f xs) → q ≡ least_from p (flat_map f ys)
      → q ≡ least_from o (flat_map f (front ++ back))
  faults-both o p q xs ys front back ex ey e g =
      g ∙ ap (λ (r : Option (Fault NameWhy)). least_from r (flat_map f ys)) e
      ∙ ap (λ (zs : List X). least_from (least_from o (flat_map f zs)) (flat_map f ys)) ex
      ∙ ap (λ (zs : List X). least_from (least_from o (flat_map f front)) (flat_map f zs)) ey
      ∙ sym (least-append o (flat_map f front) (flat_map f back))
      ∙ ap (λ (fs : List (Fault NameWhy)). least_from o fs) (sym (flat_map-append f front back))

-- faults that were told, and others behind them
pub before : (o p q : Option (Fault NameWhy)) (fs gs : List (Fault NameWhy)) → p ≡ least_from o fs → q ≡ least_from p gs
    → q ≡ least_from o (fs ++ gs)
before o p q fs gs e g = g ∙ ap (λ (r : Option (Fault NameWhy)). least_from r gs) e ∙ sym (least-append o fs gs)
