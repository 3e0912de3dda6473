-- One more of the operands that are left.
use Rattle.std.proofs.Common.{◌≡◌, ℕ, ◌+◌, ◌<◌, Option, List, [], ◌∷◌, ◌++◌, map, length, drop, get_or, add-one}
use Rattle.std.proofs.Common.{sym, ap, ◌∙◌, append_assoc}
use Rattle.std.specs.List.{flat_map}
use Rattle.std.proofs.Math.Seq.{drop-cons}
use Rattle.wc_spaces.specs.declared.noted.Fault.{Fault}
use Rattle.wc_spaces.specs.Standard.Least.{least_from}
use Rattle.wc_spaces.proofs.Least.{least-append}

module _ {O : Type 0} (os : List O) (i : ℕ) (d : O) (lt : i < length os) where
  next : drop i os ≡ get_or os i d ∷ drop (i + 1) os
  next = rw add-one (drop-cons os i d lt)

  -- what is made of all, where one more was made
  pub next-mapped : {X : Type 0} (f : O → X) (old new all : List X) (x : X) → new ≡ old ++ x ∷ []
      → x ≡ f (get_or os i d) → old ++ map f (drop i os) ≡ all → new ++ map f (drop (i + 1) os) ≡ all
  next-mapped f old new all x grown is k =
      rw (grown, is) (append_assoc old (f (get_or os i d) ∷ []) (map f (drop (i + 1) os))
      ∙ ap (λ (z : List O). old ++ map f z) (sym next) ∙ k)

  -- what is noted of all, where what is wrong with one more was
  pub next-noted : {W : Type 0} (g : O → List (Fault W)) (noted now all : Option (Fault W))
      → now ≡ least_from noted (g (get_or os i d)) → least_from noted (flat_map g (drop i os)) ≡ all
      → least_from now (flat_map g (drop (i + 1) os)) ≡ all
  next-noted g noted now all told k =
      rw told (sym (least-append noted (g (get_or os i d)) (flat_map g (drop (i + 1) os)))
      ∙ ap (λ (z : List O). least_from noted (flat_map g z)) (sym next) ∙ k)
