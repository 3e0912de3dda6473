-- What is wrong with declarations, part after part.
use Rattle.std.proofs.Common.{◌≡◌, ℕ, List, [], ◌∷◌, ◌++◌, map, Option, Some, None, sym, ap, ◌∙◌, append_assoc}
use Rattle.std.proofs.lemmas.List.{append-nil}
use Rattle.wc_spaces.specs.declared.noted.Fault.{Fault}
use Rattle.wc_spaces.specs.Standard.Spaces.{identifier_of, duplicate, duplicates_after}

module _ {W : Type 0} (why : W) where
  pub duplicates_after-append : (before : List (Option (List ℕ))) (ds es : List (Option (ℕ × List ℕ)))
      → duplicates_after why before (ds ++ es) ≡ duplicates_after why before ds ++ duplicates_after why
      (before ++ map identifier_of ds) es
  duplicates_after-append before [] es = ap (λ (x : List (Option (List ℕ))).
      duplicates_after why x es) (sym (append-nil before))
  duplicates_after-append before (None ∷ ds) es =
      duplicates_after-append (before ++ None ∷ []) ds es
      ∙ ap (λ (x : List (Option (List ℕ))). duplicates_after why (before ++ None ∷ []) ds ++ duplicates_after why x es)
      (append_assoc before (None ∷ []) (map identifier_of ds))
  duplicates_after-append before (Some d ∷ ds) es =
      ap (λ (x : List (Fault W)). duplicate why before d.0 d.1 ++ x)
      (duplicates_after-append (before ++ Some d.1 ∷ []) ds es
      ∙ ap (λ (x : List (Option (List ℕ))). duplicates_after why (before ++ Some d.1
      ∷ []) ds ++ duplicates_after why x es)
      (append_assoc before (Some d.1 ∷ []) (map identifier_of ds)))
      ∙ sym (append_assoc (duplicate why before d.0 d.1) _ _)
