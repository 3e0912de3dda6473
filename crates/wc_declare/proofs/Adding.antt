-- Declarations one after another.
use Rattle.std.proofs.Common.{◌≡◌, ℕ, ◌+◌, ◌<◌, List, [], ◌∷◌, ◌++◌, length, drop, get_or, map, Option, Some, None}
use Rattle.std.proofs.Common.{refl, sym, ap, ◌∙◌, append_assoc}
use Rattle.std.proofs.lemmas.List.{map-append}
use Rattle.wc_resolve_code.specs.declared.why.NameWhy.{NameWhy}
use Rattle.wc_resolve_code.specs.declared.why.NameWhy.TheVariants.{DuplicateId}
use Rattle.wc_spaces.specs.declared.noted.Fault.{Fault}
use Rattle.wc_spaces.specs.Standard.Least.{least_from}
use Rattle.wc_spaces.specs.Standard.Spaces.{identifier_of, duplicates_after}
use Rattle.wc_spaces.proofs.Least.{least-append}
use Rattle.wc_spaces.proofs.Duplicates.{duplicates_after-append}
use Rattle.wc_surface.specs.Standard.Identifiers.{Identifier}
use Rattle.wc_surface.specs.declared.field.Field.{Field}
use Rattle.wc_declare.specs.declared.kind.SpaceKind.{SpaceKind}
use Rattle.wc_declare.specs.Standard.Spaces.{declares, space, text_in, texts, told_in, repeated_after}
use Rattle.wc_declare.proofs.Faults.{next}

pub texts-append : (ds es : List (Option Identifier)) → texts (ds ++ es) ≡ texts ds ++ texts es
texts-append ds es = map-append text_in ds es

same-texts : (ds : List (Option Identifier)) → map identifier_of (map told_in ds) ≡ texts ds
same-texts [] = refl
same-texts (None ∷ ds) = ap (λ (x : List (Option (List ℕ))). None ∷ x) (same-texts ds)
same-texts (Some id ∷ ds) = ap (λ (x : List (Option (List ℕ))). Some id.text ∷ x) (same-texts ds)

-- what is wrong with declarations is what is wrong with the first of them, and then with the others behind those
pub repeated-append : (before : List (Option (List ℕ))) (ds es : List (Option Identifier))
    → repeated_after before (ds ++ es) ≡ repeated_after before ds ++ repeated_after (before ++ texts ds) es
repeated-append before ds es =
    ap (λ (x : List (Option (ℕ × List ℕ))). duplicates_after DuplicateId before x) (map-append told_in ds es)
    ∙ duplicates_after-append DuplicateId before (map told_in ds) (map told_in es)
    ∙ ap (λ (x : List (Option (List ℕ))). repeated_after before ds ++ duplicates_after DuplicateId (before ++ x)
    (map told_in es))
    (same-texts ds)

-- of the declarations `all` behind `start`, the `rest` is still to come; what is kept speaks of those before
pub record Adding (Keeps : List (Option (List ℕ))
    → Type 0) (start : List (Option (List ℕ))) (total noted : Option (Fault NameWhy))
    (all rest : List (Option Identifier)) : Type 0 where
  pub so_far : List (Option (List ℕ))
  pub kept : Keeps so_far
  pub whole : so_far ++ texts rest ≡ start ++ texts all
  pub faults : least_from noted (repeated_after so_far rest) ≡ total

pub begun : (Keeps : List (Option (List ℕ)) → Type 0) (start : List (Option (List ℕ))) (noted : Option (Fault NameWhy))
    (all : List (Option Identifier)) → Keeps start
    → Adding Keeps start (least_from noted (repeated_after start all)) noted all all
begun Keeps start noted all k = record { so_far = start; kept = k; whole = refl; faults = refl }

-- one more step
pub added : (Keeps After : List (Option (List ℕ))
    → Type 0) (start : List (Option (List ℕ))) (total noted now : Option (Fault NameWhy))
    (all from ds rest : List (Option Identifier)) → from ≡ ds ++ rest → Adding Keeps start total noted all from
    → ((x : List (Option (List ℕ))) → Keeps x → After (x ++ texts ds))
    → ((x : List (Option (List ℕ))) → Keeps x → now ≡ least_from noted (repeated_after x ds))
    → Adding After start total now all rest
added Keeps After start total noted now all from ds rest e w k f = record {
  so_far = w.so_far ++ texts ds;
  kept = k w.so_far w.kept;
  whole = append_assoc w.so_far (texts ds) (texts rest)
      ∙ ap (λ (x : List (Option (List ℕ))). w.so_far ++ x) (sym (texts-append ds rest))
      ∙ ap (λ (x : List (Option Identifier)). w.so_far ++ texts x) (sym e) ∙ w.whole;
  faults = rw (f w.so_far w.kept) (sym (least-append noted (repeated_after w.so_far ds) _)
      ∙ ap (λ (x : List (Fault NameWhy)). least_from noted x) (sym (repeated-append w.so_far ds rest))
      ∙ ap (λ (x : List (Option Identifier)). least_from noted (repeated_after w.so_far x)) (sym e) ∙ w.faults);
}

-- the declarations of the next field
pub space-next : (k : SpaceKind) (fs : List Field) (i : ℕ) (f : Field) (ds : List (Option Identifier)) → i < length fs
    → f ≡ get_or fs i f → ds ≡ declares k f → space k (drop i fs) ≡ ds ++ space k (drop (i + 1) fs)
space-next k fs i f ds lt e g =
    ap (λ (x : List Field). space k x) (next fs i f lt)
    ∙ ap (λ (x : List (Option Identifier)). x ++ space k (drop (i + 1) fs)) (ap (λ (x : Field). declares k x) (sym e)
    ∙ sym g)
