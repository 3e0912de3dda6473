-- Index spaces.
use Rattle.std.proofs.Common.{◌≡◌, ℕ, List, [], ◌∷◌, map, Option, Some, None, refl, ap, ◌∙◌}
use Rattle.std.specs.Prelude.{option_map}
use Rattle.wc_ast.specs.declared.export.ExportKind.{ExportKind}
use Rattle.wc_ast.specs.declared.export.ExportKind.TheVariants as kind
use Rattle.wc_surface.specs.Standard.Identifiers.{Identifier}
use Rattle.wc_surface.specs.Standard.Written.Fields.{Desc, Field, type_field, import_field}
use Rattle.wc_resolve_code.specs.declared.why.NameWhy.TheVariants.{DuplicateId}
use Rattle.wc_spaces.specs.Standard.Spaces.{duplicates_after}
use Rattle.wc_parse_field.specs.Stored.Fields.{field_as}
use Rattle.wc_declare.specs.declared.kind.SpaceKind.TheVariants as old_kind
use Rattle.wc_declare.specs.Standard.Spaces as old
use Rattle.wc_resolve.specs.Standard.Indices.{space_kind}
use Rattle.wc_meaning.specs.Standard.Contexts.{Space, bytes_in}
use Rattle.wc_meaning.specs.Standard.Spaces.{declares, space, declares_type, type_space, repeated, space_faults}
use Rattle.wc_meaning.proofs.Lists.{both, map-same}

pub declares-stored : (k : ExportKind) (f : Field) → old.declares (space_kind k) (field_as f) ≡ declares k f
declares-stored kind.Func (import_field m i (Desc.func u)) = refl
declares-stored kind.Table (import_field m i (Desc.func u)) = refl
declares-stored kind.Memory (import_field m i (Desc.func u)) = refl
declares-stored kind.Global (import_field m i (Desc.func u)) = refl
declares-stored _ _ = refl

pub space-stored : (k : ExportKind) (fs : List Field) → old.space (space_kind k) (map field_as fs) ≡ space k fs
space-stored k [] = refl
space-stored k (f ∷ fs) = both (declares-stored k f) (space-stored k fs)

type-stored : (f : Field) → old.declares old_kind.Type (field_as f) ≡ declares_type f
type-stored (type_field i s) = refl
type-stored (import_field m i (Desc.func u)) = refl
type-stored _ = refl

pub types-stored : (fs : List Field) → old.space old_kind.Type (map field_as fs) ≡ type_space fs
types-stored [] = refl
types-stored (f ∷ fs) = both (type-stored f) (types-stored fs)

text-same : (i : Option Identifier) → old.text_in i ≡ bytes_in i
text-same None = refl
text-same (Some i) = refl

pub texts-same : (ds : Space) → old.texts ds ≡ map bytes_in ds
texts-same ds = map-same old.text_in bytes_in text-same ds

told-same : (i : Option Identifier) → old.told_in i ≡ option_map (λ i. (i.token, i.text)) i
told-same None = refl
told-same (Some i) = refl

pub repeated-same : (ds : Space) → old.repeated ds ≡ repeated ds
repeated-same ds =
    ap (λ (xs : List (Option (ℕ × List ℕ))). duplicates_after DuplicateId [] xs)
    (map-same old.told_in (option_map (λ i. (i.token, i.text))) told-same ds)

-- what is declared twice
pub repeated-stored : (ds es : Space) → ds ≡ es → old.repeated ds ≡ repeated es
repeated-stored ds es e = repeated-same ds ∙ ap repeated e

pub space-faults-stored : (fs : List Field) → old.space_faults (map field_as fs) ≡ space_faults fs
space-faults-stored fs =
    both (repeated-stored _ _ (types-stored fs)) (both (repeated-stored _ _ (space-stored kind.Func fs))
    (both (repeated-stored _ _ (space-stored kind.Table fs))
    (both (repeated-stored _ _ (space-stored kind.Memory fs)) (repeated-stored _ _ (space-stored kind.Global fs)))))

-- the texts of what is declared, as they are looked up
pub space-texts : (k : ExportKind) (fs : List Field)
    → old.texts (old.space (space_kind k) (map field_as fs)) ≡ map bytes_in (space k fs)
space-texts k fs = texts-same (old.space (space_kind k) (map field_as fs)) ∙ ap (map bytes_in) (space-stored k fs)

pub type-texts : (fs : List Field)
    → old.texts (old.space old_kind.Type (map field_as fs)) ≡ map bytes_in (type_space fs)
type-texts fs = texts-same (old.space old_kind.Type (map field_as fs)) ∙ ap (map bytes_in) (types-stored fs)
