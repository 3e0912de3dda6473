-- Index spaces (Core 1.0, 6.6.1 and 6.6.13): what fields declare in each, in the order of the text. An import declares
-- what it brings. Where no import stands behind a definition, imports come first.
use Rattle.std.specs.Prelude.{ℕ, List, [], ◌∷◌, ◌++◌, map, Option, Some, None}
use Rattle.wc_resolve_code.specs.declared.why.NameWhy.{NameWhy}
use Rattle.wc_resolve_code.specs.declared.why.NameWhy.TheVariants.{DuplicateId}
use Rattle.wc_spaces.specs.declared.noted.Fault.{Fault}
use Rattle.wc_spaces.specs.Standard.Spaces.{duplicates_after}
use Rattle.wc_surface.specs.Standard.Identifiers.{Identifier}
use Rattle.wc_surface.specs.declared.field.Field.{Field}
use Rattle.wc_surface.specs.declared.field.Field.TheVariants as field
use Rattle.wc_surface.specs.declared.field.ImportDesc.{ImportDesc}
use Rattle.wc_surface.specs.declared.field.ImportDesc.TheVariants as import
use Rattle.wc_declare.specs.declared.kind.SpaceKind.{SpaceKind}
use Rattle.wc_declare.specs.declared.kind.SpaceKind.TheVariants as kind

-- what an import declares in an index space (6.6.4)
abbrev pub brings : SpaceKind → ImportDesc → Option Identifier → List (Option Identifier)
brings kind.Func (import.Func u) id = id ∷ []
brings kind.Table (import.Table limits) id = id ∷ []
brings kind.Memory (import.Memory limits) id = id ∷ []
brings kind.Global (import.Global ty) id = id ∷ []
brings _ _ id = []

-- what a field declares in an index space: nothing, or one thing, with an identifier or none
abbrev pub declares : SpaceKind → Field → List (Option Identifier)
declares kind.Type (field.FuncType f) = f.id ∷ []
declares k (field.Import f) = brings k f.desc f.id
declares kind.Func (field.Func f) = f.id ∷ []
declares kind.Table (field.Table f) = f.id ∷ []
declares kind.Memory (field.Memory f) = f.id ∷ []
declares kind.Global (field.Global f) = f.id ∷ []
declares _ _ = []

-- all that fields declare in an index space
abbrev pub space : SpaceKind → List Field → List (Option Identifier)
space k [] = []
space k (f ∷ fs) = declares k f ++ space k fs

-- the text of an identifier, where there is one
abbrev pub text_in : Option Identifier → Option (List ℕ)
text_in None = None
text_in (Some id) = Some id.text

-- the texts of declarations
abbrev pub texts : List (Option Identifier) → List (Option (List ℕ))
texts ds = map text_in ds

-- the token and the text of an identifier, where there is one
abbrev pub told_in : Option Identifier → Option (ℕ × List ℕ)
told_in None = None
told_in (Some id) = Some (id.token, id.text)

-- what has the identifier of one before it, behind others of these texts
abbrev pub repeated_after : List (Option (List ℕ)) → List (Option Identifier) → List (Fault NameWhy)
repeated_after before ds = duplicates_after DuplicateId before (map told_in ds)

-- what has the identifier of one before it
abbrev pub repeated : List (Option Identifier) → List (Fault NameWhy)
repeated ds = repeated_after [] ds

-- what has an identifier that one before it has in its index space
abbrev pub space_faults : List Field → List (Fault NameWhy)
space_faults fs = repeated (space kind.Type fs) ++ (repeated (space kind.Func fs) ++ (repeated (space kind.Table fs)
    ++ (repeated (space kind.Memory fs) ++ repeated (space kind.Global fs))))
