-- What is known around the instructions of a function.
use Rattle.std.proofs.Common.{◌≡◌, ℕ, List, ◌++◌, map, slice_index_or, Option, sym, ap, ◌∙◌, subst}
use Rattle.wc_spaces.specs.declared.space.Space.{Space}
use Rattle.wc_spaces.specs.Kept.Spaces.{IsSpace}
use Rattle.wc_surface.specs.Standard.Identifiers.{Identifier}
use Rattle.wc_surface.specs.Standard.WrittenLocals.{written_out}
use Rattle.wc_surface.specs.declared.type_use.ParamName.{ParamName}
use Rattle.wc_surface.specs.declared.type_use.TypeUse.{TypeUse}
use Rattle.wc_surface.specs.declared.local.Local.{Local}
use Rattle.wc_surface.specs.declared.local.LocalGroup.{LocalGroup}
use Rattle.wc_surface.specs.declared.field.Field.{Field}
use Rattle.wc_declare.specs.Standard.Spaces.{texts}
use Rattle.wc_declare.specs.Standard.Inner.{local_ids}
use Rattle.wc_resolve_func.specs.Standard.Locals.{type_index, param_counts, params_from, local_space}

-- the locals of a function
pub known-locals : (fs : List Field) (u : TypeUse) (ls : List Local) (count index : ℕ) (counts : List ℕ)
    (names : List ParamName)
    (gs : List LocalGroup) (s : Space) → counts ≡ param_counts fs → index ≡ type_index fs u
    → count ≡ slice_index_or counts index 0
    → names ≡ u.names → written_out gs ≡ ls
    → IsSpace (texts (params_from 0 count names ++ local_ids (written_out gs))) s
    → IsSpace (texts (local_space fs u ls)) s
known-locals fs u ls count index counts names gs s ec ei en ep el w =
    let counted = en ∙ ap (λ (x : List ℕ). slice_index_or x index 0) ec
    ∙ ap (λ (n : ℕ). slice_index_or (param_counts fs) n 0) ei in
    subst (λ (x : List (Option Identifier)). IsSpace (texts x) s)
    (ap (λ (n : ℕ). params_from 0 n names ++ local_ids (written_out gs)) counted
    ∙ ap (λ (x : List ParamName). params_from 0 (slice_index_or (param_counts fs) (type_index fs u) 0) x ++ local_ids
    (written_out gs)) ep
    ∙ ap (λ (x : List Local). params_from 0 (slice_index_or (param_counts fs) (type_index fs u) 0) u.names ++ local_ids
    x) el)
    w

-- the types of its uses
pub known-uses : (fs : List Field) (own uses : List TypeUse) (items now : List ℕ) → uses ≡ own
    → items ≡ map (type_index fs) uses
    → now ≡ items → map (type_index fs) own ≡ now
known-uses fs own uses items now eu ei en = ap (λ (x : List TypeUse). map (type_index fs) x) (sym eu) ∙ sym ei ∙ sym en
