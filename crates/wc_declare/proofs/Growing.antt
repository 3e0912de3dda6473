-- Types one after another.
use Rattle.std.proofs.Common.{◌≡◌, ℕ, ◌+◌, ◌<◌, ◌≤◌, List, [], ◌∷◌, ◌++◌, length, drop}
use Rattle.std.proofs.Common.{get_or, map}
use Rattle.std.proofs.Common.{sum_by, refl, sym, ap, ◌∙◌, arith, length-append}
use Rattle.std.proofs.lemmas.List.Sums.{sum_by-cons}
use Rattle.wc_ast.specs.declared.func_type.FuncType.{FuncType}
use Rattle.wc_spaces.specs.declared.types.Types.{Types}
use Rattle.wc_spaces.specs.Kept.Types.{AreTypes}
use Rattle.wc_surface.specs.Standard.Keys.{key_of}
use Rattle.wc_surface.specs.Standard.Sizes.{use_size, func_size, global_size, import_size, inner_size, field_size}
use Rattle.wc_surface.specs.declared.type_use.TypeUse.{TypeUse}
use Rattle.wc_surface.specs.declared.field.Field.{Field}
use Rattle.wc_surface.specs.declared.field.Field.TheVariants as field
use Rattle.wc_surface.specs.declared.field.ImportDesc.{ImportDesc}
use Rattle.wc_surface.specs.declared.field.ImportDesc.TheVariants as import
use Rattle.wc_surface.specs.declared.field.FuncDesc.{FuncDesc}
use Rattle.wc_surface.specs.declared.field.FuncDesc.TheVariants as func
use Rattle.wc_surface.specs.declared.field.GlobalDesc.{GlobalDesc}
use Rattle.wc_surface.specs.declared.field.GlobalDesc.TheVariants as global
use Rattle.wc_declare.specs.Standard.Types.{import_uses, func_uses, global_uses, uses_of, all_uses}
use Rattle.wc_declare.specs.Standard.Types.{with_use, with_uses}
use Rattle.wc_declare.proofs.Faults.{next}

-- types behind others
pub uses-append : (ts : List FuncType) (us vs : List TypeUse) → with_uses ts (us ++ vs) ≡ with_uses (with_uses ts us) vs
uses-append ts [] vs = refl
uses-append ts (u ∷ us) vs = uses-append (with_use ts u.index u.signature) us vs

-- some are in the list, and the types of the rest of the uses are still to come
pub record Listing (total : List FuncType) (types : Types) (rest : List TypeUse) : Type 0 where
  pub so_far : List FuncType
  pub listed : AreTypes (map key_of so_far) types
  pub whole : with_uses so_far rest ≡ total

-- one more step
pub listed-more : (total : List FuncType) (old new : Types) (from us rest : List TypeUse) → from ≡ us ++ rest
    → Listing total old from
    → ((ts : List FuncType) → AreTypes (map key_of ts) old → AreTypes (map key_of (with_uses ts us)) new)
    → Listing total new rest
listed-more total old new from us rest e w h = record {
  so_far = with_uses w.so_far us;
  listed = h w.so_far w.listed;
  whole = sym (uses-append w.so_far us rest) ∙ ap (λ (x : List TypeUse). with_uses w.so_far x) (sym e) ∙ w.whole;
}

pub fields-next : (fs : List Field) (i : ℕ) (f : Field) → i < length fs → f ≡ get_or fs i f
    → all_uses (drop i fs) ≡ uses_of f ++ all_uses (drop (i + 1) fs)
fields-next fs i f lt e = ap (λ (x : List Field). all_uses x) (next fs i f lt)
    ∙ ap (λ (x : Field). uses_of x ++ all_uses (drop (i + 1) fs)) (sym e)

-- ---- how many there are

few-uses : (us : List TypeUse) → length us ≤ sum_by use_size us
few-uses [] = omega arith
few-uses (u ∷ us) = omega (arith, few-uses us, sum_by-cons use_size u us)

few-imports : (d : ImportDesc) → length (import_uses d) ≤ import_size d
few-imports (import.Func u) = omega arith
few-imports (import.Table l) = omega arith
few-imports (import.Memory l) = omega arith
few-imports (import.Global t) = omega arith

few-funcs : (d : FuncDesc) → length (func_uses d) ≤ func_size d
few-funcs (func.Import names) = omega arith
few-funcs (func.Code locals body) = omega (arith, few-uses body.uses)

few-globals : (d : GlobalDesc) → length (global_uses d) ≤ global_size d
few-globals (global.Import names) = omega arith
few-globals (global.Init body) = few-uses body.uses

few-inside : (f : Field) → length (uses_of f) ≤ inner_size f
few-inside (field.FuncType f) = omega arith
few-inside (field.Import f) = omega (arith, length-append (import_uses f.desc) [], few-imports f.desc)
few-inside (field.Func f) = omega (arith, few-funcs f.desc)
few-inside (field.Table f) = omega arith
few-inside (field.Memory f) = omega arith
few-inside (field.Global f) = few-globals f.desc
few-inside (field.Export f) = omega arith
few-inside (field.Start f) = omega arith
few-inside (field.Elem f) = few-uses f.offset.uses
few-inside (field.Data f) = few-uses f.offset.uses

pub few-types : (fs : List Field) → length fs + length (all_uses fs) ≤ sum_by field_size fs
few-types [] = omega arith
few-types (f ∷ fs) =
    omega (arith, few-types fs, few-inside f, length-append (uses_of f) (all_uses fs), sum_by-cons field_size f fs)
