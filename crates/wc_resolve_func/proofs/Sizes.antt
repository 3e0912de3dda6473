-- How many parameters and locals the functions of a text have.
use Rattle.std.proofs.Common.{◌≡◌, ℕ, zero, suc, ◌+◌, ◌<◌, ◌≤◌, Bool, true, false, cond, List, [], ◌∷◌, ◌++◌, length}
use Rattle.std.proofs.Common.{map, slice_get, slice_index_or, Option, Some, None, is_some, sum_by, refl, ap, arith}
use Rattle.std.proofs.lemmas.List.Sums.{sum_by-cons, sum_by-append}
use Rattle.std.specs.List.{flat_map}
use Rattle.std.specs.Option.{option_map}
use Rattle.wc_ast.specs.declared.func_type.FuncType.{FuncType}
use Rattle.wc_ast.specs.Standard.LocalGroups.{locals_limit}
use Rattle.wc_resolve_code.specs.declared.why.NameWhy.{NameWhy}
use Rattle.wc_spaces.specs.declared.noted.Fault.{Fault}
use Rattle.wc_spaces.proofs.Least.{least-none}
use Rattle.wc_surface.specs.Standard.Sizes.{use_size, func_size, global_size, import_size, inner_size, field_size}
use Rattle.wc_surface.specs.Standard.Sizes.{IsSurface}
use Rattle.wc_surface.specs.declared.type_use.TypeUse.{TypeUse}
use Rattle.wc_surface.specs.declared.local.Local.{Local}
use Rattle.wc_surface.specs.declared.field.Field.{Field}
use Rattle.wc_surface.specs.declared.field.Field.TheVariants as field
use Rattle.wc_surface.specs.declared.field.ImportDesc.{ImportDesc}
use Rattle.wc_surface.specs.declared.field.ImportDesc.TheVariants as import
use Rattle.wc_surface.specs.declared.field.FuncDesc.{FuncDesc}
use Rattle.wc_surface.specs.declared.field.FuncDesc.TheVariants as func
use Rattle.wc_surface.specs.declared.field.GlobalDesc.{GlobalDesc}
use Rattle.wc_surface.specs.declared.field.GlobalDesc.TheVariants as global
use Rattle.wc_declare.specs.Standard.Types.{import_uses, own_uses, inner_uses, func_uses, global_uses, uses_of}
use Rattle.wc_declare.specs.Standard.Types.{all_uses, written_type, written_types, type_index, with_type, with_use}
use Rattle.wc_declare.specs.Standard.Types.{with_uses, types_of}
use Rattle.wc_declare.specs.Standard.Inner.{desc_locals, locals_of, too_many, inner_faults, param_ids, names_of}
use Rattle.wc_declare.specs.Standard.Inner.{local_ids}
use Rattle.wc_declare.specs.Standard.Spaces.{repeated, space_faults}
use Rattle.wc_declare.specs.Standard.Order.{late_after, second_after}
use Rattle.wc_declare.specs.Standard.Stages.{declaration_faults, or_else, first_fault}
use Rattle.wc_resolve_func.specs.Standard.Fitting.{FieldFits}

abbrev params : FuncType → ℕ
params t = length t.params

abbrev locals : Field → ℕ
locals f = length (locals_of f)

-- ---- all types together have no more parameters than are written

with-type : (ts : List FuncType) (f : FuncType) → sum_by params (with_type ts f) ≤ sum_by params ts + params f
with-type ts f = by (is_some (type_index f ts))
  where
    by : (b : Bool) → sum_by params (cond b ts (ts ++ f ∷ [])) ≤ sum_by params ts + params f
    by true = omega arith
    by false = omega (arith, sum_by-append params ts (f ∷ []), sum_by-cons params f [])

with-use : (ts : List FuncType) (u : TypeUse) → sum_by params (with_use ts u.index u.signature) ≤ sum_by params ts +
    use_size u
with-use ts u = by u.index
  where
    by : (i : Option _) → sum_by params (with_use ts i u.signature) ≤ sum_by params ts + use_size u
    by None = omega (arith, with-type ts u.signature)
    by (Some i) = omega arith

with-all : (ts : List FuncType) (us : List TypeUse)
    → sum_by params (with_uses ts us) ≤ sum_by params ts + sum_by use_size us
with-all ts [] = omega arith
with-all ts (u ∷ us) =
    omega (arith, with-all (with_use ts u.index u.signature) us, with-use ts u, sum_by-cons use_size u us)

-- ---- inside a field

imported : (d : ImportDesc) → sum_by use_size (import_uses d) ≤ import_size d
imported (import.Func u) = omega (arith, sum_by-cons use_size u [])
imported (import.Table l) = omega arith
imported (import.Memory l) = omega arith
imported (import.Global t) = omega arith

inside-func : (d : FuncDesc) → sum_by use_size (func_uses d) + length (desc_locals d) ≤ func_size d
inside-func (func.Import names) = omega arith
inside-func (func.Code locals body) = omega arith

inside-global : (d : GlobalDesc) → sum_by use_size (global_uses d) ≤ global_size d
inside-global (global.Import names) = omega arith
inside-global (global.Init body) = omega arith

inside : (f : Field) → sum_by params (written_type f) + (sum_by use_size (own_uses f) + sum_by use_size (inner_uses f))
    + locals f ≤ inner_size f
inside (field.FuncType f) = omega (arith, sum_by-cons params f.signature [])
inside (field.Import f) = omega (arith, imported f.desc)
inside (field.Func f) = omega (arith, inside-func f.desc, sum_by-cons use_size f.ty [])
inside (field.Table f) = omega arith
inside (field.Memory f) = omega arith
inside (field.Global f) = omega (arith, inside-global f.desc)
inside (field.Export f) = omega arith
inside (field.Start f) = omega arith
inside (field.Elem f) = omega arith
inside (field.Data f) = omega arith

all-inside : (fs : List Field)
    → sum_by params (written_types fs) + sum_by use_size (all_uses fs) + sum_by locals fs ≤ sum_by field_size fs
all-inside [] = omega arith
all-inside (f ∷ fs) = omega (
  arith,
  all-inside fs,
  inside f,
  sum_by-append params (written_type f) (written_types fs),
  sum_by-append use_size (uses_of f) (all_uses fs),
  sum_by-append use_size (own_uses f) (inner_uses f),
  sum_by-cons locals f fs,
  sum_by-cons field_size f fs,
)

-- ---- one of them has no more than all together

module _ {X : Type 0} (g : X → ℕ) where
  one-of : (xs : List X) (k : ℕ) (d : X) → k < length xs → g (slice_index_or xs k d) ≤ sum_by g xs
  one-of [] k d lt = absurd (omega (arith, lt))
  one-of (x ∷ xs) zero d lt = omega (arith, sum_by-cons g x xs)
  one-of (x ∷ xs) (suc k) d lt = omega (arith, one-of xs k d (omega (arith, lt)), sum_by-cons g x xs)

  one-mapped : (xs : List X) (k d : ℕ) → k < length (map g xs) → slice_index_or (map g xs) k d ≤ sum_by g xs
  one-mapped [] k d lt = absurd (omega (arith, lt))
  one-mapped (x ∷ xs) zero d lt = omega (arith, sum_by-cons g x xs)
  one-mapped (x ∷ xs) (suc k) d lt = omega (arith, one-mapped xs k d (omega (arith, lt)), sum_by-cons g x xs)

-- ---- no more locals than the limit

none-first : (a b : Option (Fault NameWhy)) → or_else a b ≡ None → a ≡ None
none-first None b e = refl
none-first (Some f) b e = absurd cc

none-behind : {X : Type 0} (xs ys : List X) → xs ++ ys ≡ [] → ys ≡ []
none-behind [] ys e = e
none-behind (x ∷ xs) ys e = absurd (omega (arith, ap (λ z. length z) e))

none-before : {X : Type 0} (xs ys : List X) → xs ++ ys ≡ [] → xs ≡ []
none-before [] ys e = refl
none-before (x ∷ xs) ys e = absurd (omega (arith, ap (λ z. length z) e))

none-inside : {X Y : Type 0} (g : X → List Y) (xs : List X) (k : ℕ) (d : X) → k < length xs → flat_map g xs ≡ []
    → g (slice_index_or xs k d) ≡ []
none-inside g [] k d lt e = absurd (omega (arith, lt))
none-inside g (x ∷ xs) zero d lt e = none-before (g x) (flat_map g xs) e
none-inside g (x ∷ xs) (suc k) d lt e = none-inside g xs k d (omega (arith, lt)) (none-behind (g x) (flat_map g xs) e)

few-locals : (ls : List Local) (n : ℕ) → too_many (option_map (λ l. l.token) (slice_get ls n)) ≡ [] → length ls ≤ n
few-locals [] n e = omega arith
few-locals (l ∷ ls) zero e = absurd (omega (arith, ap (λ z. length z) e))
few-locals (l ∷ ls) (suc n) e = omega (arith, few-locals ls n e)

within-limit : (fs : List Field) (k : ℕ) (d : Field) → k < length fs → first_fault fs ≡ None
    → locals (slice_index_or fs k d) ≤ locals_limit
within-limit fs k d lt e =
    let f = slice_index_or fs k d in
    let all = least-none (declaration_faults fs) (none-first _ _ e) in
    let inner = none-behind (second_after false fs) (flat_map inner_faults fs)
    (none-behind (late_after false fs) _ (none-behind (space_faults fs) _ all)) in
    few-locals (locals_of f) locals_limit
    (none-behind (repeated (param_ids (names_of f) ++ local_ids (locals_of f))) _
    (none-inside inner_faults fs k d lt inner))

pub all-fit : (fs : List Field) → IsSurface fs → first_fault fs ≡ None → (k : ℕ) (d : Field) → k < length fs
    → FieldFits fs (slice_index_or fs k d)
all-fit fs w e k d lt = record {
  room = λ i n l. omega (
    arith,
    w.sized,
    all-inside fs,
    with-all (written_types fs) (all_uses fs),
    one-of locals fs k d lt,
    one-mapped params (types_of fs) i n l,
  );
  within = within-limit fs k d lt e;
}
