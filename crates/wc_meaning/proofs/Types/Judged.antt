-- Type uses, judged against the types of the text.
use Rattle.std.proofs.Common.{◌≡◌, ℕ, suc, Bool, true, false, not, ◌&&◌, ◌||◌, List, [], ◌∷◌, ◌++◌, map, Option, Some}
use Rattle.std.proofs.Common.{None, slice_get, refl, sym, ap, ap₂, ◌∙◌}
use Rattle.std.proofs.lemmas.Grind.{flat_map-append}
use Rattle.std.proofs.lemmas.Option.{slice_get-map}
use Rattle.std.specs.Prelude.{option_map, if◌then◌else◌}
use Rattle.std.specs.List.{flat_map}
use Rattle.std.specs.Option.{unwrap_or}
use lib.Pointwise.{pointwise}
use Rattle.wc_ops.specs.declared.val_type.ValType.{ValType}
use Rattle.wc_ast.specs.declared.func_type.FuncType.{FuncType}
use Rattle.wc_resolve_code.specs.declared.why.NameWhy.TheVariants.{TypeDiffers}
use Rattle.wc_spaces.specs.Standard.Spaces.{place_of}
use Rattle.wc_spaces.specs.Standard.Types.{index_of}
use Rattle.wc_surface.specs.declared.type_use.User.{User as StoredUser}
use Rattle.wc_surface.specs.declared.field.Field.{Field as StoredField}
use Rattle.wc_surface.specs.Standard.Identifiers.{Identifier}
use Rattle.wc_surface.specs.Standard.Keys.{type_bytes, result_bytes, key_of}
use Rattle.wc_surface.specs.Standard.Written.Indices.{Index, number, named}
use Rattle.wc_surface.specs.Standard.Written.TypeUses.{Param, TypeUse}
use Rattle.wc_surface.specs.Standard.Written.Fields.{Field}
use Rattle.wc_parse_code.specs.Stored.TypeUses.{index_as, name_at, names_from, use_as}
use Rattle.wc_parse_field.specs.Stored.Fields.{field_as}
use Rattle.wc_declare.specs.declared.kind.SpaceKind.TheVariants as old_kind
use Rattle.wc_declare.specs.Standard.Spaces as old_spaces
use Rattle.wc_declare.specs.Standard.Types as old_types
use Rattle.wc_declare.specs.Standard.Uses as old
use Rattle.wc_declare.specs.Standard.Stages as old_stages
use Rattle.wc_resolve_func.specs.Standard.Locals as old_locals
use Rattle.wc_meaning.specs.Standard.Contexts.{Faults, fault, bytes_in}
use Rattle.wc_meaning.specs.Standard.Spaces.{type_space}
use Rattle.wc_meaning.specs.Standard.Types.{func_type, same, same_type}
use Rattle.wc_meaning.specs.Standard.Gathered.{User, of_func, of_call, of_block, Use, all_uses, types_of}
use Rattle.wc_meaning.specs.Standard.Uses.{no_type, index_or_type, use_index, type_faults, found_faults, written_faults}
use Rattle.wc_meaning.specs.Standard.Uses.{refused, use_faults}
use Rattle.wc_meaning.specs.Standard.Denoted.{context_of, all_use_faults}
use Rattle.wc_meaning.proofs.Lists.{both, flat-mapped}
use Rattle.wc_meaning.proofs.Types.Keys.{key-same, index-same}
use Rattle.wc_meaning.proofs.Spaced.{type-texts}
use Rattle.wc_meaning.proofs.Types.Typed.{user_as, stored, uses-stored, types-same}

-- ---- the type of an index against the one that is written

written-parts : (ps rs : List ValType)
    → old.is_written (type_bytes ps ++ result_bytes rs) ≡ not (pointwise same ps [] && pointwise same rs [])
written-parts [] [] = refl
written-parts [] (r ∷ rs) = refl
written-parts (p ∷ ps) rs = refl

chosen : (x y : Faults) (a b : Bool) → (if not a && not b then x else y) ≡ (if a || b then y else x)
chosen x y true b = refl
chosen x y false true = refl
chosen x y false false = refl

given : (token : ℕ) (o : Option FuncType) (f : FuncType)
    → old.type_faults token (option_map key_of o) (key_of f) ≡ type_faults token o f
given token None f = refl
given token (Some g) f =
    ap₂ (λ (p q : Bool). if p && not q then fault token TypeDiffers else []) (written-parts f.params f.results)
    (key-same g f)
    ∙ chosen (fault token TypeDiffers) [] (same_type f no_type) (same_type g f)

-- ---- identifiers of parameters

one-refused : (user : User) (place : ℕ) (o : Option Identifier)
    → flat_map (λ n. old.param_fault (user_as user) n.id.token) (name_at place o) ≡ refused user o
one-refused of_func place None = refl
one-refused of_func place (Some i) = refl
one-refused of_call place None = refl
one-refused of_call place (Some i) = refl
one-refused of_block place None = refl
one-refused of_block place (Some i) = refl

params-refused : (user : User) (place : ℕ) (ps : List Param)
    → old.param_faults (user_as user) (names_from place ps) ≡ flat_map (λ p. refused user p.id) ps
params-refused user place [] = refl
params-refused user place (p ∷ ps) =
    flat_map-append (λ n. old.param_fault (user_as user) n.id.token) (name_at place p.id) (names_from (suc place) ps)
    ∙ both (one-refused user place p.id) (params-refused user (suc place) ps)

module _ (ws : List Field) where
  -- the fields as they are stored
  abbrev all : List StoredField
  all = map field_as ws

  -- the identifiers of types, and their keys
  abbrev ids : List (Option (List ℕ))
  ids = old_spaces.texts (old_spaces.space old_kind.Type all)

  abbrev keys : List (List ℕ)
  keys = map key_of (old_types.types_of all)

  -- ---- the index of the type that a use is of

  indexed : (o : Option Index) (f : FuncType)
      → old.index_in ids keys (option_map index_as o) (key_of f) ≡ index_or_type (context_of ws) o f
  indexed None f =
      ap (λ (ts : List FuncType). unwrap_or (index_of (key_of f) (map key_of ts)) 0) (types-same ws)
      ∙ ap (λ (o : Option ℕ). unwrap_or o 0) (index-same f 0 (types_of ws))
  indexed (Some (number token n)) f = refl
  indexed (Some (named i)) f =
      ap (λ (ds : List (Option (List ℕ))). unwrap_or (place_of i.text ds) 0) (type-texts ws)

  pub use-indexed : (user : StoredUser) (token : ℕ) (u : TypeUse)
      → old_locals.type_index all (use_as user token u) ≡ use_index (context_of ws) u
  use-indexed user token u = indexed u.index (func_type u.signature)

  -- ---- what is wrong with a use

  at-type : (token n : ℕ) (f : FuncType)
      → old.type_faults token (slice_get keys n) (key_of f) ≡ type_faults token (slice_get (types_of ws) n) f
  at-type token n f =
      ap (λ (ts : List FuncType). old.type_faults token (slice_get (map key_of ts) n) (key_of f)) (types-same ws)
      ∙ ap (λ (o : Option (List ℕ)). old.type_faults token o (key_of f)) (slice_get-map key_of (types_of ws) n)
      ∙ given token (slice_get (types_of ws) n) f

  at-place : (token : ℕ) (o : Option ℕ) (f : FuncType)
      → old.place_faults keys token o (key_of f) ≡ found_faults (context_of ws) token o f
  at-place token None f = refl
  at-place token (Some n) f = at-type token n f

  index-judged : (o : Option Index) (f : FuncType)
      → old.index_faults ids keys (option_map index_as o) (key_of f) ≡ written_faults (context_of ws) o f
  index-judged None f = refl
  index-judged (Some (number token n)) f = at-type token n f
  index-judged (Some (named i)) f =
      ap (λ (ds : List (Option (List ℕ))). old.place_faults keys i.token (place_of i.text ds) (key_of f))
      (type-texts ws)
      ∙ at-place i.token (place_of i.text (map bytes_in (type_space ws))) f

  use-judged : (u : Use) → old.use_faults ids keys (stored u) ≡ use_faults (context_of ws) u
  use-judged u =
      both (index-judged u.ty.index (func_type u.ty.signature)) (params-refused u.user 0 u.ty.signature.params)

  pub uses-judged : old_stages.all_use_faults all ≡ all_use_faults (context_of ws) ws
  uses-judged =
      ap (flat_map (old.use_faults ids keys)) (sym (uses-stored ws))
      ∙ flat-mapped stored (old.use_faults ids keys) (use_faults (context_of ws)) use-judged (all_uses ws)
