-- Type uses in the order of the text, and the list of types.
use Rattle.std.proofs.Common.{◌≡◌, ℕ, true, false, List, [], ◌∷◌, ◌++◌, map, Option, Some, None, is_some}
use Rattle.std.proofs.Common.{refl, sym, ap, ap₂, ◌∙◌}
use Rattle.std.proofs.lemmas.List.{map-append}
use Rattle.std.specs.Prelude.{nat_lt, if◌then◌else◌}
use Rattle.std.specs.List.{flat_map}
use Rattle.wc_ast.specs.declared.func_type.FuncType.{FuncType}
use Rattle.wc_body.specs.Standard.Nested.{empty, op, region, choice}
use Rattle.wc_surface.specs.declared.type_use.User.{User as StoredUser}
use Rattle.wc_surface.specs.declared.type_use.User.TheVariants as user
use Rattle.wc_surface.specs.declared.type_use.TypeUse.{TypeUse as StoredUse}
use Rattle.wc_surface.specs.Standard.Written.Indices.{Index}
use Rattle.wc_surface.specs.Standard.Written.TypeUses.{Signature}
use Rattle.wc_surface.specs.Standard.Written.Instructions.{Plain, call_indirect, BlockType, short, use_of, Instrs}
use Rattle.wc_surface.specs.Standard.Written.Fields.{Desc, Function, Global, Field, type_field, import_field}
use Rattle.wc_surface.specs.Standard.Written.Fields.{func_field, global_field, elem_field, data_field}
use Rattle.wc_parse_code.specs.Stored.Order as old_order
use Rattle.wc_parse_code.specs.Stored.TypeUses.{use_as}
use Rattle.wc_parse_code.specs.Stored.Rows as old_rows
use Rattle.wc_parse_code.specs.Stored.Bodies.{body_as}
use Rattle.wc_parse_field.specs.Stored.Fields.{field_as}
use Rattle.wc_declare.specs.Standard.Types as old
use Rattle.wc_meaning.specs.Standard.Types.{func_type, type_index, with_types}
use Rattle.wc_meaning.specs.Standard.Gathered.{User, of_func, of_call, of_block, Use, plain_uses, block_uses, uses_in}
use Rattle.wc_meaning.specs.Standard.Gathered.{put, in_order, own_uses, inner_uses, all_uses, defined_type, implied}
use Rattle.wc_meaning.specs.Standard.Gathered.{types_of}
use Rattle.wc_meaning.proofs.Lists.{both, flat-mapped}
use Rattle.wc_meaning.proofs.Types.Keys.{index-same}

-- what a use is of, and a use, as they are stored
abbrev pub user_as : User → StoredUser
user_as of_func = user.Func
user_as of_call = user.CallIndirect
user_as of_block = user.Block

abbrev pub stored : Use → StoredUse
stored u = use_as (user_as u.user) u.token u.ty

-- ---- the uses of a body

both-stored : (us vs : List Use) {xs ys : List StoredUse} → map stored us ≡ xs → map stored vs ≡ ys
    → map stored (us ++ vs) ≡ xs ++ ys
both-stored us vs e f = map-append stored us vs ∙ both e f

plain-stored : (p : Plain) → map stored (plain_uses p) ≡ old_rows.uses_in p
plain-stored (call_indirect token u) = refl
plain-stored _ = refl

block-stored : (token : ℕ) (t : BlockType) → map stored (block_uses token t) ≡ old_rows.type_uses_in token t
block-stored token (short t) = refl
block-stored token (use_of u) = refl

gathered-stored : (c : Instrs)
    → map stored (uses_in c) ≡ old_rows.gathered old_rows.uses_in (λ h. old_rows.type_uses_in h.token h.ty) c
gathered-stored empty = refl
gathered-stored (op p next) = both-stored (plain_uses p) (uses_in next) (plain-stored p) (gathered-stored next)
gathered-stored (region r h inside next) =
    both-stored (block_uses h.token h.ty) (uses_in inside ++ uses_in next) (block-stored h.token h.ty)
    (both-stored (uses_in inside) (uses_in next) (gathered-stored inside) (gathered-stored next))
gathered-stored (choice h first second next) =
    both-stored (block_uses h.token h.ty) (uses_in first ++ (uses_in second ++ uses_in next))
    (block-stored h.token h.ty)
    (both-stored (uses_in first) (uses_in second ++ uses_in next) (gathered-stored first)
    (both-stored (uses_in second) (uses_in next) (gathered-stored second) (gathered-stored next)))

-- ---- in the order of the text

abbrev at_token : StoredUse → ℕ
at_token u = u.token

put-stored : (u : Use) (us : List Use) → map stored (put u us) ≡ old_order.put at_token (stored u) (map stored us)
put-stored u [] = refl
put-stored u (v ∷ vs) =
    elim (nat_lt u.token v.token) as (λ b. map stored (if b then u ∷ v ∷ vs else v ∷ put u vs)
    ≡ (if b then stored u ∷ stored v ∷ map stored vs
    else stored v ∷ old_order.put at_token (stored u) (map stored vs))) [
      | true ↦ refl
      | false ↦ ap (λ (xs : List StoredUse). stored v ∷ xs) (put-stored u vs)
    ]

order-stored : (us : List Use) → map stored (in_order us) ≡ old_order.in_order at_token (map stored us)
order-stored [] = refl
order-stored (u ∷ us) =
    put-stored u (in_order us) ∙ ap (old_order.put at_token (stored u)) (order-stored us)

body-uses : (c : Instrs) → map stored (in_order (uses_in c)) ≡ (body_as c).uses
body-uses c = order-stored (uses_in c) ∙ ap (old_order.in_order at_token) (gathered-stored c)

-- ---- the uses of a text

own-stored : (f : Field) → map stored (own_uses f) ≡ old.own_uses (field_as f)
own-stored (import_field m i (Desc.func u)) = refl
own-stored (func_field token d (Function.imported m u)) = refl
own-stored _ = refl

inner-stored : (f : Field) → map stored (inner_uses f) ≡ old.inner_uses (field_as f)
inner-stored (func_field token d (Function.code u ls c)) = body-uses c
inner-stored (global_field d (Global.init g c)) = body-uses c
inner-stored (elem_field t c xs) = body-uses c
inner-stored (data_field m c bytes) = body-uses c
inner-stored _ = refl

pub uses-stored : (fs : List Field) → map stored (all_uses fs) ≡ old.all_uses (map field_as fs)
uses-stored [] = refl
uses-stored (f ∷ fs) =
    both-stored (own_uses f ++ inner_uses f) (all_uses fs)
    (both-stored (own_uses f) (inner_uses f) (own-stored f) (inner-stored f)) (uses-stored fs)

-- ---- the list of types

added-same : (ts : List FuncType) (f : FuncType)
    → old.with_type ts f ≡ (if is_some (type_index f ts) then ts else ts ++ f ∷ [])
added-same ts f = ap (λ (o : Option ℕ). if is_some o then ts else ts ++ f ∷ []) (index-same f 0 ts)

-- the types of uses that are written without an index
abbrev implied_by : List Use → List FuncType
implied_by us = flat_map (λ u. implied u.ty.index u.ty.signature) us

one-added : (user : StoredUser) (token : ℕ) (o : Option Index) (s : Signature) (us : List Use)
    → ((ts : List FuncType) → old.with_uses ts (map stored us) ≡ with_types ts (implied_by us)) → (ts : List FuncType)
    → old.with_uses ts (use_as user token (record { index = o; signature = s }) ∷ map stored us)
    ≡ with_types ts (implied o s ++ implied_by us)
one-added user token None s us same ts =
    ap (λ (all : List FuncType). old.with_uses all (map stored us)) (added-same ts (func_type s)) ∙ same _
one-added user token (Some x) s us same ts = same ts

with-stored : (us : List Use) (ts : List FuncType) → old.with_uses ts (map stored us) ≡ with_types ts (implied_by us)
with-stored [] ts = refl
with-stored (u ∷ us) ts =
    one-added (user_as u.user) u.token u.ty.index u.ty.signature us (with-stored us) ts

defined-stored : (f : Field) → old.written_type (field_as f) ≡ defined_type f
defined-stored (type_field i s) = refl
defined-stored _ = refl

pub types-same : (fs : List Field) → old.types_of (map field_as fs) ≡ types_of fs
types-same fs =
    ap₂ old.with_uses (flat-mapped field_as old.written_type defined_type defined-stored fs) (sym (uses-stored fs))
    ∙ with-stored (all_uses fs) (flat_map defined_type fs)
