-- Identifiers, indices, type uses, block types and memory arguments, read from their kept tokens.
use Rattle.std.proofs.Common.{◌≡◌, ℕ, List, [], ◌∷◌, ◌++◌, Option, Some, None, refl, sym, ap, ◌∙◌}
use Rattle.std.proofs.Common.{append_assoc, append-nil}
use Rattle.wc_ops.specs.declared.val_type.ValType.{ValType as ValueType}
use Rattle.wc_ops.specs.declared.val_type.ValType.TheVariants.{I32}
use Rattle.wc_syntax.specs.declared.kind.Kind.{Kind}
use Rattle.wc_syntax.specs.declared.kind.Kind.TheVariants as kind
use Rattle.wc_syntax.specs.declared.role.Role.{Role}
use Rattle.wc_syntax.specs.declared.role.Role.TheVariants as role
use Rattle.wc_symbols.specs.declared.symbol.Value.{Value}
use Rattle.wc_symbols.specs.declared.symbol.Value.TheVariants.{Number, Offset, Exponent, ValType}
use Rattle.wc_surface.specs.Standard.Identifiers.{Identifier, identifier}
use Rattle.wc_surface.specs.Standard.Written.Indices.{Index, number, named}
use Rattle.wc_surface.specs.Standard.Written.TypeUses.{Param, Signature, TypeUse}
use Rattle.wc_surface.specs.Standard.Written.Instructions.{MemArg, BlockType, short, use_of}
use Rattle.wc_parse_code.specs.Standard.Tokens.{KeptToken}
use Rattle.wc_parse_code.specs.Standard.Productions.Tokens.{Said, ◌⊳◌, bytes, IsId, IsIndex, u32, id}
use Rattle.wc_parse_code.specs.Standard.Productions.Tokens.{IsValueType}
use Rattle.wc_parse_code.specs.Standard.Productions.TypeUses.{AreTypes, param, unnamed, IsParam, one, several}
use Rattle.wc_parse_code.specs.Standard.Productions.TypeUses.{AreParams, AreResults, signature, IsSignature, both}
use Rattle.wc_parse_code.specs.Standard.Productions.TypeUses.{type_use, IsTypeUse, inline, indexed, IsLong, by_index}
use Rattle.wc_parse_code.specs.Standard.Productions.TypeUses.{by_param, by_results, IsBlockType, no_type, one_type}
use Rattle.wc_parse_code.specs.Standard.Productions.TypeUses.{typed}
use Rattle.wc_parse_code.specs.Standard.Productions.Plain.{IsMemOffset, IsMemAlign, IsMemArg}

-- ---- identifiers and indices

-- the identifier that kept tokens say
abbrev pub id_in : List Said → Option Identifier
id_in [] = None
id_in (r ⊳ w ∷ us) = Some (identifier w.token w.text)

pub read-id : {r : Role} {us : List Said} {i : Option Identifier} → IsId r us i → id_in us ≡ i
read-id IsId.absent = refl
read-id (IsId.there (bytes e)) = refl

-- the number that is the value
abbrev number_of : Value → ℕ
number_of (Number n) = n
number_of _ = 0

-- the token as an index
abbrev index_by : Kind → KeptToken → Index
index_by kind.Id w = named (identifier w.token w.text)
index_by _ w = number w.token (number_of w.symbol.value)

-- the same by its own kind
abbrev pub index_of : KeptToken → Index
index_of w = index_by w.symbol.kind w

pub read-index : {w : KeptToken} {x : Index} → IsIndex w x → index_of w ≡ x
read-index {w} (u32 {n = n} h) =
    ap (λ (k : Kind). index_by k w) h.kind_is ∙ ap (λ (v : Value). number w.token (number_of v)) h.value_is
read-index {w} (id (bytes e)) = ap (λ (k : Kind). index_by k w) e

pub same-index : {w : KeptToken} {x y : Index} → IsIndex w x → IsIndex w y → x ≡ y
same-index a b = sym (read-index a) ∙ read-index b

-- ---- type uses

-- the value type that is the value
abbrev type_by : Value → ValueType
type_by (ValType t) = t
type_by _ = I32

-- the token as a value type
abbrev pub type_of : KeptToken → ValueType
type_of w = type_by w.symbol.value

pub read-type : {t : ValueType} (w : KeptToken) → IsValueType w t → type_of w ≡ t
read-type w e = ap type_by e

-- the first of these parameters has this identifier
abbrev named_first : Identifier → List Param → List Param
named_first i [] = []
named_first i (p ∷ ps) = param (Some i) p.ty ∷ ps

-- these parameters in front
abbrev with_params : List Param → TypeUse → TypeUse
with_params ps u = type_use u.index (signature (ps ++ u.signature.params) u.signature.results)

-- these results in front
abbrev with_results : List ValueType → TypeUse → TypeUse
with_results ts u = type_use u.index (signature u.signature.params (ts ++ u.signature.results))

-- a kept token in front of what is read
abbrev in_front : Role → KeptToken → TypeUse → TypeUse
in_front role.TypeIndex w u = type_use (Some (index_of w)) u.signature
in_front role.ParamId w u =
    type_use u.index (signature (named_first (identifier w.token w.text) u.signature.params) u.signature.results)
in_front role.ParamType w u = with_params (param None (type_of w) ∷ []) u
in_front role.ResultType w u = with_results (type_of w ∷ []) u
in_front _ w u = u

-- the type use that kept tokens say
abbrev pub read_use : List Said → TypeUse
read_use [] = type_use None (signature [] [])
read_use (r ⊳ w ∷ us) = in_front r w (read_use us)

param-types : {us : List Said} {ts : List ValueType} → AreTypes role.ParamType us ts → (xs : List Said)
    → read_use (us ++ xs) ≡ with_params (unnamed ts) (read_use xs)
param-types AreTypes.none xs = refl
param-types (AreTypes.more {w = w} {ts = ts} e rest) xs =
    ap (λ (u : TypeUse). with_params (param None (type_of w) ∷ []) u) (param-types rest xs)
    ∙ ap (λ (t : ValueType). with_params (param None t ∷ unnamed ts) (read_use xs)) (read-type w e)

one-param : {us : List Said} {ps : List Param} → IsParam us ps → (xs : List Said)
    → read_use (us ++ xs) ≡ with_params ps (read_use xs)
one-param (one {w = w} {t = t} (bytes {w = i} e) f) xs =
    ap (λ (t : ValueType). with_params (param (Some (identifier i.token i.text)) t ∷ []) (read_use xs)) (read-type w f)
one-param (several h) xs = param-types h xs

all-params : {us : List Said} {ps : List Param} → AreParams us ps → (xs : List Said)
    → read_use (us ++ xs) ≡ with_params ps (read_use xs)
all-params AreParams.none xs = refl
all-params (AreParams.more {us = us} {vs = vs} {ps = ps} {qs = qs} a b) xs =
    ap read_use (append_assoc us vs xs) ∙ one-param a (vs ++ xs) ∙ ap (with_params ps) (all-params b xs)
    ∙ ap (λ (all : List Param). type_use (read_use xs).index (signature all (read_use xs).signature.results))
    (sym (append_assoc ps qs (read_use xs).signature.params))

result-types : {us : List Said} {ts : List ValueType} → AreTypes role.ResultType us ts → (xs : List Said)
    → read_use (us ++ xs) ≡ with_results ts (read_use xs)
result-types AreTypes.none xs = refl
result-types (AreTypes.more {w = w} {ts = ts} e rest) xs =
    ap (λ (u : TypeUse). with_results (type_of w ∷ []) u) (result-types rest xs)
    ∙ ap (λ (t : ValueType). with_results (t ∷ ts) (read_use xs)) (read-type w e)

all-results : {us : List Said} {rs : List ValueType} → AreResults us rs
    → read_use us ≡ type_use None (signature [] rs)
all-results AreResults.none = refl
all-results (AreResults.more {us = us} {vs = vs} {ts = ts} a b) =
    result-types a vs ∙ ap (with_results ts) (all-results b)

read-signature : {us : List Said} {s : Signature} → IsSignature us s → read_use us ≡ type_use None s
read-signature (both {vs = vs} {ps = ps} {rs = rs} a b) =
    all-params a vs ∙ ap (with_params ps) (all-results b)
    ∙ ap (λ (all : List Param). type_use None (signature all rs)) (append-nil ps)

pub read-use : {us : List Said} {u : TypeUse} → IsTypeUse us u → read_use us ≡ u
read-use (inline h) = read-signature h
read-use (indexed {w = w} {us = us} {x = x} {s = s} i h) =
    ap (λ (x : Index). type_use (Some x) (read_use us).signature) (read-index i)
    ∙ ap (λ (u : TypeUse). type_use (Some x) u.signature) (read-signature h)

pub same-use : {us : List Said} {u v : TypeUse} → IsTypeUse us u → IsTypeUse us v → u ≡ v
same-use a b = sym (read-use a) ∙ read-use b

-- ---- block types

-- the block type of which this is written
abbrev block_by : Option Index → List Param → List ValueType → TypeUse → BlockType
block_by None [] [] u = short None
block_by None [] (t ∷ []) u = short (Some t)
block_by _ _ _ u = use_of u

-- the same of a type use
abbrev pub block_of : TypeUse → BlockType
block_of u = block_by u.index u.signature.params u.signature.results u

any-index : (i : Option Index) (p : Param) (ps : List Param) (rs : List ValueType) (u : TypeUse)
    → block_by i (p ∷ ps) rs u ≡ use_of u
any-index None p ps rs u = refl
any-index (Some x) p ps rs u = refl

any-front : (i : Option Index) (ps : List Param) (t r : ValueType) (rs : List ValueType) (u : TypeUse)
    → block_by i ps (t ∷ r ∷ rs) u ≡ use_of u
any-front None [] t r rs u = refl
any-front None (p ∷ ps) t r rs u = refl
any-front (Some x) ps t r rs u = refl

long-block : {u : TypeUse} → IsLong u → block_of u ≡ use_of u
long-block by_index = refl
long-block (by_param {i = i} {p = p} {ps = ps} {rs = rs}) = any-index i p ps rs _
long-block (by_results {i = i} {ps = ps} {t = t} {r = r} {rs = rs}) = any-front i ps t r rs _

pub read-block : {us : List Said} {t : BlockType} → IsBlockType us t → block_of (read_use us) ≡ t
read-block (no_type h) = ap block_of (read-use h)
read-block (one_type h) = ap block_of (read-use h)
read-block (typed h l) = ap block_of (read-use h) ∙ long-block l

-- ---- memory arguments

-- the offset that is the value
abbrev offset_of : Value → ℕ
offset_of (Offset n) = n
offset_of _ = 0

-- the exponent that is the value
abbrev exponent_of : Value → ℕ
exponent_of (Exponent e) = e
exponent_of _ = 0

-- a kept token in front of a memory argument
abbrev mem_in_front : Role → KeptToken → MemArg → MemArg
mem_in_front role.MemOffset w m = record { offset = Some (offset_of w.symbol.value); align = m.align }
mem_in_front role.MemAlign w m = record { offset = m.offset; align = Some (exponent_of w.symbol.value) }
mem_in_front _ w m = m

-- the memory argument that kept tokens say
abbrev pub read_mem : List Said → MemArg
read_mem [] = record { offset = None; align = None }
read_mem (r ⊳ w ∷ us) = mem_in_front r w (read_mem us)

read-align : {us : List Said} {e : Option ℕ} → IsMemAlign us e → read_mem us ≡ record { offset = None; align = e }
read-align IsMemAlign.absent = refl
read-align (IsMemAlign.there h) = ap (λ (v : Value). record { offset = None; align = Some (exponent_of v) }) h

read-offset : {us : List Said} {n : Option ℕ} → IsMemOffset us n → (xs : List Said) → (read_mem xs).offset ≡ None
    → read_mem (us ++ xs) ≡ record { offset = n; align = (read_mem xs).align }
read-offset IsMemOffset.absent xs none = ap (λ (o : Option ℕ). record { offset = o; align = (read_mem xs).align }) none
read-offset (IsMemOffset.there h) xs none =
    ap (λ (v : Value). record { offset = Some (offset_of v); align = (read_mem xs).align }) h

pub read-mem : {us : List Said} {m : MemArg} → IsMemArg us m → read_mem us ≡ m
read-mem (IsMemArg.both {vs = vs} {n = n} a b) =
    let after = read-align b in
    read-offset a vs (ap (λ (m : MemArg). m.offset) after)
    ∙ ap (λ (m : MemArg). record { offset = n; align = m.align }) after
