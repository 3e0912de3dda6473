-- Function types and type uses (Core 1.0, 6.4.3 and 6.6.3), and block types (Core 2.0, 6.5.2).
use Rattle.std.specs.Prelude.{List, [], ◌∷◌, ◌++◌, Option, Some, None}
use Rattle.wc_ops.specs.declared.val_type.ValType.{ValType}
use Rattle.wc_syntax.specs.declared.role.Role.{Role}
use Rattle.wc_syntax.specs.declared.role.Role.TheVariants as role
use Rattle.wc_surface.specs.Standard.Identifiers.{Identifier}
use Rattle.wc_surface.specs.Standard.Written.Indices.{Index}
use Rattle.wc_surface.specs.Standard.Written.TypeUses.{Param, Signature, TypeUse}
use Rattle.wc_surface.specs.Standard.Written.Instructions.{BlockType, short, use_of}
use Rattle.wc_parse_code.specs.Standard.Tokens.{KeptToken}
use Rattle.wc_parse_code.specs.Standard.Productions.Tokens.{Said, ◌⊳◌, IsIdentifier, IsIndex, IsValueType}

-- valtype*, where each is this to the value (6.4.3)
pub data AreTypes (r : Role) : List Said → List ValType → Type 0 where
  none : AreTypes r [] []
  more : {w : KeptToken} {t : ValType} {us : List Said} {ts : List ValType} → IsValueType w t → AreTypes r us ts
      → AreTypes r (r ⊳ w ∷ us) (t ∷ ts)

-- a parameter with this identifier or none, of this type
abbrev pub param : Option Identifier → ValType → Param
param id ty = record { id = id; ty = ty }

-- parameters of these types, without identifiers
abbrev pub unnamed : List ValType → List Param
unnamed [] = []
unnamed (t ∷ ts) = param None t ∷ unnamed ts

-- param = "(" "param" id valtype ")" | "(" "param" valtype* ")"  (6.4.3)
pub data IsParam : List Said → List Param → Type 0 where
  one : {i w : KeptToken} {id : Identifier} {t : ValType} → IsIdentifier i id → IsValueType w t
      → IsParam (role.ParamId ⊳ i ∷ role.ParamType ⊳ w ∷ []) (param (Some id) t ∷ [])
  several : {us : List Said} {ts : List ValType} → AreTypes role.ParamType us ts → IsParam us (unnamed ts)

-- param*  (6.4.3)
pub data AreParams : List Said → List Param → Type 0 where
  none : AreParams [] []
  more : {us vs : List Said} {ps qs : List Param} → IsParam us ps → AreParams vs qs → AreParams (us ++ vs) (ps ++ qs)

-- result*, where result = "(" "result" valtype* ")"  (6.4.3)
pub data AreResults : List Said → List ValType → Type 0 where
  none : AreResults [] []
  more : {us vs : List Said} {ts rs : List ValType} → AreTypes role.ResultType us ts → AreResults vs rs
      → AreResults (us ++ vs) (ts ++ rs)

-- these parameters and results
abbrev pub signature : List Param → List ValType → Signature
signature params results = record { params = params; results = results }

-- param* result*, as in functype = "(" "func" param* result* ")"  (6.4.3)
pub data IsSignature : List Said → Signature → Type 0 where
  both : {us vs : List Said} {ps : List Param} {rs : List ValType} → AreParams us ps → AreResults vs rs
      → IsSignature (us ++ vs) (signature ps rs)

-- the type use with this index or none, behind which this is written
abbrev pub type_use : Option Index → Signature → TypeUse
type_use index signature = record { index = index; signature = signature }

-- typeuse = ( "(" "type" index ")" )? param* result*  (6.6.3)
pub data IsTypeUse : List Said → TypeUse → Type 0 where
  inline : {us : List Said} {s : Signature} → IsSignature us s → IsTypeUse us (type_use None s)
  indexed : {w : KeptToken} {us : List Said} {x : Index} {s : Signature} → IsIndex w x → IsSignature us s
      → IsTypeUse (role.TypeIndex ⊳ w ∷ us) (type_use (Some x) s)

-- the type use that is no short form of a block type: with an index, with a parameter, or with two results or more
-- (Core 2.0, 6.5.2)
pub data IsLong : TypeUse → Type 0 where
  by_index : {x : Index} {s : Signature} → IsLong (type_use (Some x) s)
  by_param : {i : Option Index} {p : Param} {ps : List Param} {rs : List ValType}
      → IsLong (type_use i (signature (p ∷ ps) rs))
  by_results : {i : Option Index} {ps : List Param} {t r : ValType} {rs : List ValType}
      → IsLong (type_use i (signature ps (t ∷ r ∷ rs)))

-- blocktype = result? | typeuse, of which Core 1.0 has the first alone. Where both fit, without an index, without
-- parameters and with at most one result, it is the short form, and no type use (Core 2.0, 6.5.2).
pub data IsBlockType : List Said → BlockType → Type 0 where
  no_type : {us : List Said} → IsTypeUse us (type_use None (signature [] [])) → IsBlockType us (short None)
  one_type : {us : List Said} {t : ValType} → IsTypeUse us (type_use None (signature [] (t ∷ [])))
      → IsBlockType us (short (Some t))
  typed : {us : List Said} {u : TypeUse} → IsTypeUse us u → IsLong u → IsBlockType us (use_of u)
