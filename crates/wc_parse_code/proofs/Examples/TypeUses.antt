-- Type uses and block types.
use Rattle.std.proofs.Common.{[], ◌∷◌, Some, None, refl, codes}
use Rattle.wc_ops.specs.declared.val_type.ValType.TheVariants.{I32, I64}
use Rattle.wc_syntax.specs.declared.role.Role.TheVariants as role
use Rattle.wc_surface.specs.Standard.Identifiers.{identifier}
use Rattle.wc_surface.specs.Standard.Written.Indices.{number, named}
use Rattle.wc_surface.specs.Standard.Written.Instructions.{short, use_of}
use Rattle.wc_parse_code.specs.Standard.Productions.Tokens.{◌⊳◌, IsIdentifier, IsIndex}
use Rattle.wc_parse_code.specs.Standard.Productions.TypeUses.{AreTypes, param, IsParam, AreParams, AreResults}
use Rattle.wc_parse_code.specs.Standard.Productions.TypeUses.{signature, IsSignature, type_use, IsTypeUse, IsLong}
use Rattle.wc_parse_code.specs.Standard.Productions.TypeUses.{IsBlockType}
use Rattle.wc_parse_code.proofs.Examples.Words.{id_at, natural, i32_at, i64_at}

-- ---- `(type $t) (param i32 i64) (param) (param $x i32) (result i64)`

-- `(param i32 i64)`
two_in_a_group : IsParam (role.ParamType ⊳ i32_at 6 ∷ role.ParamType ⊳ i64_at 7 ∷ [])
    (param None I32 ∷ param None I64 ∷ [])
two_in_a_group = IsParam.several (AreTypes.more refl (AreTypes.more refl AreTypes.none))

-- `(param)`
none_in_a_group : IsParam [] []
none_in_a_group = IsParam.several AreTypes.none

-- `(param $x i32)`
named_param : IsParam (role.ParamId ⊳ id_at (codes "$x") 14 ∷ role.ParamType ⊳ i32_at 15 ∷ [])
    (param (Some (identifier 14 (codes "$x"))) I32 ∷ [])
named_param = IsParam.one (IsIdentifier.bytes refl) refl

-- the three groups
three_groups : AreParams (role.ParamType ⊳ i32_at 6 ∷ role.ParamType ⊳ i64_at 7
    ∷ role.ParamId ⊳ id_at (codes "$x") 14 ∷ role.ParamType ⊳ i32_at 15 ∷ [])
    (param None I32 ∷ param None I64 ∷ param (Some (identifier 14 (codes "$x"))) I32 ∷ [])
three_groups =
    AreParams.more two_in_a_group (AreParams.more none_in_a_group (AreParams.more named_param AreParams.none))

-- `(result i64)`
one_result : AreTypes role.ResultType (role.ResultType ⊳ i64_at 19 ∷ []) (I64 ∷ [])
one_result = AreTypes.more refl AreTypes.none

-- all of it: what is written behind the index is kept beside it
index_and_types : IsTypeUse
    (role.TypeIndex ⊳ id_at (codes "$t") 2 ∷ role.ParamType ⊳ i32_at 6 ∷ role.ParamType ⊳ i64_at 7
    ∷ role.ParamId ⊳ id_at (codes "$x") 14 ∷ role.ParamType ⊳ i32_at 15 ∷ role.ResultType ⊳ i64_at 19 ∷ [])
    (type_use (Some (named (identifier 2 (codes "$t"))))
    (signature (param None I32 ∷ param None I64 ∷ param (Some (identifier 14 (codes "$x"))) I32 ∷ []) (I64 ∷ [])))
index_and_types = IsTypeUse.indexed (IsIndex.id (IsIdentifier.bytes refl))
    (IsSignature.both three_groups (AreResults.more one_result AreResults.none))

-- ---- block types

-- `(type 0)`, with nothing behind it
index_alone : IsTypeUse (role.TypeIndex ⊳ natural 0 (codes "0") 6 ∷ []) (type_use (Some (number 6 0)) (signature [] []))
index_alone = IsTypeUse.indexed (IsIndex.u32 (record { kind_is = refl; value_is = refl }))
    (IsSignature.both AreParams.none AreResults.none)

-- so a block with it has a type use
block_with_an_index : IsBlockType (role.TypeIndex ⊳ natural 0 (codes "0") 6 ∷ [])
    (use_of (type_use (Some (number 6 0)) (signature [] [])))
block_with_an_index = IsBlockType.typed index_alone IsLong.by_index

-- nothing, and just so `(param) (result)`
nothing_written : IsTypeUse [] (type_use None (signature [] []))
nothing_written = IsTypeUse.inline (IsSignature.both AreParams.none AreResults.none)

-- so a block with it has no type
block_without_a_type : IsBlockType [] (short None)
block_without_a_type = IsBlockType.no_type nothing_written

-- `(result i32)`
result_alone : AreResults (role.ResultType ⊳ i32_at 15 ∷ []) (I32 ∷ [])
result_alone = AreResults.more (AreTypes.more refl AreTypes.none) AreResults.none

-- so a block with it has that type
block_with_a_result : IsBlockType (role.ResultType ⊳ i32_at 15 ∷ []) (short (Some I32))
block_with_a_result = IsBlockType.one_type (IsTypeUse.inline (IsSignature.both AreParams.none result_alone))

-- `(result i64) (result i32)`
two_results : AreResults (role.ResultType ⊳ i64_at 11 ∷ role.ResultType ⊳ i32_at 15 ∷ []) (I64 ∷ I32 ∷ [])
two_results = AreResults.more (AreTypes.more refl AreTypes.none) result_alone

-- so a block with them has a type use
block_with_two_results : IsBlockType (role.ResultType ⊳ i64_at 11 ∷ role.ResultType ⊳ i32_at 15 ∷ [])
    (use_of (type_use None (signature [] (I64 ∷ I32 ∷ []))))
block_with_two_results = IsBlockType.typed (IsTypeUse.inline (IsSignature.both AreParams.none two_results))
    IsLong.by_results

-- `(param i32)`
one_param : AreParams (role.ParamType ⊳ i32_at 6 ∷ []) (param None I32 ∷ [])
one_param = AreParams.more (IsParam.several (AreTypes.more refl AreTypes.none)) AreParams.none

-- so a block with it has a type use
block_with_a_param : IsBlockType (role.ParamType ⊳ i32_at 6 ∷ [])
    (use_of (type_use None (signature (param None I32 ∷ []) [])))
block_with_a_param = IsBlockType.typed (IsTypeUse.inline (IsSignature.both one_param AreResults.none)) IsLong.by_param
