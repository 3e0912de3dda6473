-- Function types read back from their keys.
use Rattle.std.specs.Prelude.{◌≡◌, ℕ, zero, suc, List, [], ◌∷◌, map}
use Rattle.std.specs.Option.{unwrap_or}
use Rattle.wc_ops.specs.declared.val_type.ValType.{ValType}
use Rattle.wc_ops.specs.declared.val_type.ValType.TheVariants.{I64}
use Rattle.wc_ops.specs.Standard.ValueTypes.{value_type_of_byte}
use Rattle.wc_ast.specs.declared.func_type.FuncType.{FuncType}
use Rattle.wc_surface.specs.declared.signature.KeyBytes.{KeyBytes}
use Rattle.wc_surface.specs.declared.signature.KeyBytes.TheVariants.{Few, Many}
use Rattle.wc_surface.specs.Standard.Keys.{func_type, key_of}

-- the bytes, in place or in memory of their own
abbrev pub key_in : KeyBytes → List ℕ
key_in (Few bytes) = bytes
key_in (Many bytes) = bytes.items

-- the value type of its byte (Core 1.0, 5.3.1); a byte that is no value type's stands for i64
abbrev pub byte_type : ℕ → ValType
byte_type b = unwrap_or (value_type_of_byte b) I64

-- the parameters: the types before the zero, or all where there is none
abbrev pub params_in : List ℕ → List ValType
params_in [] = []
params_in (zero ∷ bytes) = []
params_in (suc b ∷ bytes) = byte_type (suc b) ∷ params_in bytes

-- the results: the types behind the zero, or none
abbrev pub results_in : List ℕ → List ValType
results_in [] = []
results_in (zero ∷ bytes) = map byte_type bytes
results_in (suc b ∷ bytes) = results_in bytes

-- the function type of this key; bytes that are no key have one too
abbrev pub keyed : List ℕ → FuncType
keyed bytes = func_type (params_in bytes) (results_in bytes)

-- the bytes are a key
abbrev pub IsKey : List ℕ → Type 0
IsKey bytes = key_of (keyed bytes) ≡ bytes
