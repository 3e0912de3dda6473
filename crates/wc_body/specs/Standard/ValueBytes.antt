-- The canonical bytes of vectors and of value types (Core 1.0, 5.1.3 and 5.3.1), and which of them have some.
use Rattle.std.specs.Prelude.{ℕ, ◌<◌, ◌^◌, List, [], ◌∷◌, ◌++◌, length}
use Rattle.std.specs.List.{AllByRecursion, flat_map}
use Rattle.wc_leb128.specs.Writing.Bytes.{unsigned_bytes}
use Rattle.wc_ops.specs.declared.val_type.ValType.{ValType}
use Rattle.wc_ops.specs.Standard.ValueTypes.{value_type_byte}

-- a count, and the items
abbrev pub vector_bytes : {A : Type 0} → (A → List ℕ) → List A → List ℕ
vector_bytes w vs = unsigned_bytes (length vs) ++ flat_map w vs

-- a value type: its byte
abbrev pub value_type_bytes : ValType → List ℕ
value_type_bytes t = value_type_byte t ∷ []

-- ---- each number and each count is below 2 ^ 32

-- it fits 32 bits
abbrev pub Fits32 : ℕ → Type 0
Fits32 n = n < 2 ^ 32

-- the count fits 32 bits, and each item fits
abbrev pub FitsVector : {A : Type 0} → (A → Type 0) → List A → Type 0
FitsVector Fits vs = (length vs < 2 ^ 32) × AllByRecursion Fits vs
