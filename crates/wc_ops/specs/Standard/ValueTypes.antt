-- The value types as the standard's table has them (Core 1.0, 5.3.1).
use Rattle.std.specs.Prelude.{ℕ, ◌==◌, Option, Some, None, if◌then◌else◌}
use Rattle.wc_ops.specs.declared.val_type.ValType.{ValType}
use Rattle.wc_ops.specs.declared.val_type.ValType.TheVariants.{I32, I64}

-- the byte of a value type
abbrev pub value_type_byte : ValType → ℕ
value_type_byte I32 = 0x7F
value_type_byte I64 = 0x7E

-- the value type of a byte, or none where it is no value type's
abbrev pub value_type_of_byte : ℕ → Option ValType
value_type_of_byte byte =
    if byte == value_type_byte I32 then Some I32
    else (if byte == value_type_byte I64 then Some I64
    else None)
