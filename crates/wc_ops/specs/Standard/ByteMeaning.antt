-- What a byte means where an opcode may stand.
use Rattle.std.specs.Prelude.{ℕ, ◌≡◌, ◌↔◌, Bool, ◌&&◌, ◌||◌, nat_le, IsTrue}
use Rattle.wc_ops.specs.declared.op.Op.{Op}
use Rattle.wc_ops.specs.declared.op.OpByte.{OpByte}
use Rattle.wc_ops.specs.declared.op.OpByte.TheVariants.{Known, Float}
use Rattle.wc_ops.specs.Standard.Opcodes.{row}

-- is the number one of these, both ends among them
abbrev is_between : ℕ → ℕ → ℕ → Bool
is_between first last n = nat_le first n && nat_le n last

-- the opcodes of the float instructions (Core 1.0, 5.4.4 and 5.4.5)
abbrev pub is_float_byte : ℕ → Bool
is_float_byte n =
    is_between 0x2a 0x2b n || is_between 0x38 0x39 n || is_between 0x43 0x44 n || is_between 0x5b 0x66 n
    || is_between 0x8b 0xa6 n || is_between 0xa8 0xab n || is_between 0xae 0xbf n

-- an instruction whose opcode it is, or a float's opcode, or neither
pub record IsOpByte (byte : ℕ) (found : OpByte) : Type 0 where
  pub known : (op : Op) → (found ≡ Known op) ↔ ((row op).byte ≡ byte)
  pub float : (found ≡ Float) ↔ IsTrue (is_float_byte byte)
