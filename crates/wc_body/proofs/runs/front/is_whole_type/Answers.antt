use Rattle.std.proofs.Common.{◌≡◌, ◌∷◌, [], ℕ, Option, None, Some, is_some, true, refl, ap, sym, ◌∙◌}
use Rattle.wc_ops.specs.declared.val_type.ValType.{ValType}
use Rattle.wc_ops.specs.Standard.ValueTypes.{value_type_of_byte}
use Rattle.wc_ops.proofs.Meanings.OfTypes.{type-byte}
use Rattle.wc_body.specs.declared.instr.BlockType.TheVariants.{Empty, Value}
use Rattle.wc_body.specs.Drafting.AtFront.{IsWholeType}
use Rattle.wc_body.proofs.runs.front.is_whole_type.Goals as goal

-- the byte of a value type is a block type
of-value : (byte : ℕ) (found : Option ValType) → value_type_of_byte byte ≡ found → is_some found ≡ true
    → IsWholeType byte
of-value byte None meant is = absurd cc
of-value byte (Some t) meant is = (Value t, ap (λ b. b ∷ []) (sym ((type-byte byte t).0 meant)), tt, λ s. refl)

pub returns-in-64 : goal.returns-in-64
returns-in-64 c is = (Empty, ap (λ b. b ∷ []) c.in-64.is, tt, λ s. refl)

pub returns-in_default : goal.returns-in_default
returns-in_default c is = of-value _ c.of_byte.result (sym c.of_byte.ensures) (sym c.is_some.ensures ∙ is)
