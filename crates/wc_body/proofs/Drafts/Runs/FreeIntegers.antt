-- An opcode with an integer behind it, in any spelling.
use Rattle.std.proofs.Common.{◌≡◌, ℕ, List, ◌∷◌, ◌++◌, inr, refl, ap, ◌∙◌}
use Rattle.wc_ops.specs.Standard.Opcodes.{row}
use Rattle.wc_body.specs.declared.instr.Instr.{Instr}
use Rattle.wc_body.specs.Standard.InstructionBytes.{op_of}
use Rattle.wc_body.specs.declared.entry.Entry.TheVariants.{Plain}
use Rattle.wc_body.specs.Drafting.FreeEntries.{SpellsIntegers, SpellsEntry}

-- an opcode, and its integer
pub free-one : (x rest left y : List ℕ) (b : ℕ) (i : Instr) → x ≡ b ∷ rest → (row (op_of i)).byte ≡ b
    → rest ≡ y ++ left → SpellsIntegers i y → (w : List ℕ) × (x ≡ w ++ left) × SpellsEntry (Plain i) w
free-one x rest left y b i e byte f s =
    (b ∷ y, e ∙ ap (λ (z : List ℕ). b ∷ z) f, inr (i, refl, (y, rw byte refl, s)))
