use Rattle.std.proofs.Common.{List, ℕ, Option, Some, None, IfSome, refl}
use Rattle.wc_ops.specs.declared.op.Op.{Op}
use Rattle.wc_ops.specs.Standard.NameMeaning.{IsNamed}
use Rattle.wc_symbols.specs.declared.symbol.Value.TheVariants.{Instruction}
use Rattle.wc_symbols.specs.Standard.Names.{instruction, op_kind}
use Rattle.wc_symbols.specs.Standard.Symbols.{valued}
use Rattle.wc_symbols.specs.Standard.Words.{WordIs, known, name}
use Rattle.wc_symbols.proofs.usual.usual_name.Goals as goal

says : (word : List ℕ) (found : Option Op) → IsNamed word found
    → IfSome found (λ op. WordIs word (valued (op_kind op) (Instruction op)))
says word None h = tt
says word (Some op) h = known (name (instruction op ((h op).0 refl)))

pub returns : goal.returns
returns c = says _ _ c.named.ensures
