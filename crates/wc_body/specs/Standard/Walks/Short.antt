-- Instructions of at most two bytes (Core 1.0, 5.4).
use Rattle.wc_body.specs.declared.instr.Instr.{Instr}
use Rattle.wc_body.specs.declared.instr.Instr.TheVariants as instrs
use Rattle.wc_body.specs.declared.walks.short.Short.{Short}
use Rattle.wc_body.specs.declared.walks.short.Short.TheVariants.{Simple, Index, I32Const, I64Const}

-- the instruction that is said
abbrev pub instruction : Short → Instr
instruction (Simple op) = instrs.Simple op
instruction (Index op n) = instrs.Index op n
instruction (I32Const z) = instrs.I32Const z
instruction (I64Const z) = instrs.I64Const z
