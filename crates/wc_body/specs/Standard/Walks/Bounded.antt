-- Entries whose bytes have a bound (Core 1.0, 5.4).
use Rattle.wc_body.specs.declared.instr.Instr.TheVariants as instrs
use Rattle.wc_body.specs.declared.entry.Entry.{Entry}
use Rattle.wc_body.specs.declared.entry.Entry.TheVariants as entries
use Rattle.wc_body.specs.declared.walks.bounded.Bounded.{Bounded}
use Rattle.wc_body.specs.declared.walks.bounded.Bounded.TheVariants.{Simple, Index, Mem, CallIndirect, I32Const}
use Rattle.wc_body.specs.declared.walks.bounded.Bounded.TheVariants.{I64Const, Begin}

-- the entry that is said
abbrev pub bounded : Bounded → Entry
bounded (Simple op) = entries.Plain (instrs.Simple op)
bounded (Index op n) = entries.Plain (instrs.Index op n)
bounded (Mem op arg) = entries.Plain (instrs.Mem op arg)
bounded (CallIndirect n) = entries.Plain (instrs.CallIndirect n)
bounded (I32Const z) = entries.Plain (instrs.I32Const z)
bounded (I64Const z) = entries.Plain (instrs.I64Const z)
bounded (Begin kind t) = entries.Begin kind t
