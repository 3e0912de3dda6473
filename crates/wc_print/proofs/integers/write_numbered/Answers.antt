use Rattle.std.proofs.Common.{rules, w64, SFits}
use Rattle.std.proofs.Math.Facts.{to_z-of_z}
use Rattle.wc_print.proofs.Tables.NumberedLines.{numbered-put}
use Rattle.wc_print.proofs.integers.write_numbered.Goals as goal

pub returns-clause-put : goal.returns-clause-put
returns-clause-put c = λ instr said.
    let fits : SFits w64 c.args.it.number = search rules in
    numbered-put c.line_of.result.now _ _ _ c.args.it.number c.write_row-end.ensures.bytes
    (rw (to_z-of_z fits) at c.write_signed.ensures.put) c.args.it.opcode c.line_of.ensures instr said
