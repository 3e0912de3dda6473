use Rattle.wc_print.proofs.Tables.BriefLines.{brief-put}
use Rattle.wc_print.proofs.pages.write_brief.Goals as goal

pub returns-clause-put : goal.returns-clause-put
returns-clause-put c = λ entry said.
    brief-put c.args.brief.operand c.line_of-line.result.now c.operand_text.result.now _ _ _ c.requires.low
    c.write_row-end.ensures.bytes c.operand_text.ensures.text c.write_text.ensures.bytes c.args.brief.opcode
    c.line_of-line.ensures entry said
