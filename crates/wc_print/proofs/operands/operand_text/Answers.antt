use Rattle.wc_print.proofs.Tables.BriefTables.{operand-told, operand-short}
use Rattle.wc_print.proofs.operands.operand_text.Goals as goal

pub returns-clause-text : goal.returns-clause-text
returns-clause-text c = operand-told c.args.kind c.args.operand c.requires.kind c.requires.operand

pub returns-clause-short : goal.returns-clause-short
returns-clause-short c = operand-short c.args.kind c.args.operand c.requires.kind c.requires.operand
