use Rattle.std.proofs.Common.{refl}
use Rattle.wc_tokens.specs.Standard.Lexemes.{is_idchar}
use Rattle.wc_body.specs.declared.instr.BlockType.TheVariants.{Value}
use Rattle.wc_print.specs.Standard.Lines.{block_items}
use Rattle.wc_print.proofs.Reading.Naming.{type-spelled}
use Rattle.wc_print.proofs.Writing.Putting.{nothing, text}
use Rattle.wc_print.proofs.typed_lines.write_block_type.Goals as goal

pub returns-in-Empty-clause-put : goal.returns-in-Empty-clause-put
returns-in-Empty-clause-put c = rw c.in-Empty.is (nothing _)

pub returns-in-Value-clause-put : goal.returns-in-Value-clause-put
unfolding is_idchar
returns-in-Value-clause-put c =
    let type = c.in-Value.value_type in
    rw c.in-Value.is
    (text (block_items (Value type)) (tt, (refl, (type-spelled type, (tt, tt)))) c.result_row.ensures.row
    c.write_row.ensures.bytes)
