use Rattle.std.proofs.Common.{◌≡◌, ◌∙◌, refl, rules, w32, w64, SFits}
use Rattle.std.proofs.Math.Facts.{to_z-of_z}
use Rattle.wc_ops.specs.Standard.Opcodes.{simple}
use Rattle.wc_tokens.specs.Standard.Lexemes.{is_idchar}
use Rattle.wc_print.specs.Standard.Printed.{word, below}
use Rattle.wc_print.proofs.Reading.Naming.{simple-word}
use Rattle.wc_print.proofs.Writing.Instructions.{head-items}
use Rattle.wc_print.proofs.Writing.Paging.{line-put}
use Rattle.wc_print.proofs.pages.write_bounded.Goals as goal

pub returns-in-Simple-clause-put : goal.returns-in-Simple-clause-put
returns-in-Simple-clause-put c =
    let op = c.in-Simple.op in
    rw c.in-Simple.is
    (line-put (word (simple op).name) (simple-word op) c.op_line.ensures.line c.write_row.ensures.bytes)

pub returns-in-I32Const-clause-put : goal.returns-in-I32Const-clause-put
unfolding is_idchar
returns-in-I32Const-clause-put c =
    let fits : SFits w32 c.in-I32Const.n = search rules in
    let wide : SFits w64 c.in-I32Const.n = search rules in
    let same : c.from.result ≡ c.in-I32Const.n = c.from.ensures ∙ to_z-of_z fits in
    rw c.in-I32Const.is (rw (to_z-of_z wide) at (rw same at c.write_constant.ensures.put refl))

pub returns-in-I64Const-clause-put : goal.returns-in-I64Const-clause-put
unfolding is_idchar
returns-in-I64Const-clause-put c =
    let fits : SFits w64 c.in-I64Const.n = search rules in
    rw c.in-I64Const.is (rw (to_z-of_z fits) at (c.write_constant-in-I64Const.ensures.put refl))

pub returns-in-Begin-clause-put : goal.returns-in-Begin-clause-put
returns-in-Begin-clause-put c =
    rw c.in-Begin.is
    (rw (head-items (λ p. below 4 p) c.in-Begin.kind c.in-Begin.block_type) c.write_begin.ensures.put)
