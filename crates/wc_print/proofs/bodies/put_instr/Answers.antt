use Rattle.std.proofs.Common.{◌≡◌, ◌∙◌, refl, codes, rules, w32, w64, SFits}
use Rattle.std.proofs.Math.Facts.{to_z-of_z}
use Rattle.wc_ops.specs.Standard.Opcodes.{simple, index, memory}
use Rattle.wc_tokens.specs.Standard.Lexemes.{is_idchar}
use Rattle.wc_print.specs.Standard.Printed.{word}
use Rattle.wc_print.proofs.Reading.Naming.{simple-word, index-word, memory-word}
use Rattle.wc_print.proofs.Writing.Going.{chain}
use Rattle.wc_print.proofs.bodies.put_instr.Goals as goal

pub returns-in-Simple : goal.returns-in-Simple
returns-in-Simple g c =
    let op = c.in-Simple.op in
    rw c.in-Simple.is (c.put_at.ensures (word (simple op).name) c.op_line.ensures.line (simple-word op))

pub returns-in-Index : goal.returns-in-Index
returns-in-Index g c =
    let op = c.in-Index.op in
    rw c.in-Index.is
    (chain (c.put_at-in-Index.ensures (word (index op).name) c.op_line-in-Index.ensures.line (index-word op))
    c.put_number.ensures)

pub returns-in-Mem : goal.returns-in-Mem
returns-in-Mem g c =
    let op = c.in-Mem.op in
    rw c.in-Mem.is
    (chain (c.put_at-in-Mem.ensures (word (memory op).name) c.op_line-in-Mem.ensures.line (memory-word op))
    c.put_memory.ensures)

pub returns-in-BrTable : goal.returns-in-BrTable
unfolding is_idchar
returns-in-BrTable g c =
    rw c.in-BrTable.is
    (chain (c.put_at-in-BrTable.ensures (word (codes "br_table")) c.op_line-in-BrTable.ensures.line refl)
    c.put_labels.ensures)

pub returns-in-CallIndirect : goal.returns-in-CallIndirect
unfolding is_idchar
returns-in-CallIndirect g c =
    rw c.in-CallIndirect.is
    (chain (c.put_at-in-CallIndirect.ensures (word (codes "call_indirect")) c.op_line-in-CallIndirect.ensures.line refl)
    c.put_type_use.ensures)

pub returns-in-I32Const : goal.returns-in-I32Const
unfolding is_idchar
returns-in-I32Const g c =
    let fits : SFits w32 c.in-I32Const.n = search rules in
    let wide : SFits w64 c.in-I32Const.n = search rules in
    let same : c.from.result ≡ c.in-I32Const.n = c.from.ensures ∙ to_z-of_z fits in
    rw c.in-I32Const.is
    (chain (c.put_at-in-I32Const.ensures (word (codes "i32.const")) c.op_line-in-I32Const.ensures.line refl)
    (rw (to_z-of_z wide) at (rw same at c.put_integer.ensures)))

pub returns-in-I64Const : goal.returns-in-I64Const
unfolding is_idchar
returns-in-I64Const g c =
    let fits : SFits w64 c.in-I64Const.n = search rules in
    rw c.in-I64Const.is
    (chain (c.put_at-in-I64Const.ensures (word (codes "i64.const")) c.op_line-in-I64Const.ensures.line refl)
    (rw (to_z-of_z fits) at c.put_integer-in-I64Const.ensures))
