use Rattle.std.proofs.Common.{rules, w64, SFits}
use Rattle.std.proofs.Math.Facts.{to_z-of_z}
use Rattle.std.proofs.lemmas.List.{take_rest}
use Rattle.wc_body.proofs.Packing.NumberedLemmas.{numbered-begins}
use Rattle.wc_body.proofs.walks.numbered.numbered_at.Goals as goal

pub returns : goal.returns
returns c =
    let it = c.in_ok-integer.integer in
    let x = c.in_ok-opcode.rest.now in
    let fits : SFits w64 it.value = search rules in
    let begun = numbered-begins c.in_ok-opcode.opcode.now x it.value it.count it.length it.bytes c.wide_of.result.now
    c.wide_of.ensures c.in_ok-integer.ensures in
    rw (to_z-of_z fits, take_rest x it.count, c.in_ok-opcode.ensures.cases.0) begun
