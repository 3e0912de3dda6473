use Rattle.std.proofs.Common.{◌≤◌, length, arith, rules}
use Rattle.std.proofs.lemmas.List.{take_rest}
use Rattle.wc_body.proofs.Packing.BriefLemmas.{brief-begins}
use Rattle.wc_body.proofs.walks.brief.brief_at.Goals as goal

pub slice_bounds-result-count : goal.slice_bounds-result-count
slice_bounds-result-count c =
    let three = c.in_ok-opcode.ensures in
    let begun = brief-begins c.args.bytes.now c.shape_of-shape.result.now _ _ _ three.some three.first three.second
    three.third c.shape_of-shape.ensures c.if-second-shape.false (rw c.from.ensures at c.if-from-shape.false)
    (rw c.from-else-from-shape.ensures at c.if-from-shape-2.false) in
    omega (arith, begun.1, c.from-2.ensures)

pub slice_bounds-result-start : goal.slice_bounds-result-start
slice_bounds-result-start c =
    let three = c.in_ok-opcode.ensures in
    let begun = brief-begins c.args.bytes.now c.shape_of-shape.result.now _ _ _ three.some three.first three.second
    three.third c.shape_of-shape.ensures c.if-second-shape.false (rw c.from.ensures at c.if-from-shape.false)
    (rw c.from-else-from-shape.ensures at c.if-from-shape-2.false) in
    let within : c.from-2.result ≤ length c.args.bytes.now = omega (arith, begun.1, c.from-2.ensures) in
    search rules

pub returns : goal.returns
returns c =
    let three = c.in_ok-opcode.ensures in
    let begun = brief-begins c.args.bytes.now c.shape_of-shape.result.now _ _ _ three.some three.first three.second
    three.third c.shape_of-shape.ensures c.if-second-shape.false (rw c.from.ensures at c.if-from-shape.false)
    (rw c.from-else-from-shape.ensures at c.if-from-shape-2.false) in
    rw (take_rest c.args.bytes.now c.from-2.result, c.from-2.ensures) begun.0
