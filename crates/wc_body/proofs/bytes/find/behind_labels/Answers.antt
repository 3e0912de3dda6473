use Rattle.std.proofs.Common.{◌≡◌, Some, sym, ◌∙◌}
use Rattle.wc_body.specs.Reading.Fronts.{unsigned_front}
use Rattle.wc_body.proofs.Packing.Integers.{label-passed}
use Rattle.wc_body.proofs.bytes.find.behind_labels.Goals as goal

pub loop-preserved : goal.loop-preserved
loop-preserved c =
    let front : unsigned_front 32 c.loop.rest.now ≡ Some (c.in_ok-behind.field-0-0, c.in_ok-behind.behind.now) =
    sym (rw c.in_ok-behind.was at c.u32_at.ensures) in
    label-passed c.args.count c.loop.counter c.in_ok-behind.field-0-0 c.loop.rest.now c.in_ok-behind.behind.now
    c.loop-test.true front ∙ c.loop.invariant
