use Rattle.std.proofs.Common.{◌≤◌, length, arith}
use Rattle.wc_check.proofs.Walks.BodyLemmas.{few-marks, walked-all}
use Rattle.wc_check.proofs.bodies.check_entries.Goals as goal

pub loop-entry-init : goal.loop-entry-init
loop-entry-init c =
    let few : length c.entries-entries.result ≤ length c.bytes.result.now
    = rw (c.entries-entries.ensures.marks, c.bytes.ensures.bytes) (few-marks c.args.body.now) in
    record {
      shallow = omega (arith, few, c.bytes.type_inv);
      few = omega (arith, few, c.bytes.type_inv);
      rest = rw c.entries-entries.ensures.marks (walked-all c.args.context.now c.args.locals c.args.func
          c.args.body.now);
    }
