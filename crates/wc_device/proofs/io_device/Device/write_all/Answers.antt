use Rattle.std.proofs.Common.{rules}
use Rattle.wc_device.specs.Standard.WriteCalls.{none}
use Rattle.wc_device.proofs.WriteCalls.{taken_more}
use Rattle.wc_device.proofs.Writing.{appends_more}
use Rattle.wc_device.proofs.io_device.Device.write_all.Goals as goal

pub loop-sent-init : goal.loop-sent-init
loop-sent-init g c = record {
  within = search rules;
  same = search rules;
  counted = search rules;
  ended = search rules;
  again = search rules;
  flushes = search rules;
  unflushed = search rules;
  lost = search rules;
  appended = search rules;
  taken = none;
}

pub loop-sent-preserved : goal.loop-sent-preserved
loop-sent-preserved g c = record {
  within = search rules;
  same = search rules;
  counted = search rules;
  ended = search rules;
  again = search rules;
  flushes = search rules;
  unflushed = search rules;
  lost = search rules;
  appended = appends_more _ _ _ _ _ _ c.loop-sent.invariant.appended c.in-Ok.ensures.bytes;
  taken = taken_more _ _ _ _ _ _ _ c.loop-sent.invariant.taken (search rules) (search rules) c.in-Ok.ensures.call;
}
