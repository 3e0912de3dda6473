use Rattle.std.proofs.Common.{◌≡◌, ◌-◌, ◌≤◌, ◌||◌, ◌&&◌, nat_lt, length, take}
use Rattle.std.specs.Io.KnownBytes.{Appends}
use Rattle.wc_device.specs.Standard.Device.{device_inner, failed_at, has_failed, read_count, was_asked_again, has_ended}
use Rattle.wc_device.specs.Standard.Device.{flush_count, is_unflushed, has_lost}
use Rattle.wc_device.specs.Standard.WriteCalls.{Taken}
use Rattle.wc_device.proofs.io_device.Device.write_all.Given as goal

abbrev pub invariant-loop-sent : goal.invariant-loop-sent
invariant-loop-sent g l = record {
  within : l.sent ≤ length l.bytes;
  same : failed_at l.self ≡ failed_at l.fn.self;
  counted : read_count l.self ≡ read_count l.fn.self;
  ended : has_ended l.self ≡ has_ended l.fn.self;
  again : was_asked_again l.self ≡ (was_asked_again l.fn.self || (has_failed l.fn.self && nat_lt 0 l.sent));
  flushes : flush_count l.self ≡ flush_count l.fn.self;
  unflushed : is_unflushed l.self ≡ (is_unflushed l.fn.self || nat_lt 0 l.sent);
  lost : has_lost l.self ≡ has_lost l.fn.self;
  appended : Appends (g.W.Write.contents (device_inner l.fn.self))
      (g.W.Write.contents (device_inner l.self)) (take l.sent l.bytes);
  taken : Taken g.W.Writer.writes (device_inner l.fn.self) l.bytes l.sent (device_inner l.self);
}

abbrev pub decreases-loop-sent : goal.decreases-loop-sent
decreases-loop-sent g l = length l.bytes - l.sent
