use Rattle.std.proofs.Common.{◌≡◌, ◌-◌, ◌^◌, ◌<◌, length, false}
use Rattle.std.specs.Io.KnownBytes.{Consumes}
use Rattle.wc_device.specs.Standard.Device.{device_inner, has_failed, has_ended, was_asked_again, read_count}
use Rattle.wc_cli.proofs.reading.read_all.Given as goal

abbrev pub invariant-loop-n : goal.invariant-loop-n
invariant-loop-n g l = record {
  well : has_failed l.r ≡ false;
  more : has_ended l.r ≡ false;
  again : was_asked_again l.r ≡ was_asked_again l.fn.r;
  consumed : Consumes (g.R.Read.remaining (device_inner l.fn.r)) (g.R.Read.remaining (device_inner l.r)) l.bytes.items;
  counted : length l.bytes.items ≡ read_count l.r;
  small : read_count l.r < 2 ^ 64;
}

abbrev pub decreases-loop-n : goal.decreases-loop-n
decreases-loop-n g l = 2 ^ 64 - read_count l.r
