use Rattle.std.proofs.Common.{◌≡◌, ◌-◌, ◌^◌, ◌<◌, ℕ, List, Option, length, false}
use Rattle.std.specs.Io.KnownBytes.{Consumes}
use Rattle.wc_device.specs.Standard.Device.{device_inner, has_failed, has_ended, was_asked_again, read_count}
use Rattle.wc_canon.proofs.from_reader.read_rest.Given as goal

abbrev pub invariant-loop-n : goal.invariant-loop-n
invariant-loop-n g l = record {
  well : has_failed l.r ≡ false;
  goes_on : has_ended l.r ≡ has_ended l.fn.r;
  consumed : (x : Option (List ℕ)) → Consumes x (g.R.Read.remaining (device_inner l.fn.r)) l.fn.front
      → Consumes x (g.R.Read.remaining (device_inner l.r)) l.bytes.items;
  counted : length l.bytes.items ≡ read_count l.r;
  small : read_count l.r < 2 ^ 64;
  again : has_ended l.fn.r ≡ false → was_asked_again l.r ≡ was_asked_again l.fn.r;
}

abbrev pub decreases-loop-n : goal.decreases-loop-n
decreases-loop-n g l = 2 ^ 64 - read_count l.r
