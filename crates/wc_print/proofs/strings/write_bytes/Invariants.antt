use Rattle.std.proofs.Common.{◌≡◌, ◌*◌, ◌≤◌, length, take}
use Rattle.std.specs.List.{flat_map}
use Rattle.wc_print.specs.Standard.Printed.{escaped}
use Rattle.wc_print.proofs.strings.write_bytes.Given as goal

abbrev pub invariant-loop-byte : goal.invariant-loop-byte
invariant-loop-byte l = record {
  within : l.end ≤ 3 * l.byte-index;
  room : length l.room ≡ 97;
  bytes : take l.end l.room ≡ flat_map escaped (take l.byte-index l.bytes);
}
