use Rattle.std.proofs.Common.{◌≡◌, ◌++◌, ◌-◌, ◌^◌, length}
use Rattle.std.specs.Prelude.{min}
use Rattle.std.specs.List.{flat_map, AllByRecursion}
use Rattle.wc_leb128.specs.Writing.Bytes.{unsigned_bytes}
use Rattle.wc_binary.specs.Writing.Values.{export_bytes, FitsExport}
use Rattle.wc_binary.proofs.encoder.exports.exports_size.Given as goal

abbrev pub invariant-loop-export : goal.invariant-loop-export
invariant-loop-export l = record {
  left : l.yielded ++ l.export-iterator ≡ l.exports;
  counted : l.size ≡ min (length (unsigned_bytes (length l.exports) ++ flat_map export_bytes l.yielded)) (2 ^ 64 - 1);
  fits : AllByRecursion FitsExport l.yielded;
}
