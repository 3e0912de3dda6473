use Rattle.std.proofs.Common.{◌≡◌, ◌++◌, length}
use Rattle.std.specs.List.{flat_map, AllByRecursion}
use Rattle.wc_leb128.specs.Writing.Bytes.{unsigned_bytes}
use Rattle.wc_binary.specs.Writing.Values.{export_bytes, FitsExport}
use Rattle.wc_binary.proofs.encoder.exports.write_exports.Given as goal

abbrev pub invariant-loop-export : goal.invariant-loop-export
invariant-loop-export l = record {
  left : l.yielded ++ l.export-iterator ≡ l.exports;
  written : l.out.items ≡ l.fn.out.items ++ (unsigned_bytes (length l.exports) ++ flat_map export_bytes l.yielded);
  fits : AllByRecursion FitsExport l.yielded;
}
