use Rattle.std.proofs.Common.{◌≡◌, ◌++◌, ◌-◌, ◌^◌, length}
use Rattle.std.specs.Prelude.{min}
use Rattle.std.specs.List.{flat_map, AllByRecursion}
use Rattle.wc_leb128.specs.Writing.Bytes.{unsigned_bytes}
use Rattle.wc_binary.specs.Writing.Values.{import_bytes, FitsImport}
use Rattle.wc_binary.proofs.encoder.imports.imports_size.Given as goal

abbrev pub invariant-loop-import : goal.invariant-loop-import
invariant-loop-import l = record {
  left : l.yielded ++ l.import-iterator ≡ l.imports;
  counted : l.size ≡ min (length (unsigned_bytes (length l.imports) ++ flat_map import_bytes l.yielded)) (2 ^ 64 - 1);
  fits : AllByRecursion FitsImport l.yielded;
}
