use Rattle.std.proofs.Common.{◌≡◌, ◌++◌, length}
use Rattle.std.specs.List.{flat_map, AllByRecursion}
use Rattle.wc_leb128.specs.Writing.Bytes.{unsigned_bytes}
use Rattle.wc_binary.specs.Writing.Values.{import_bytes, FitsImport}
use Rattle.wc_binary.proofs.encoder.imports.write_imports.Given as goal

abbrev pub invariant-loop-import : goal.invariant-loop-import
invariant-loop-import l = record {
  left : l.yielded ++ l.import-iterator ≡ l.imports;
  written : l.out.items ≡ l.fn.out.items ++ (unsigned_bytes (length l.imports) ++ flat_map import_bytes l.yielded);
  fits : AllByRecursion FitsImport l.yielded;
}
