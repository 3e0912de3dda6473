use Rattle.std.proofs.Common.{◌≡◌, ◌++◌, length}
use Rattle.std.specs.List.{AllByRecursion, flat_map}
use Rattle.wc_leb128.specs.Writing.Bytes.{unsigned_bytes}
use Rattle.wc_body.specs.Standard.ValueBytes.{Fits32}
use Rattle.wc_body.proofs.bytes.put.put_table.Given as goal

abbrev pub invariant-loop-label : goal.invariant-loop-label
invariant-loop-label l = record {
  left : l.yielded ++ l.label-iterator ≡ l.fn.labels;
  written : l.table.items ≡ unsigned_bytes (length l.fn.labels) ++ flat_map unsigned_bytes l.yielded;
  fits : AllByRecursion Fits32 l.yielded;
}
