use Rattle.std.proofs.Common.{◌≡◌, ◌++◌, length, take}
use Rattle.std.specs.List.{flat_map, AllByRecursion}
use Rattle.wc_leb128.specs.Writing.Bytes.{unsigned_bytes}
use Rattle.wc_binary.specs.Writing.Values.{table_type_bytes, FitsLimits}
use Rattle.wc_binary.proofs.encoder.table_types.write_table_types.Given as goal

abbrev pub invariant-loop-table : goal.invariant-loop-table
invariant-loop-table l =
    (l.out.items ≡ l.fn.out.items ++ (unsigned_bytes (length l.tables) ++ flat_map table_type_bytes
    (take l.table-index l.tables)))
    × AllByRecursion FitsLimits (take l.table-index l.tables)
