use Rattle.std.proofs.Common.{◌≡◌, ◌++◌, ◌-◌, ◌^◌, length, take}
use Rattle.std.specs.Prelude.{min}
use Rattle.std.specs.List.{flat_map, AllByRecursion}
use Rattle.wc_leb128.specs.Writing.Bytes.{unsigned_bytes}
use Rattle.wc_binary.specs.Writing.Values.{table_type_bytes, FitsLimits}
use Rattle.wc_binary.proofs.encoder.table_types.table_types_size.Given as goal

abbrev pub invariant-loop-table : goal.invariant-loop-table
invariant-loop-table l =
    let so_far = flat_map table_type_bytes (take l.table-index l.tables) in
    (l.size ≡ min (length (unsigned_bytes (length l.tables) ++ so_far)) (2 ^ 64 - 1))
    × AllByRecursion FitsLimits (take l.table-index l.tables)
