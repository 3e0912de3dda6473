use Rattle.std.proofs.Common.{◌≡◌, ◌++◌, length, take}
use Rattle.std.specs.List.{flat_map, AllByRecursion}
use Rattle.wc_leb128.specs.Writing.Bytes.{unsigned_bytes}
use Rattle.wc_binary.proofs.encoder.measured.write_vector.Given as goal

abbrev pub invariant-loop-item : goal.invariant-loop-item
invariant-loop-item g l =
    let so_far = flat_map g.M.Measured.bytes (take l.item-index l.items) in
    (l.out.items ≡ l.fn.out.items ++ (unsigned_bytes (length l.items) ++ so_far))
    × AllByRecursion g.M.Measured.Fits (take l.item-index l.items)
