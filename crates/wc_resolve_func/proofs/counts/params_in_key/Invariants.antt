use Rattle.std.proofs.Common.{◌≡◌, ◌+◌, ◌≤◌, length, drop}
use Rattle.wc_surface.specs.Kept.Keyed.{params_in}
use Rattle.wc_resolve_func.proofs.counts.params_in_key.Given as goal

abbrev pub invariant-loop-byte : goal.invariant-loop-byte
invariant-loop-byte l = record {
  few : l.count ≤ l.byte-index;
  counted : l.count + length (params_in (drop l.byte-index l.key)) ≡ length (params_in l.key);
}
