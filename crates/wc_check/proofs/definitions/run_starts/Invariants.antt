use Rattle.std.proofs.Common.{◌≡◌, ◌++◌, drop}
use Rattle.wc_check.specs.Judging.Enough.{run_starts}
use Rattle.wc_check.proofs.definitions.run_starts.Given as goal

abbrev pub invariant-loop-place : goal.invariant-loop-place
invariant-loop-place l = record {
  rest : l.starts.items ++ run_starts l.place l.start (drop l.place l.globals) ≡ run_starts 0 0 l.globals;
}
