use Rattle.std.proofs.Common.{◌≡◌, take}
use Rattle.wc_cli.specs.Standard.Telling.{escaped}
use Rattle.wc_cli.proofs.telling.escaped.Given as goal

abbrev pub invariant-loop-byte : goal.invariant-loop-byte
invariant-loop-byte l = l.out.items ≡ escaped (take l.byte-index l.path)
