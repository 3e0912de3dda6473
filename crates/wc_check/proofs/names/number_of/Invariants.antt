use Rattle.std.proofs.Common.{◌≡◌, drop}
use Rattle.wc_check.specs.Judging.Names.{number_from}
use Rattle.wc_check.proofs.names.number_of.Given as goal

abbrev pub invariant-loop-byte : goal.invariant-loop-byte
invariant-loop-byte l = number_from l.number (drop l.byte-index l.bytes) ≡ number_from 0 l.bytes
