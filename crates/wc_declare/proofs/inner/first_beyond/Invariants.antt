use Rattle.std.proofs.Common.{◌≡◌, drop}
use Rattle.wc_surface.specs.Standard.WrittenLocals.{written_out}
use Rattle.wc_declare.specs.Standard.Inner.{token_beyond}
use Rattle.wc_declare.proofs.Beyond.{token_at}
use Rattle.wc_declare.proofs.inner.first_beyond.Given as goal

abbrev pub invariant-loop-group : goal.invariant-loop-group
invariant-loop-group l = token_at (written_out (drop l.group-index l.groups)) l.room ≡ token_beyond
    (written_out l.groups)
