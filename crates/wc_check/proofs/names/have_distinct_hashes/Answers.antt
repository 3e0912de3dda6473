use Rattle.std.proofs.Common.{◌≡◌, true}
use Rattle.wc_check.specs.Judging.Names.{rises}
use Rattle.wc_check.proofs.Lists.HashLemmas.{distinct-hashes}
use Rattle.wc_check.proofs.names.have_distinct_hashes.Goals as goal

pub returns : goal.returns
returns c = λ yes.
    let up : rises c.deref.result.now ≡ true = rw c.is_rising.ensures at yes in
    distinct-hashes c.args.exports.now c.deref.result.now
    (rw (c.deref.ensures.value, ← c.in_ok-hashes.ensures) c.sort_unstable.ensures.permutation) up
