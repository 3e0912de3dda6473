use Rattle.wc_resolve.proofs.Counting.{import-count}
use Rattle.wc_resolve.proofs.counts.count_of.Goals as goal

pub returns-in-Import-default-clause-count : goal.returns-in-Import-default-clause-count
returns-in-Import-default-clause-count c =
    import-count c.args.kind c.args.field.now c.in-Import-default.import c.brought.result c.in-Import-default.is-0
    (rw c.get.ensures at c.brought.ensures.count)
