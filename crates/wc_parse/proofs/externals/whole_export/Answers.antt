use Rattle.wc_parse.proofs.Saying.Externals.{export-says}
use Rattle.wc_parse.proofs.externals.whole_export.Goals as goal

pub returns-clause-says : goal.returns-clause-says
returns-clause-says c =
    export-says c.args.at _ c.in-Some-lent.lent.kind c.in-Some-lent.lent.target c.export_of-field.result
    c.in-Some.ensures (rw c.in-Some-2.is at c.in_ok-name.ensures) c.in-Some-lent.ensures c.export_of-field.ensures
