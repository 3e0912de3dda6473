use Rattle.std.proofs.Common.{◌<◌, get_or, arith, refl, rules}
use Rattle.std.proofs.lemmas.List.{take_rest}
use Rattle.wc_body.specs.Drafting.LightRows.{with_noted}
use Rattle.wc_body.proofs.Drafts.Runs.LongLemmas.{far-noted}
use Rattle.wc_body.proofs.runs.light.far_access.Goals as goal

pub returns-clause-some : goal.returns-clause-some
returns-clause-some c k s =
    let byte : get_or c.args.bytes.now 2 0 < 256 = search rules in
    let noted = far-noted c.args.bytes.now k _ (with_noted c.args.noted.now s) c.if-bytes-lt4.false c.requires.access
    c.requires.aligned c.requires.far.1 byte c.if-fourth-eq0.false (omega (arith, c.if-fourth-ge128.false)) refl in
    rw (take_rest c.args.bytes.now 4) noted
