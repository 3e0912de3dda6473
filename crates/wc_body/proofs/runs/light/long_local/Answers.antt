use Rattle.std.proofs.Common.{◌<◌, get_or, rules}
use Rattle.std.proofs.lemmas.List.{take_rest}
use Rattle.wc_body.specs.Drafting.LightRows.{with_noted}
use Rattle.wc_body.proofs.Drafts.Runs.LightLemmas.{long-noted}
use Rattle.wc_body.proofs.runs.light.long_local.Goals as goal

pub returns-clause-some : goal.returns-clause-some
returns-clause-some c k s =
    let byte : get_or c.args.bytes.now 1 0 < 256 = search rules in
    let index = c.in_ok-index.ensures in
    let noted = long-noted c.args.bytes.now k c.in_ok-index.index (with_noted c.args.noted.now s)
    c.requires.long.0 c.requires.local c.requires.long.1 byte index.0 index.1 index.2 in
    rw (take_rest c.args.bytes.now 3, c.max-noted.ensures) noted
