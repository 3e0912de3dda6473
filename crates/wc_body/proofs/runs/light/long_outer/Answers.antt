use Rattle.std.proofs.Common.{◌<◌, get_or, rules}
use Rattle.std.proofs.lemmas.List.{take_rest}
use Rattle.wc_body.proofs.Drafts.Runs.LongLemmas.{long-outer-noted}
use Rattle.wc_body.proofs.runs.light.long_outer.Goals as goal

pub returns-clause-some : goal.returns-clause-some
returns-clause-some c k n =
    let byte : get_or c.args.bytes.now 1 0 < 256 = search rules in
    let index = c.in_ok-index.ensures in
    let noted = long-outer-noted c.args.bytes.now k c.in_ok-index.index n c.args.needs.now c.note_outer.new.needs
    c.requires.long.0 c.requires.outer c.requires.long.1 byte index.0 index.1 index.2 c.note_outer.ensures in
    rw (take_rest c.args.bytes.now 3) noted
