use Rattle.std.proofs.lemmas.List.{take_rest}
use Rattle.wc_body.proofs.Drafts.Runs.LongLemmas.{constant-noted}
use Rattle.wc_body.proofs.runs.light.behind_constant.Goals as goal

pub returns : goal.returns
returns c k s =
    rw (take_rest c.args.bytes.now 3)
    (constant-noted c.args.bytes.now k s c.requires.long.0 c.requires.constant
    (c.are_last.ensures c.if-not-are_last.false))
