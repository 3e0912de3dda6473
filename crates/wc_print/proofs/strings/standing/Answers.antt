use Rattle.wc_print.proofs.Writing.Stringing.{stand-rest}
use Rattle.wc_print.proofs.strings.standing.Goals as goal

pub returns-then-all_stand-clause-stand : goal.returns-then-all_stand-clause-stand
returns-then-all_stand-clause-stand c =
    stand-rest c.args.bytes.now c.standing_chunks-end.result c.standing_chunks-end.ensures.stand
    (c.all_stand.ensures c.if-all_stand.true)
