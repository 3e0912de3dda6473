use Rattle.std.proofs.Common.{◌∙◌, sym}
use Rattle.wc_print.proofs.Writing.Stringing.{as-themselves, leaves-behind}
use Rattle.wc_print.proofs.strings.put_standing.Goals as goal

pub returns : goal.returns
returns g c =
    let same = as-themselves c.args.bytes.now c.standing-end.result c.standing-end.ensures.within
    c.standing-end.ensures.stand in
    rw c.split_at.ensures.back
    (leaves-behind _ _ _ (c.split_at.ensures.front ∙ sym same) c.put.ensures)
