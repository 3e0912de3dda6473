use Rattle.wc_binary.proofs.reading.ahead.FrontItems.{name-cut}
use Rattle.wc_binary.proofs.decoder.front.name_front.Goals as goal

pub returns : goal.returns
returns c =
    let cut = c.split_at.ensures in
    let text = c.in_ok-name.ensures in
    name-cut _ _ _ _ _ _ c.in_ok-count.ensures cut.front cut.back cut.front_len text.0 text.1
