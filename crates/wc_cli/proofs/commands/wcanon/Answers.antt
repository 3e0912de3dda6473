use Rattle.wc_cli.proofs.commands.wcanon.Goals as goal

pub returns : goal.returns
returns c =
    let one = c.with-command.ensures _ _ c.top.ensures.app c.binary.ensures.app c.binary.ensures.own in
    let two = c.with-command-2.ensures _ _ one c.text.ensures.app c.text.ensures.own in
    let three = c.with-command-3.ensures _ _ two c.check.ensures.app c.check.ensures.own in
    let four = c.with-command-4.ensures _ _ three c.canonical.ensures.app c.canonical.ensures.own in
    let five = c.with-command-5.ensures _ _ four c.hash.ensures.app c.hash.ensures.own in
    c.with.ensures _ _ five c.compare.ensures.app c.compare.ensures.own
