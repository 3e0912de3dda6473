use Rattle.std.proofs.Common.{◌≡◌, ◌<◌, arith}
use Rattle.wc_body.proofs.Drafts.Runs.LightLemmas.{IsKind, light-kind, pair-needs}
use Rattle.wc_body.proofs.Drafts.Runs.BeforeLemmas.{light-two, light-pair}
use Rattle.wc_body.proofs.runs.light.before.note_two.Goals as goal

pub returns-clause-noted : goal.returns-clause-noted
returns-clause-noted c t =
    let light = c.light_of-light.result.now in
    let kind : IsKind c.light_of-light.result.now = rw c.light_of-light.ensures (light-kind c.args.opcode) in
    let two : light.length ≡ 2 = c.if-light-ne2.false in
    let second = light-pair c.args.opcode (rw c.light_of-light.ensures at two) in
    let lt : c.args.second < c.light_of-light.result.now.second =
    rw c.light_of-light.ensures (omega (arith, second, c.requires)) in
    let needs = pair-needs light c.args.second _ _ c.args.needs.now kind lt two c.note_pair.ensures in
    light-two c.args.opcode c.args.second c.args.enclosing _ _ light c.light_of-light.ensures lt two
    (rw c.from.ensures at c.if-enclosing-from.false) (rw c.give_back.ensures (rw c.of-noted.ensures at needs))
