use Rattle.std.proofs.Common.{rules, arith, ◌≡◌, Some}
use Rattle.wc_parse_code.proofs.HeadLemmas.{end-written, end-past}
use Rattle.wc_parse_code.proofs.heads.Heads.set_end_id.Goals as goal

pub returns-in_ok-id : goal.returns-in_ok-id
returns-in_ok-id c =
    let e : c.replace.new.dest ≡ Some c.args.id = search rules in
    rw (← c.self.view_is) (rw e
    (end-written c.self.inside.items.items c.args.place c.index_mut.result.now c.args.id
    (omega (arith, c.self.inside.items.ok.0)) c.index_mut.ensures.value))

pub returns-else-place-len : goal.returns-else-place-len
returns-else-place-len c =
    rw (← c.self.view_is) (end-past c.self.inside.items.items c.args.place c.args.id
    (omega (arith, c.self.inside.items.ok.0)))
