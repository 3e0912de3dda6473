use Rattle.std.proofs.Common.{refl}
use Rattle.wc_spaces.proofs.Declaring.{named, told-fault}
use Rattle.wc_spaces.proofs.space.Space.add_named.Goals as goal
use Rattle.wc_spaces.proofs.space.Space.add_named.Goals.{then-not-branch, else-not-branch}

pub returns-clause-space : goal.returns-clause-space
returns-clause-space g c = λ ds w. named ds c.args.self.now _ c.args.text.now w
    (c.in_ok-add.ensures.ok w.apart) refl (c.in_ok-add.ensures.apart w.apart)

pub returns-clause-noted : goal.returns-clause-noted
returns-clause-noted g c = λ ds w.
    told-fault c.args.noted.now.first c.if-not-branch.noted.first (record { token = c.args.token; why = c.args.why })
    ds c.args.text.now c.args.self.now c.in_ok-add.field-0 w (c.in_ok-add.ensures.is_new w.apart)
    (elim c.if-not-branch.branch [
      | then-not-branch v ↦ rw (v.noted-is, v.if-not-branch.true) v.note.ensures
      | else-not-branch v ↦ rw (v.noted-is, v.if-not-branch.false) refl
    ])
