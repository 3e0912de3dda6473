use Rattle.std.proofs.Common.{◌∙◌, ◌+◌, sym, arith}
use Rattle.wc_cli.specs.Standard.Turns.{none}
use Rattle.wc_cli.proofs.Turning.{turn-more}
use Rattle.wc_cli.proofs.turns.act_each.Goals as goal

pub loop-line-init : goal.loop-line-init
loop-line-init g c = record { turns = none; goes_on = λ h. absurd (omega arith) }

pub returns-then-failed : goal.returns-then-failed
returns-then-failed g c = record {
  turns = (
    c.loop-line.line-index + 1,
    turn-more g.O.Opens.gives g.O.Opens.takes g.R.Read.remaining g.W.Write.contents g.E.Write.contents
        c.args.opens.now c.args.w.now c.args.e.now c.args.lines.now c.loop-line.line-index _ _ _ _ _ _ _ _ _ _
        (omega arith) c.higher-status.ensures c.loop-line.invariant.turns c.loop-line.invariant.goes_on
        c.act_turn-told.ensures,
    omega arith,
    λ h. (omega arith, sym c.failed.ensures ∙ c.if-failed.true),
  );
}

pub loop-line-preserved : goal.loop-line-preserved
loop-line-preserved g c = record {
  turns =
      turn-more g.O.Opens.gives g.O.Opens.takes g.R.Read.remaining g.W.Write.contents g.E.Write.contents
      c.args.opens.now c.args.w.now c.args.e.now c.args.lines.now c.loop-line.line-index _ _ _ _ _ _ _ _ _ _
      (omega arith) c.higher-status.ensures c.loop-line.invariant.turns c.loop-line.invariant.goes_on
      c.act_turn-told.ensures;
  goes_on = λ h. sym c.failed.ensures ∙ c.if-failed.false;
}
