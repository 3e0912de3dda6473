use Rattle.std.proofs.Common.{◌∙◌}
use Rattle.wc_spaces.proofs.Opening.{entered}
use Rattle.wc_spaces.proofs.labels.Labels.enter.Goals as goal

pub returns-clause-labels : goal.returns-clause-labels
returns-clause-labels c = λ ls w.
    entered ls c.args.self.now _ c.args.label _ _ w (c.len-height.ensures ∙ c.args.self.now.open.ok.0)
    c.in_ok-hidden.ensures.hidden c.in_ok-hidden.ensures.heights c.in_ok-push.ensures.items
