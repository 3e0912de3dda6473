use Rattle.std.proofs.Common.{sym, ◌∙◌}
use Rattle.wc_spaces.proofs.Closing.{left, none-left, none-ends, kept-none}
use Rattle.wc_spaces.proofs.labels.Labels.leave.Goals as goal

pub returns-in-Some-clause-labels : goal.returns-in-Some-clause-labels
returns-in-Some-clause-labels c = λ l ls w. left l ls c.args.self.now _ c.in-Some.ended w c.in-Some.ensures.items
    c.show.ensures

pub returns-in-None-clause-labels : goal.returns-in-None-clause-labels
returns-in-None-clause-labels c = λ l ls w. absurd (none-left l ls c.args.self.now w (sym c.args.self.now.open.ok.0
    ∙ c.in-None.ensures.cases.0))

pub returns-in-Some-clause-none : goal.returns-in-Some-clause-none
returns-in-Some-clause-none c = λ w. absurd (none-ends c.args.self.now c.pop.new.self.items c.in-Some.ended w
    c.in-Some.ensures.items)

pub returns-in-None-clause-none : goal.returns-in-None-clause-none
returns-in-None-clause-none c = λ w.
    record { heights = w.heights; open_ones = kept-none c.args.self.now c.pop.new.self.items w c.in-None.ensures.items }
