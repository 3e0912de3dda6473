use Rattle.std.proofs.Common.{sym, ap, ◌∙◌, Some, ℕ, ◌-◌}
use Rattle.wc_spaces.proofs.Opening.{place-from_height}
use Rattle.wc_spaces.proofs.labels.Labels.place.Goals as goal

pub returns-in-Some : goal.returns-in-Some
returns-in-Some c = λ ls w.
    ap (λ (k : ℕ). Some k) (c.saturating_sub-in-Some.ensures
    ∙ ap (λ k. k - c.in-Some.height) (c.saturating_sub.ensures ∙ ap (λ k. k - 1) c.len.ensures))
    ∙ sym (place-from_height c.args.text.now ls c.args.self.now _ (Some c.in-Some.height) w c.args.self.now.open.ok.0
    c.in-Some.ensures)

pub returns-in-None : goal.returns-in-None
returns-in-None c = λ ls w. sym (place-from_height c.args.text.now ls c.args.self.now _ _ w c.args.self.now.open.ok.0
    c.in-None.ensures)
