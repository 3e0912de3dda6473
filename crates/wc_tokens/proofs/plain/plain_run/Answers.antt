use Rattle.wc_tokens.proofs.Escapes.PlainLaws.{plain-from}
use Rattle.wc_tokens.proofs.plain.plain_run.Goals as goal

pub loop-at-init : goal.loop-at-init
loop-at-init c = (c.count_before-at.ensures.within, λ k less. plain-from _ (c.count_before-at.ensures.none k less))
