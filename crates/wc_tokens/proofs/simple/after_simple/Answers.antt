use Rattle.std.proofs.lemmas.List.{take_rest}
use Rattle.wc_tokens.proofs.Escapes.SimpleLaws.{EndsElements-simple}
use Rattle.wc_tokens.proofs.simple.after_simple.Goals as goal

pub returns-clause-same_end : goal.returns-clause-same_end
returns-clause-same_end c = λ rest e.
    EndsElements-simple c.args.text.now c.loop-at.at c.loop-at.invariant.1 rest
    (rw (take_rest c.args.text.now c.loop-at.at) at e)
