use Rattle.std.proofs.Common.{◌∷◌, []}
use Rattle.wc_tokens.proofs.Lexing.RunLaws.{EndsWith-more, EndsWith-gaps}
use Rattle.wc_tokens.proofs.Lexing.OpenedLaws.{closed-given}
use Rattle.wc_tokens.proofs.stream.Lexer.next_closed.Goals as goal

pub invariant_of-self : goal.invariant_of-self
invariant_of-self c =
    let e = c.in_ok-rest.ensures {u = tt} in
    EndsWith-more c.self.inside.text.now e.here (41 ∷ []) c.in_ok-rest.rest.now
    (EndsWith-gaps c.self.invariant e.gaps) e.closes

pub returns-clause-read : goal.returns-clause-read
returns-clause-read c = rw (← c.self.view_is) (closed-given (c.in_ok-rest.ensures {u = tt}))
