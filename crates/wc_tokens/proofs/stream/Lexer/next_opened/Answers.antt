use Rattle.std.proofs.Common.{◌∷◌, []}
use Rattle.wc_tokens.proofs.Lexing.RunLaws.{EndsWith-more, EndsWith-gaps}
use Rattle.wc_tokens.proofs.Lexing.OpenedLaws.{opened-given}
use Rattle.wc_tokens.proofs.stream.Lexer.next_opened.Goals as goal

pub invariant_of-self : goal.invariant_of-self
invariant_of-self c =
    let e = c.in_ok-opened.ensures {u = tt} in
    let text = c.self.inside.text.now in
    let opened = c.in_ok-opened.opened in
    EndsWith-more text opened.inside.now c.as_bytes.result.now opened.rest.now
    (EndsWith-more text opened.here.now (40 ∷ []) opened.inside.now (EndsWith-gaps c.self.invariant e.gaps) e.opens)
    e.inside_is

pub returns-clause-read : goal.returns-clause-read
returns-clause-read c =
    let e = c.in_ok-opened.ensures {u = tt} in
    rw (← c.self.view_is, ← c.as_bytes.ensures.value) (opened-given c.in_ok-opened.opened e)
