use Rattle.std.proofs.Common.{sym, take, drop}
use Rattle.std.proofs.lemmas.List.{take_rest, take-append-drop}
use Rattle.wc_tokens.proofs.Lexing.RunLaws.{EndsWith-more}
use Rattle.wc_tokens.proofs.stream.Lexer.follow.Goals as goal

pub invariant_of-self : goal.invariant_of-self
invariant_of-self c =
    let rest = c.self.inside.rest.now in
    let passed = c.saturating_sub-passed.result in
    rw (take_rest rest passed)
    (EndsWith-more c.self.inside.text.now rest (take passed rest) (drop passed rest) c.self.invariant
    (sym (take-append-drop passed rest)))
