use Rattle.std.proofs.Common.{◌≢◌, arith, sym, ◌∙◌}
use Rattle.wc_tokens.proofs.Decided.HeadLaws.{BeginsToken-word, Stuck-character}
use Rattle.wc_tokens.proofs.heads.head_of.Goals as goal

pub returns-then-is_idchar : goal.returns-then-is_idchar
returns-then-is_idchar c =
    BeginsToken-word c.args.front.here.now c.args.front.first c.args.front.rest.now c.after_run.result.now
    c.requires.here_is (sym c.is_idchar.ensures ∙ c.if-is_idchar.true) c.after_run.ensures
    (λ e. absurd (c.if-front-eq36.false e))

pub returns-in_default : goal.returns-in_default
returns-in_default c =
    let first = c.args.front.first in
    let not_open : first ≢ 40 = omega arith in
    let not_close : first ≢ 41 = omega arith in
    let not_quote : first ≢ 34 = omega arith in
    let not_semicolon : first ≢ 59 = omega arith in
    Stuck-character c.args.front.here.now first c.args.front.rest.now c.requires.here_is c.requires.not_blank
    (sym c.is_idchar.ensures ∙ c.if-is_idchar.false) not_open not_close not_quote not_semicolon
