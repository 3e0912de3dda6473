use Rattle.std.proofs.Common.{sym, ◌∙◌, subst}
use Rattle.wc_tokens.specs.Standard.Streams.{Unread}
use Rattle.wc_parse.specs.Kept.Passing.{Passes}
use Rattle.wc_parse.proofs.Saying.Passing.{passes-none, passes-followed, passes-from}
use Rattle.wc_parse.proofs.wholes.take_wholes.Goals as goal

pub returns-then-not-may_repeat : goal.returns-then-not-may_repeat
returns-then-not-may_repeat c = passes-none

pub returns : goal.returns
returns c =
    let passes = passes-from c.ahead-ahead.ensures (c.in_ok-after.ensures {u = tt}) in
    subst
    (λ (u : Unread).
    Passes c.args.lexer.now c.args.at c.args.reading.now c.args.draft.now u c.in_ok-after.after
    c.take_repeated.new.draft)
    (sym (c.follow.ensures ∙ passes-followed passes)) passes
