use Rattle.std.proofs.Common.{sym, ◌∙◌}
use Rattle.wc_symbols.proofs.Spelling.Utf8Lemmas.{tracks-broken, tracks-refused, tracks-more}
use Rattle.wc_symbols.proofs.utf8.followed.Goals as goal

pub returns-in-Some : goal.returns-in-Some
returns-in-Some c =
    λ read k. tracks-more c.in-Some.tail read c.args.byte (rw c.in-Some.is at k)
    (sym c.may_follow.ensures ∙ c.if-may_follow.true)

pub returns-in_default : goal.returns-in_default
returns-in_default c =
    λ read k. tracks-refused c.in-Some.tail read c.args.byte (rw c.in-Some.is at k)
    (sym c.may_follow.ensures ∙ c.if-may_follow.false)

pub returns-in_default-2 : goal.returns-in_default-2
returns-in_default-2 c = λ read k. tracks-broken read c.args.byte (rw c.in_default.is at k)
