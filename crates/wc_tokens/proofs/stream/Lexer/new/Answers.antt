use Rattle.std.proofs.Common.{subst, sym, arith}
use Rattle.std.specs.Str.{IsValidUpTo}
use Rattle.wc_tokens.specs.Standard.Faults.{too_long, not_utf8}
use Rattle.wc_tokens.proofs.stream.Lexer.new.Goals as goal

pub returns-then-text-gt-LONGEST-clause-fault : goal.returns-then-text-gt-LONGEST-clause-fault
returns-then-text-gt-LONGEST-clause-fault c = too_long (omega (arith, c.if-text-gt-LONGEST.true))

pub returns-in-Err-clause-fault : goal.returns-in-Err-clause-fault
returns-in-Err-clause-fault c =
    not_utf8 (omega (arith, c.if-text-gt-LONGEST.false))
    (subst (IsValidUpTo c.args.text.now) (sym c.valid_up_to.ensures) c.in-Err.ensures.cases.1)
