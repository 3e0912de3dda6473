use Rattle.std.proofs.Common.{sym, ◌∙◌, arith}
use Rattle.wc_tokens.proofs.Lexing.SpaceLaws.{Gaps-blank}
use Rattle.wc_tokens.proofs.heads.front_between.Goals as goal

pub loop-at-preserved : goal.loop-at-preserved
loop-at-preserved c = (
  omega (arith, c.loop-at-test.true),
  Gaps-blank c.args.text.now c.loop-at.at c.loop-at.invariant.1 (omega (arith, c.loop-at-test.true, c.requires.end))
      (sym c.is_blank.ensures ∙ c.if-not-is_blank.false),
)
