use Rattle.std.proofs.Common.{arith}
use Rattle.wc_tokens.proofs.Comments.CommentLaws.{keeps-open, ends-last, keeps-close, keeps-other, ends-unclosed}
use Rattle.wc_tokens.proofs.heads.after_comment.Goals.{else-text-at-eq40-via-then-text-at-eq40+else-text-at-eq59}
use Rattle.wc_tokens.proofs.heads.after_comment.Goals.{else-text-at-eq40-via-else-text-at-eq40}
use Rattle.wc_tokens.proofs.heads.after_comment.Goals.{else-text-at-eq59-2-via-then-text-at-eq59-2+else-text-at-eq41}
use Rattle.wc_tokens.proofs.heads.after_comment.Goals.{else-text-at-eq59-2-via-else-text-at-eq59-2}
use Rattle.wc_tokens.proofs.heads.after_comment.Goals as goal

pub loop-at-preserved-then-text-at-eq59 : goal.loop-at-preserved-then-text-at-eq59
loop-at-preserved-then-text-at-eq59 c = record {
  read =
      keeps-open c.args.text.now c.loop-at.at c.loop-at.depth c.loop-at.invariant.read c.loop-at-test.true
      c.if-text-at-eq40.true c.if-text-at-eq59.true;
  within = omega arith;
  few = omega arith;
}

pub returns-then-depth-eq0 : goal.returns-then-depth-eq0
returns-then-depth-eq0 c =
    ends-last c.args.text.now c.loop-at.at c.loop-at.depth c.loop-at.invariant.read c.loop-at-test.true
    c.if-depth-eq0.true c.if-text-at-eq59-2.true c.if-text-at-eq41.true

pub loop-at-preserved-then-text-at-eq41 : goal.loop-at-preserved-then-text-at-eq41
loop-at-preserved-then-text-at-eq41 c = record {
  read =
      keeps-close c.args.text.now c.loop-at.at c.loop-at.depth c.loop-at.invariant.read c.loop-at-test.true
      c.if-depth-eq0.false c.if-text-at-eq59-2.true c.if-text-at-eq41.true;
  within = omega arith;
  few = omega arith;
}

pub loop-at-preserved : goal.loop-at-preserved
loop-at-preserved c = record {
  read = keeps-other c.args.text.now c.loop-at.at c.loop-at.depth c.loop-at.invariant.read c.loop-at-test.true
      (λ e. elim c.else-text-at-eq40.branch [
        | else-text-at-eq40-via-then-text-at-eq40+else-text-at-eq59 w ↦ w.if-text-at-eq59.false
        | else-text-at-eq40-via-else-text-at-eq40 w ↦ absurd (w.if-text-at-eq40.false e)
      ])
      (λ e. elim c.else-text-at-eq59-2.branch [
        | else-text-at-eq59-2-via-then-text-at-eq59-2+else-text-at-eq41 w ↦ w.if-text-at-eq41.false
        | else-text-at-eq59-2-via-else-text-at-eq59-2 w ↦ absurd (w.if-text-at-eq59-2.false e)
      ]);
  within = omega arith;
  few = omega arith;
}

pub returns : goal.returns
returns c = ends-unclosed c.args.text.now c.loop-at.at c.loop-at.depth c.loop-at.invariant.read c.loop-at-test.false
