use Rattle.std.proofs.Common.{◌∙◌, arith}
use Rattle.wc_tokens.proofs.Integers.Scans.{keeps-digit, keeps-apart, ends-other, ends-all, run_to-is}
use Rattle.wc_tokens.proofs.digits.digits.Goals.{then-digit-base, else-digit-base+then-after_digit+then-text-at-eq95}
use Rattle.wc_tokens.proofs.digits.digits.Goals.{else-after_digit-via-then-after_digit+else-text-at-eq95}
use Rattle.wc_tokens.proofs.digits.digits.Goals.{else-after_digit-via-else-after_digit}
use Rattle.wc_tokens.proofs.digits.digits.Goals as goal

pub returns-else-after_digit-clause-scanned : goal.returns-else-after_digit-clause-scanned
returns-else-after_digit-clause-scanned c =
    let text = c.args.text.now in
    let at = c.loop-at.at in
    let ended = ends-other c.args.base c.loop-at.after_digit c.loop-at.value text at c.loop-at.invariant.read
    c.loop-at-test.true c.digit_of-digit.ensures c.if-digit-base.false in
    run_to-is c.loop-at.after_digit c.loop-at.value text at c.run.ensures
    (ended (λ after. elim c.else-after_digit.branch [
      | else-after_digit-via-then-after_digit+else-text-at-eq95 w ↦ w.if-text-at-eq95.false
      | else-after_digit-via-else-after_digit w ↦ absurd (cc (after, w.if-after_digit.false))
    ]))

pub loop-at-preserved : goal.loop-at-preserved
loop-at-preserved c =
    let text = c.args.text.now in
    let at = c.loop-at.at in
    let read = c.loop-at.invariant.read in
    elim c.if-digit-base.branch [
      | then-digit-base w ↦ record {
        read =
            keeps-digit c.args.base c.loop-at.after_digit c.loop-at.value text at read c.loop-at-test.true
            c.digit_of-digit.ensures w.if-digit-base.true (w.value-is ∙ w.extended-value.ensures) w.after_digit-is;
        within = omega arith;
        begun = λ _. omega arith;
      }
      | else-digit-base+then-after_digit+then-text-at-eq95 w ↦ record {
        read =
            keeps-apart c.args.base c.loop-at.after_digit c.loop-at.value text at read c.loop-at-test.true
            c.digit_of-digit.ensures w.if-digit-base.false w.if-after_digit.true w.if-text-at-eq95.true w.value-is
            w.after_digit-is;
        within = omega arith;
        begun = λ _. omega arith;
      }
    ]

pub returns-clause-scanned : goal.returns-clause-scanned
returns-clause-scanned c =
    let text = c.args.text.now in
    let at = c.loop-at.at in
    run_to-is c.loop-at.after_digit c.loop-at.value text at c.run-2.ensures
    (ends-all c.args.base c.loop-at.after_digit c.loop-at.value text at c.loop-at.invariant.read c.loop-at-test.false)
