use Rattle.std.proofs.Common.{◌≡◌, true, false, inr, refl, rules, arith}
use Rattle.wc_canon.specs.Standard.Input.{is_binary}
use Rattle.wc_canon.proofs.Laws.{has-oversize}
use Rattle.wc_canon.proofs.Judged.{if-error, module-refused}
use Rattle.wc_canon.proofs.OwnBytes.{text-tells, binary-tells}
use Rattle.wc_canon.proofs.fixed.is_canonical.Goals as goal

pub returns-in_err-judge_module-clause-err : goal.returns-in_err-judge_module-clause-err
returns-in_err-judge_module-clause-err c =
    if-error _ _ _ c.from_residual-in_err-judge_module.ensures.1
    (module-refused _ _ _ c.in_ok-module.ensures.ok c.in_err-judge_module.ensures.err)

pub returns-in_default-clause-err : goal.returns-in_default-clause-err
returns-in_default-clause-err c =
    inr (has-oversize c.args.input.now c.in_ok-module.module c.in_ok-module.ensures.ok
    c.in_ok-judge_module.ensures.keeps
    (rw c.in_default.is at c.encoded_length.ensures))

pub returns-then-not-is_binary-clause-ok : goal.returns-then-not-is_binary-clause-ok
returns-then-not-is_binary-clause-ok c =
    let e : is_binary c.args.input.now ≡ false = first_of (cc, search rules, grind arith) in
    text-tells c.args.input.now c.in_ok-module.module c.in-Some.length c.in_ok-module.ensures.ok
    c.in_ok-judge_module.ensures.keeps c.in-Some.ensures e

pub returns-clause-ok : goal.returns-clause-ok
returns-clause-ok c =
    let e : is_binary c.args.input.now ≡ true = first_of (cc, search rules, grind arith) in
    binary-tells c.args.input.now c.in_ok-module.module c.in-Some.length c.in_ok-module.ensures.ok
    c.in_ok-judge_module.ensures.keeps c.in-Some.ensures e _ refl
