use Rattle.std.proofs.Common.{◌≡◌, ◌<◌, ◌+◌, ◌-◌, ◌^◌, length, refl, sym, ◌∙◌, arith, rules}
use Rattle.std.proofs.lemmas.Result.{err_from_is_err_and}
use Rattle.wc_check.specs.Standard.Rules.{each}
use Rattle.wc_check.specs.Standard.Spaces.{imported_funcs}
use Rattle.wc_check.specs.Standard.Broken.{broken_func}
use Rattle.wc_check.proofs.Lists.SpaceLemmas.{func_start, func_count}
use Rattle.wc_check.proofs.Lists.VerdictLemmas.{verdict-fails, verdict-passes}
use Rattle.wc_body.specs.Standard.Needed.{nothing}
use Rattle.wc_check.specs.Judging.Enough.{IsKnown}
use Rattle.wc_check.proofs.Walks.CommonLemmas.{known-each}
use Rattle.wc_check.proofs.definitions.check_funcs.Goals as goal

pub loop-func-init : goal.loop-func-init
loop-func-init c =
    let m = c.args.module.now in
    let start : c.args.context.now.funcs - c.len.result ≡ length (imported_funcs m.imports) =
    rw (c.requires.rules, c.len.ensures) (func_start m) in
    let all : c.args.context.now.funcs ≡ length (imported_funcs m.imports) + length m.funcs =
    rw c.requires.rules (func_count m) in
    let known : IsKnown c.args.context.now c.known_of-known.result c.needs.result = record {
      common = c.known_of-known.ensures.common.0;
      settable = c.known_of-known.ensures.settable.0;
    } in
    let few : c.args.context.now.funcs < 2 ^ 64 = search rules in
    record {
      few = rw (start, c.iter-funcs.ensures) (omega (arith, all, few));
      known = rw c.iter-funcs.ensures
          (known-each c.args.context.now c.known_of-known.result nothing m.funcs (rw c.needs.ensures at known));
      rest = rw (start, c.iter-funcs.ensures) refl;
    }

pub overflow_add-index : goal.overflow_add-index
overflow_add-index c = omega (arith, rw c.in-Some.ensures.steps at c.loop-func.invariant.few)

pub loop-func-preserved : goal.loop-func-preserved
loop-func-preserved c =
    let m = c.args.module.now in
    record {
      few = omega (arith, rw c.in-Some.ensures.steps at c.loop-func.invariant.few);
      known = (rw c.in-Some.ensures.steps at c.loop-func.invariant.known).1;
      rest =
          sym (verdict-passes (broken_func m c.loop-func.index c.in-Some.func)
          (each (broken_func m) (c.loop-func.index + 1) c.next.new.self) c.in_ok-check_func.ensures)
          ∙ rw c.in-Some.ensures.steps at c.loop-func.invariant.rest;
    }

pub returns-in_err-check_func : goal.returns-in_err-check_func
returns-in_err-check_func c =
    let m = c.args.module.now in
    let p = err_from_is_err_and c.from_residual.result c.from_residual.ensures.1 in
    rw (p.1, p.2)
    (sym (verdict-fails (broken_func m c.loop-func.index c.in-Some.func)
    (each (broken_func m) (c.loop-func.index + 1) c.next.new.self) c.in_err-check_func.field-0.0
    (sym c.in_err-check_func.ensures))
    ∙ rw c.in-Some.ensures.steps at c.loop-func.invariant.rest)
