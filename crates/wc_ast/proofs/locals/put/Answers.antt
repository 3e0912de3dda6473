use Rattle.std.proofs.Common.{◌≡◌, arith, suc, ◌-◌, length}
use Rattle.wc_ast.specs.Kept.Locals.{EndsWith}
use Rattle.wc_ast.proofs.Groups.GroupLemmas.{grouped-push, written_out-push, grouped-last, written_out-last, count-last}
use Rattle.wc_ast.proofs.Groups.GroupLemmas.{ends-some}
use Rattle.wc_ast.proofs.locals.put.Goals as goal
use Rattle.wc_ast.proofs.locals.put.Goals.{After-index}

ends : (c : After-index) → EndsWith c.args.ty c.args.groups.now.items
ends c = rw c.as_slice.ensures.value at (c.ends_with.ensures.0 c.if-ends_with.true)

last : (c : After-index) → suc (c.len-last.result - 1) ≡ length c.args.groups.now.items
last c = let h = ends-some c.args.groups.now.items c.args.ty (ends c) in omega (arith, c.args.groups.now.ok.0)

pub overflow_add-before : goal.overflow_add-before
overflow_add-before c = let h = last c in let k = count-last c.args.groups.now.items
    (c.len-last.result - 1) c.index.result.now c.index.ensures (omega arith) in omega arith

pub returns-then-ends_with-clause-grouped : goal.returns-then-ends_with-clause-grouped
returns-then-ends_with-clause-grouped c = let a = (goal.at.returns-then-ends_with-clause-grouped c).After-index in
    grouped-last c.args.groups.now.items (c.len-last.result - 1) c.index.result.now c.args.count c.args.ty
    c.index.ensures (last a) c.requires.grouped (ends a)

pub returns-then-ends_with-clause-ok : goal.returns-then-ends_with-clause-ok
returns-then-ends_with-clause-ok c = let a = (goal.at.returns-then-ends_with-clause-ok c).After-index in
    written_out-last c.args.groups.now.items (c.len-last.result - 1) c.index.result.now c.args.count c.args.ty
    c.index.ensures (last a) (ends a)

pub returns-in_ok-push-clause-grouped : goal.returns-in_ok-push-clause-grouped
returns-in_ok-push-clause-grouped c = rw c.in_ok-push.ensures.items
    (grouped-push c.args.groups.now.items c.args.count c.args.ty c.requires.grouped c.requires.some
    (λ e. let t = c.ends_with.ensures.1 (rw c.as_slice.ensures.value e) in cc (t, c.if-ends_with.false)))

pub returns-in_ok-push-clause-ok : goal.returns-in_ok-push-clause-ok
returns-in_ok-push-clause-ok c = rw c.in_ok-push.ensures.items
    (written_out-push c.args.groups.now.items c.args.count c.args.ty)
