use Rattle.std.proofs.Common.{arith}
use Rattle.wc_ast.specs.Kept.Locals.{IsLocals}
use Rattle.wc_ast.proofs.Rows.CodeRowLemmas.{few-groups, code-pushed}
use Rattle.wc_ast.proofs.codes.Codes.push.Goals as goal

pub overflow_cast-groups : goal.overflow_cast-groups
overflow_cast-groups c =
    let few = few-groups c.groups-groups.result.now c.groups-groups.ensures.grouped in
    let within = rw (← c.groups-groups.ensures.written_out) at c.groups-groups.ensures.within in
    omega (arith, few, within)

pub invariant_of-self-2 : goal.invariant_of-self-2
invariant_of-self-2 c =
    let are : IsLocals c.groups-groups.result.now c.len.result = record {
      grouped = c.groups-groups.ensures.grouped;
      counted = rw c.groups-groups.ensures.written_out c.len.ensures.count;
      within = c.len.ensures.within;
    } in
    let it = code-pushed c.self.inside.spans.items c.self.inside.groups.items c.groups-groups.result.now c.len.result
    c.self.inside.bodies c.args.body.now c.self.invariant are in
    rw (
      c.push_reserved.ensures.items,
      c.append.ensures,
      c.in_ok-reserve-2.ensures.items,
      c.in_ok-reserve.ensures.items,
      c.in_ok-push.ensures.ok,
    )
    it.kept

pub returns-clause-ok : goal.returns-clause-ok
returns-clause-ok c =
    let are : IsLocals c.groups-groups.result.now c.len.result = record {
      grouped = c.groups-groups.ensures.grouped;
      counted = rw c.groups-groups.ensures.written_out c.len.ensures.count;
      within = c.len.ensures.within;
    } in
    let it = code-pushed c.self.inside.spans.items c.self.inside.groups.items c.groups-groups.result.now c.len.result
    c.self.inside.bodies c.args.body.now c.self.invariant are in
    rw (
      ← c.self.view_is,
      ← c.groups-groups.ensures.written_out,
      c.push_reserved.ensures.items,
      c.append.ensures,
      c.in_ok-reserve-2.ensures.items,
      c.in_ok-reserve.ensures.items,
      c.in_ok-push.ensures.ok,
    )
    it.seen
