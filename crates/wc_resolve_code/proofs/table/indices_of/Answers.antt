use Rattle.std.proofs.Common.{arith}
use Rattle.wc_surface.specs.declared.instr.Operand.TheVariants.{Number}
use Rattle.wc_resolve_code.specs.Standard.Operands.{index_in, index_faults}
use Rattle.wc_resolve_code.proofs.Listing.{next-mapped, next-noted}
use Rattle.wc_resolve_code.proofs.table.indices_of.Goals as goal

pub loop-operand-preserved : goal.loop-operand-preserved
loop-operand-preserved c = (
  omega (arith, c.loop-operand.invariant.0, c.in_ok-push.ensures.len),
  λ k ls knows is.
      let kept = c.loop-operand.invariant.1 k ls knows is in
      let os = c.args.operands.now in
      let at = c.loop-operand.operand-index in (
        next-mapped os at (Number 0) c.loop-operand-test.true (index_in ls c.args.ids.now) _ _ _ _
            c.in_ok-push.ensures.items (c.index_of-index.ensures.value k ls knows is) kept.0,
        next-noted os at (Number 0) c.loop-operand-test.true (index_faults ls c.args.ids.now) _ _ _
            (c.index_of-index.ensures.noted k ls knows is) kept.1,
      ),
)
