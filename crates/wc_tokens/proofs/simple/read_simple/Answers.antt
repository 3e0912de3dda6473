use Rattle.std.proofs.Common.{length-set, ◌∙◌, arith}
use Rattle.wc_tokens.proofs.Escapes.SimpleLaws.{Elements-simple}
use Rattle.wc_tokens.proofs.simple.read_simple.Goals as goal

pub loop-made-preserved : goal.loop-made-preserved
loop-made-preserved c = record {
  made = omega arith;
  within = omega (arith, (c.in-Some.ensures {u = tt}).within, c.saturating_sub-limit.ensures, c.if-len-limit.true);
  room = length-set c.loop-made.bytes c.loop-made.made c.in-Some.simple.value ∙ c.loop-made.invariant.room;
  elements =
      Elements-simple c.args.text.now c.loop-made.bytes c.loop-made.len c.in-Some.simple.len c.loop-made.made
      c.in-Some.simple.value c.loop-made.invariant.elements (c.in-Some.ensures {u = tt}).element (omega arith)
      (omega (arith, c.loop-made.invariant.room));
}
