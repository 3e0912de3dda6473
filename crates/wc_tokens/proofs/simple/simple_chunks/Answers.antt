use Rattle.std.proofs.Common.{arith}
use Rattle.wc_tokens.proofs.Escapes.ChunkLaws.{linked-simple, linked-begun}
use Rattle.wc_tokens.proofs.simple.simple_chunks.Goals as goal

pub loop-at-preserved : goal.loop-at-preserved
loop-at-preserved c =
    let linked = c.is_linked_chunk.ensures c.if-is_linked_chunk.true in record {
      within = omega arith;
      simple = linked-simple c.args.text.now c.loop-at.at c.loop-at.invariant.simple c.loop-at.invariant.begun linked;
      begun = linked-begun c.args.text.now c.loop-at.at c.loop-at.invariant.begun linked;
    }
