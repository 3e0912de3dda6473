use Rattle.std.proofs.Common.{arith}
use Rattle.wc_tokens.proofs.Escapes.ChunkLaws.{linked-simple, linked-begun}
use Rattle.wc_tokens.proofs.simple.note_places.Goals as goal

pub loop-at-preserved : goal.loop-at-preserved
loop-at-preserved c =
    let text = c.args.text.now in
    let at = c.loop-at.at in
    let linked = c.note_chunk.ensures.linked c.if-note_chunk.true in record {
      room = omega arith;
      within = omega arith;
      values = c.note_chunk.array_long;
      starts = c.note_chunk.array_long2;
      simple = linked-simple text at c.loop-at.invariant.simple c.loop-at.invariant.begun linked;
      begun = linked-begun text at c.loop-at.invariant.begun linked;
      noted = c.note_chunk.ensures.noted;
    }
