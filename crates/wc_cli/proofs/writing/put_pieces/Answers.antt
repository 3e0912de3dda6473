use Rattle.std.proofs.Common.{arith}
use Rattle.wc_canon.specs.Standard.Text.{piece_text}
use Rattle.wc_cli.proofs.Outgoing.{goes-more}
use Rattle.wc_cli.proofs.writing.put_pieces.Goals as goal

pub loop-piece-preserved : goal.loop-piece-preserved
loop-piece-preserved g c =
    goes-more g.E.Write.contents piece_text c.args.pieces.now c.loop-piece.piece-index _ _ _ _ (omega arith)
    c.loop-piece.invariant c.put_piece.ensures
