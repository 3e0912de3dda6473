use Rattle.std.proofs.Common.{take}
use Rattle.wc_canon.specs.Standard.Text.{pieces_text}
use Rattle.wc_cli.specs.Standard.Failing.{GoesOut}
use Rattle.wc_cli.proofs.writing.put_pieces.Given as goal

abbrev pub invariant-loop-piece : goal.invariant-loop-piece
invariant-loop-piece g l = GoesOut g.E.Write.contents (pieces_text (take l.piece-index l.pieces)) l.fn.e l.e
