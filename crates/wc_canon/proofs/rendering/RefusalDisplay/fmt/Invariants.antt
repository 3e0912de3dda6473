use Rattle.std.proofs.Common.{take}
use Rattle.std.specs.Fmt.{HasWritten, IsPlainFormatter}
use Rattle.wc_canon.specs.Standard.Text.{pieces_text}
use Rattle.wc_canon.proofs.rendering.RefusalDisplay.fmt.Given as goal

abbrev pub invariant-loop-piece : goal.invariant-loop-piece
invariant-loop-piece g l =
    IsPlainFormatter l.initial.f
    → HasWritten g.W.Write.write_str_gives l.initial.f (pieces_text (take l.piece-index l.piece-items)) l.f
