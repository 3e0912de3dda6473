use Rattle.std.proofs.Common.{rules}
use Rattle.std.proofs.lemmas.Int.{to_z-of_z}
use mir.Val.{SFits}
use mir.Syntax.{w32, w64}
use Rattle.wc_leb128.specs.Standard.Shortest.{HoldsSigned}
use Rattle.wc_body.proofs.Packing.Integers.{signed-same, signed-held, held-word}
use Rattle.wc_body.proofs.bytes.number.i32_in_place.Goals as goal

pub overflow_cast-result : goal.overflow_cast-result
overflow_cast-result c =
    let wide : SFits w64 c.in_ok-n.n = search rules in
    let held : HoldsSigned 32 c.in_ok-n.n = signed-held 32 _ _ _ c.signed_front.ensures c.in_ok-n.was in
    simp to_z-of_z (held-word c.in_ok-n.n held)

pub returns-in_err-n : goal.returns-in_err-n
returns-in_err-n c = rw c.from_residual.ensures
    (rw c.in_err-n.was at (signed-same 32 c.args.bytes.now c.signed_front.result c.signed_front.ensures))

pub returns : goal.returns
returns c =
    let wide : SFits w64 c.in_ok-n.n = search rules in
    let held : HoldsSigned 32 c.in_ok-n.n = signed-held 32 _ _ _ c.signed_front.ensures c.in_ok-n.was in
    let fits : SFits w32 c.in_ok-n.n = held-word c.in_ok-n.n held in
    simp to_z-of_z (rw c.in_ok-n.was at (signed-same 32 c.args.bytes.now c.signed_front.result c.signed_front.ensures))
