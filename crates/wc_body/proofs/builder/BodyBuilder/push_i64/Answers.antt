use Rattle.std.proofs.Common.{refl, rules}
use Rattle.std.proofs.lemmas.Int.{to_z-of_z}
use mir.Val.{SFits, to_z, of_z}
use mir.Syntax.{w64}
use Rattle.wc_body.specs.declared.instr.Instr.TheVariants.{I64Const}
use Rattle.wc_body.specs.Drafting.FreeEntries.{SpellsIntegers}
use Rattle.wc_body.proofs.Packing.Integers.{signed-stands}
use Rattle.wc_body.proofs.Drafts.Runs.FreeIntegers.{free-one}
use Rattle.wc_body.proofs.builder.BodyBuilder.push_i64.Goals as goal

pub returns-clause-some : goal.returns-clause-some
returns-clause-some c =
    let n = c.in_ok-n.n in
    let fits : SFits w64 n = search rules in
    let stands = rw c.in_ok-n.was at (signed-stands 64 c.args.bytes.now c.i64_in_place.result c.i64_in_place.ensures) in
    let i = I64Const (to_z w64 (of_z w64 n)) in
    let spelled : SpellsIntegers i stands.0 = simp to_z-of_z stands.2 in
    let one = free-one _ c.args.bytes.now _ stands.0 _ i refl refl stands.1 spelled in
    (i, one.0, one.1, one.2, c.push_fitting.ensures.added c.if-not-push_fitting.false)
