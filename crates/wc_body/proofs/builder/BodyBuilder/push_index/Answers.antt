use Rattle.std.proofs.Common.{refl}
use Rattle.wc_body.specs.declared.instr.Instr.TheVariants.{Index}
use Rattle.wc_body.proofs.Drafts.Runs.FreeIntegers.{free-one}
use Rattle.wc_body.proofs.builder.BodyBuilder.push_index.Goals as goal

pub returns-clause-some : goal.returns-clause-some
returns-clause-some c =
    let index = (c.in_ok-index.ensures _ _).1 (refl, refl) in
    let i = Index c.args.op c.in_ok-index.index in
    let one = free-one _ c.args.bytes.now _ index.0 _ i refl refl index.1 index.2 in
    (i, one.0, one.1, one.2, c.push_fitting.ensures.added c.if-not-push_fitting.false)
