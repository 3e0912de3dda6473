use Rattle.std.proofs.Common.{refl, sym, ap, ◌∙◌, ◌++◌, append_assoc, List, ℕ}
use Rattle.wc_ops.specs.declared.op.Op.TheVariants as ops
use Rattle.wc_ops.specs.declared.op.OpByte.TheVariants.{Known}
use Rattle.wc_body.specs.declared.instr.Instr.TheVariants.{Mem}
use Rattle.wc_body.proofs.Drafts.Runs.FreeIntegers.{free-one}
use Rattle.wc_body.proofs.builder.BodyBuilder.push_access.Goals as goal

pub returns-clause-some : goal.returns-clause-some
returns-clause-some c =
    let op = c.in-Known-Mem.op in
    let byte = (c.in-Known-Mem.ensures.known (ops.Mem op)).0 (ap (λ q. Known q) c.in-Known-Mem.field-0-is) in
    let align = (c.in_ok-align.ensures _ _).1 (refl, refl) in
    let offset = (c.in_ok-offset.ensures _ _).1 (refl, refl) in
    let i = Mem op (record { align = c.in_ok-align.align; offset = c.in_ok-offset.offset }) in
    let split =
    align.1 ∙ ap (λ (q : List ℕ). align.0 ++ q) offset.1 ∙ sym (append_assoc align.0 offset.0 _) in
    let one = free-one _ c.args.bytes.now _ (align.0 ++ offset.0) _ i refl byte split
    (align.0, offset.0, refl, align.2, offset.2) in
    (i, one.0, one.1, one.2, c.push_fitting.ensures.added c.if-not-push_fitting.false)
