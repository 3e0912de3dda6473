use Rattle.std.proofs.Common.{refl, sym, ap}
use Rattle.wc_ops.specs.declared.op.Op.TheVariants as ops
use Rattle.wc_ops.specs.declared.op.OpByte.TheVariants.{Known}
use Rattle.wc_body.specs.declared.instr.Instr.TheVariants.{Simple}
use Rattle.wc_body.proofs.Drafts.Runs.FrontLemmas.{access-notes, simple-notes}
use Rattle.wc_body.proofs.runs.front.meant_front.Goals as goal

pub returns-else-not-is_bare-clause-some : goal.returns-else-not-is_bare-clause-some
returns-else-not-is_bare-clause-some c =
    let op = c.in-Known-Simple.op in
    let bare = c.is_bare.ensures c.if-not-is_bare.false in
    let byte = (c.in-Known-Simple.ensures.known (ops.Simple op)).0 (ap (λ q. Known q) c.in-Known-Simple.field-0-is) in
    (Simple op, rw (byte, bare.0) refl, tt, λ k. sym (bare.1 c.args.needs.now))

pub returns-in-Known-Mem-clause-some : goal.returns-in-Known-Mem-clause-some
returns-in-Known-Mem-clause-some c =
    let op = c.in-Known-Mem.op in
    let byte = (c.in-Known-Mem.ensures.known (ops.Mem op)).0 (ap (λ q. Known q) c.in-Known-Mem.field-0-is) in
    access-notes c.args.byte c.args.bytes.now _ _ op byte c.access_front.result c.access_front.ensures.some

pub returns-then-not-is_bare-clause-some : goal.returns-then-not-is_bare-clause-some
returns-then-not-is_bare-clause-some c =
    let op = c.in-Known-Simple.op in
    let byte = (c.in-Known-Simple.ensures.known (ops.Simple op)).0 (ap (λ q. Known q) c.in-Known-Simple.field-0-is) in
    simple-notes c.args.byte c.args.bytes.now _ _ op byte c.sized_front.result c.sized_front.ensures.some
