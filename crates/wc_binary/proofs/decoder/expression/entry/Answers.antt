use Rattle.std.proofs.Common.{refl, sym, ◌∙◌, arith}
use Rattle.wc_ops.specs.declared.op.OpByte.TheVariants.{Known, Float}
use Rattle.wc_binary.proofs.reading.Going.{Stopped-refl}
use Rattle.wc_binary.proofs.reading.Entries.{opcode-is, no-entry}
use Rattle.wc_binary.proofs.decoder.expression.entry.Goals as goal
use Rattle.wc_binary.proofs.decoder.expression.entry.Goals.{else-byte-eq5-via-then-byte-eq5+else-in_first_part}
use Rattle.wc_binary.proofs.decoder.expression.entry.Goals.{else-byte-eq5-via-else-byte-eq5}

pub returns-in-Known : goal.returns-in-Known
returns-in-Known g c =
    let e = opcode-is c.args.byte (Known c.in-Known.op) c.in-Known.ensures (λ e. absurd cc) in
    rw e c.instruction.ensures

pub returns-in-Float : goal.returns-in-Float
returns-in-Float g c =
    let e = opcode-is c.args.byte Float c.in-Float.ensures (λ e. absurd cc) in
    rw c.bad.ensures (Stopped-refl _, λ w. rw (e, c.requires) refl)

pub returns-else-byte-eq5 : goal.returns-else-byte-eq5
returns-else-byte-eq5 g c = rw c.bad-in-Unknown.ensures (
  Stopped-refl _,
  λ w.
      let e = no-entry c.args.builder.now c.args.byte c.args.at (g.S.Source.input c.args.source.now).left
      c.in-Unknown.ensures (λ e. absurd (omega arith)) (elim c.else-byte-eq5.branch [
        | else-byte-eq5-via-then-byte-eq5+else-in_first_part w ↦
            λ e. sym w.in_first_part.ensures ∙ w.if-in_first_part.false
        | else-byte-eq5-via-else-byte-eq5 w ↦ λ e. absurd (omega arith)
      ]) in
      rw (e, c.requires) refl,
)
