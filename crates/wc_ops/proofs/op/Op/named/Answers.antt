-- The opcode at the word's slot decides: its instruction has that name, or none has.
use Rattle.std.proofs.Common.{◌≡◌, get_or, false, sym, ap, subst, ◌∙◌}
use Rattle.std.specs.Str.{bytes_eq}
use Rattle.std.proofs.lemmas.Slice.Eq.{bytes_eq-Decides}
use Rattle.wc_ops.specs.declared.op_of_name.TheConstants.{OPCODES}
use Rattle.wc_ops.specs.Standard.ByteMeaning.{IsOpByte}
use Rattle.wc_ops.specs.Reading.NameSlots.{slot}
use Rattle.wc_ops.proofs.Meanings.OfNames.{is-named, is-other, is-none}
use Rattle.wc_ops.proofs.op.Op.named.Goals as goal

pub returns-then-eq : goal.returns-then-eq
returns-then-eq c =
    let e = c.slot.ensures.slot ∙ ap slot c.as_bytes.ensures.value in
    let h = subst (λ n. IsOpByte (get_or OPCODES n 0) c.of_byte.result) e c.of_byte.ensures in
    is-named _ c.in-Known.op (rw c.in-Known.is at h)
    (sym c.name.ensures ∙ (bytes_eq-Decides c.name.result.now c.args.word.now).0 (sym c.eq.ensures ∙ c.if-eq.true))

pub returns-else-eq : goal.returns-else-eq
returns-else-eq c =
    let e = c.slot.ensures.slot ∙ ap slot c.as_bytes.ensures.value in
    let h = subst (λ n. IsOpByte (get_or OPCODES n 0) c.of_byte.result) e c.of_byte.ensures in
    let differ : bytes_eq c.name.result.now c.args.word.now ≡ false = sym c.eq.ensures ∙ c.if-eq.false in
    is-other _ c.in-Known.op (rw c.in-Known.is at h)
    (λ same. let t = (bytes_eq-Decides c.name.result.now c.args.word.now).1 (c.name.ensures ∙ same) in cc)

pub returns-in-Float : goal.returns-in-Float
returns-in-Float c =
    let e = c.slot.ensures.slot ∙ ap slot c.as_bytes.ensures.value in
    is-none _ c.of_byte.result (subst (λ n. IsOpByte (get_or OPCODES n 0) c.of_byte.result) e c.of_byte.ensures)
    (λ op k. let f = c.in-Float.is in absurd cc)

pub returns-in-Unknown : goal.returns-in-Unknown
returns-in-Unknown c =
    let e = c.slot.ensures.slot ∙ ap slot c.as_bytes.ensures.value in
    is-none _ c.of_byte.result (subst (λ n. IsOpByte (get_or OPCODES n 0) c.of_byte.result) e c.of_byte.ensures)
    (λ op k. let f = c.in-Unknown.is in absurd cc)
