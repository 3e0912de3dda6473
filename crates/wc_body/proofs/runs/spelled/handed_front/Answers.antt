use Rattle.std.proofs.lemmas.List.{take_rest}
use Rattle.std.proofs.Common.{refl}
use Rattle.wc_body.proofs.Drafts.Runs.HandedLemmas.{call-handed, local-handed}
use Rattle.wc_body.proofs.runs.spelled.handed_front.Goals as goal

pub returns-then-opcode-eq16-clause-some : goal.returns-then-opcode-eq16-clause-some
returns-then-opcode-eq16-clause-some c k =
    let noted = call-handed c.args.bytes.now k c.args.needs.now _ c.if-bytes-lt2.false c.if-opcode-eq16.true
    c.if-index-ge128.false (rw (c.max-needs.ensures, c.from.ensures) refl) in
    rw (take_rest c.args.bytes.now 2) noted

pub returns-clause-some : goal.returns-clause-some
returns-clause-some c k =
    let noted = local-handed c.args.bytes.now k c.args.needs.now _ c.if-bytes-lt2.false c.if-opcode-lt32.false
    c.if-opcode-gt34.false c.if-index-ge128.false (rw (c.max-needs-2.ensures, c.from-2.ensures) refl) in
    rw (take_rest c.args.bytes.now 2) noted
