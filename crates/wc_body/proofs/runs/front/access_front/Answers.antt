use Rattle.std.proofs.Common.{◌<◌, arith, refl}
use Rattle.wc_leb128.proofs.Writing.UnsignedShortest.{unsigned_bytes-low}
use Rattle.wc_body.proofs.runs.front.access_front.Goals as goal

pub returns-clause-some : goal.returns-clause-some
returns-clause-some c =
    let rest = c.in_ok-rest.ensures in
    let low : c.in_ok-align.align.now < 128 = c.if-align-ge128.false in (
      record { align = c.from.result; offset = c.in_ok-rest.field-0-0 },
      rw (c.in_ok-align.ensures.cases.0, rest.0, c.from.ensures, unsigned_bytes-low c.in_ok-align.align.now low) refl,
      (omega (arith, c.from.ensures, low), rest.1),
      c.note_access.ensures,
    )
