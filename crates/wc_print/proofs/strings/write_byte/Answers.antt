use Rattle.std.proofs.Common.{◌+◌, ◌≤◌, ◌∙◌, ap, ◌++◌, length, take, arith, refl}
use Rattle.wc_print.proofs.Tables.EscapeTable.{escape-told, escape-short, escape-sized, row-written}
use Rattle.wc_print.proofs.strings.write_byte.Goals as goal

pub returns-clause-within : goal.returns-clause-within
returns-clause-within c = omega (arith, escape-short c.args.byte c.ranges.byte.fits)

pub returns-clause-bytes : goal.returns-clause-bytes
returns-clause-bytes c =
    let fits : c.args.at + 4 ≤ length c.args.room.now = omega arith in
    row-written _ _ _ _ _ (escape-sized c.args.byte c.ranges.byte.fits) fits
    (escape-short c.args.byte c.ranges.byte.fits) refl
    ∙ ap (λ x. take c.args.at c.args.room.now ++ x) (escape-told c.args.byte c.ranges.byte.fits)
