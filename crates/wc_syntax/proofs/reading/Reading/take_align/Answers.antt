use Rattle.std.proofs.Common.{sym, ◌∙◌, Some, refl}
use Rattle.wc_syntax.specs.declared.role.Role.TheVariants as role
use Rattle.wc_syntax.specs.declared.place.Place.TheVariants as place
use Rattle.wc_syntax.specs.declared.place.Move.TheVariants.{On}
use Rattle.wc_syntax.proofs.Tabled.Usual.{usual-by, align-at}
use Rattle.wc_syntax.proofs.reading.Reading.take_align.Goals as goal

pub returns-then-is_align-clause-read : goal.returns-then-is_align-clause-read
returns-then-is_align-clause-read c h limit at ks es r e =
    usual-by limit at ks es _ _ _ c.args.kind (Some role.MemAlign) (On place.Done) c.self.view_is
    (align-at _ c.args.kind (sym c.is_align.ensures ∙ c.if-is_align.true)) refl r e
