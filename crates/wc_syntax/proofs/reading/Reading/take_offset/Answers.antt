use Rattle.std.proofs.Common.{sym, ◌∙◌, Some, refl}
use Rattle.wc_syntax.specs.declared.role.Role.TheVariants as role
use Rattle.wc_syntax.specs.declared.place.Place.TheVariants as place
use Rattle.wc_syntax.specs.declared.place.Move.TheVariants.{On}
use Rattle.wc_syntax.proofs.Tabled.Usual.{usual-by, offset-at}
use Rattle.wc_syntax.proofs.reading.Reading.take_offset.Goals as goal

pub returns-then-is_offset-clause-read : goal.returns-then-is_offset-clause-read
returns-then-is_offset-clause-read c h limit at ks es r e =
    usual-by limit at ks es _ _ _ c.args.kind (Some role.MemOffset) (On place.MemAlign) c.self.view_is
    (offset-at _ c.args.kind (sym c.is_offset.ensures ∙ c.if-is_offset.true)) refl r e
