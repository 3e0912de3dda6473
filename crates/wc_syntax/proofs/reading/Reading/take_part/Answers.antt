use Rattle.std.proofs.Common.{refl}
use Rattle.wc_syntax.proofs.Tabled.Usual.{part-by}
use Rattle.wc_syntax.proofs.reading.Reading.take_part.Goals as goal

pub returns-clause-read : goal.returns-clause-read
returns-clause-read c limit at ks es r e =
    part-by limit at ks es _ _ _ c.args.kind c.place_step.result c.in-Some.action c.in-On.place c.self.view_is
    c.place_step.ensures c.in-Some.is c.in-On.is refl r e
