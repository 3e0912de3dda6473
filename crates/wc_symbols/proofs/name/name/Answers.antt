use Rattle.std.proofs.Common.{inl}
use Rattle.wc_symbols.specs.Standard.Names.{keyword_is}
use Rattle.wc_symbols.proofs.Spelling.NameLemmas.{name-known, name-float, name-none}
use Rattle.wc_symbols.proofs.name.name.Goals as goal

pub returns-in-Some : goal.returns-in-Some
returns-in-Some c = inl (keyword_is c.in-Some.ensures)

pub returns-in-Known : goal.returns-in-Known
returns-in-Known c = name-known _ c.in-Known.op _ c.in-Known.ensures (rw c.op_kind.ensures at c.valued.ensures)

pub returns-in-Float : goal.returns-in-Float
returns-in-Float c = name-float _ _ c.in-Float.ensures c.bare.ensures

pub returns-in-Unknown : goal.returns-in-Unknown
returns-in-Unknown c = name-none _ _ (rw c.in_default.is at c.keyword.ensures) c.in-Unknown.ensures
    c.bare-in-Unknown.ensures
