use Rattle.std.proofs.Common.{refl, arith}
use Rattle.wc_declare.proofs.Growing.{few-types}
use Rattle.wc_resolve.proofs.Staging.{references-told}
use Rattle.wc_resolve.proofs.resolving.denoted.Goals as goal

pub gather-requires-clause-few : goal.gather-requires-clause-few
gather-requires-clause-few c = omega (arith, few-types c.args.fields.now, c.requires.surface.sized)

pub returns-clause-noted : goal.returns-clause-noted
returns-clause-noted c =
    references-told c.args.fields.now _ _ _ _ _ _ _ refl refl refl refl c.in_ok-lists.ensures.noted
    c.in_ok-funcs.ensures.noted
