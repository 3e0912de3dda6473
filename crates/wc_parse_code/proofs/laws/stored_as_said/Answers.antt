use Rattle.std.proofs.Common.{◌≤◌, refl, subst, arith}
use Rattle.wc_body.specs.Standard.Nested.{nesting}
use Rattle.wc_surface.specs.Standard.Written.Instructions.{Instrs}
use Rattle.wc_parse_code.specs.Standard.Productions.Instructions.{instrs, foldedinstr}
use Rattle.wc_parse_code.proofs.OneValue.Same.{one_value}
use Rattle.wc_parse_code.proofs.SomeValue.Instructions.{instrs-say, folded-say}
use Rattle.wc_parse_code.proofs.Storing.Whole.{body-stored}
use Rattle.wc_parse_code.proofs.Storing.Ordered.Derived.{derived-follow}
use Rattle.wc_parse_code.proofs.laws.stored_as_said.Goals as goal

pub returns-clause-instrs : goal.returns-clause-instrs
returns-clause-instrs c = λ depth n kinds es us x room small d k s.
    let some = instrs-say depth n kinds es us d k in
    let deep = subst (λ (y : Instrs). nesting y ≤ depth) (one_value some.1 s) some.2 in
    body-stored _ instrs us x s (derived-follow n kinds us d refl k) small (omega (arith, room, deep))

pub returns-clause-folded : goal.returns-clause-folded
returns-clause-folded c = λ depth n kinds es us x room small d k s.
    let some = folded-say depth n kinds es us d k in
    let deep = subst (λ (y : Instrs). nesting y ≤ depth) (one_value some.1 s) some.2 in
    body-stored _ foldedinstr us x s (derived-follow n kinds us d refl k) small (omega (arith, room, deep))
