use Rattle.std.proofs.Common.{refl}
use Rattle.wc_parse_code.specs.Standard.Productions.TypeUses.{inline}
use Rattle.wc_parse_code.proofs.Storing.Words.{stored-index}
use Rattle.wc_parse_code.proofs.Storing.Uses.{use-stored}
use Rattle.wc_parse_code.proofs.Storing.Ordered.Derived.{derived-follow}
use Rattle.wc_parse_code.proofs.laws.parts_stored_as_said.Goals as goal

pub returns-clause-index : goal.returns-clause-index
returns-clause-index c = λ w x s h. stored-index s h

pub returns-clause-type_use : goal.returns-clause-type_use
returns-clause-type_use c = λ n kinds es us u user token small d k h.
    use-stored 0 _ h (derived-follow n kinds us d refl k) small user token

pub returns-clause-signature : goal.returns-clause-signature
returns-clause-signature c = λ n kinds es us s user token small d k h.
    use-stored 0 _ (inline h) (derived-follow n kinds us d refl k) small user token
