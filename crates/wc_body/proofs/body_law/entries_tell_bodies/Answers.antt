use Rattle.std.proofs.Common.{ap}
use Rattle.wc_body.specs.Standard.Nested.{flatten}
use Rattle.wc_body.proofs.Drafts.DraftLaws.{flatten_injective}
use Rattle.wc_body.proofs.Packing.EntryLemmas.{marks-injective}
use Rattle.wc_body.proofs.body_law.entries_tell_bodies.Goals as goal

pub returns-clause-code : goal.returns-clause-code
returns-clause-code c a b = (flatten_injective a b, λ e. ap flatten e)

pub returns-clause-entries : goal.returns-clause-entries
returns-clause-entries c = marks-injective
