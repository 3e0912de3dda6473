use Rattle.std.proofs.Common.{ap, ◌∙◌}
use Rattle.wc_body.specs.Standard.Entries.{drafted}
use Rattle.wc_body.specs.Reading.Unpacked.{unpacked}
use Rattle.wc_body.proofs.Drafts.BuilderLemmas.{started-none, drafted-none}
use Rattle.wc_body.proofs.builder.BodyBuilder.in_memory.Goals as goal

pub invariant_of-result : goal.invariant_of-result
invariant_of-result c = rw (c.requires, c.new.ensures.items, c.nothing.ensures) started-none

pub returns : goal.returns
returns c = ap (λ x. drafted (unpacked x)) c.requires ∙ drafted-none
