use Rattle.std.proofs.Common.{ap}
use Rattle.wc_surface.specs.Standard.Marks.{drafted}
use Rattle.wc_surface.proofs.DraftLemmas.{started-none}
use Rattle.wc_surface.proofs.code_builder.CodeBuilder.new.Goals as goal

pub invariant_of-result : goal.invariant_of-result
invariant_of-result c = rw (c.new.ensures.items, c.new-2.ensures.items) started-none

pub returns : goal.returns
returns c = ap (λ x. drafted x) c.new.ensures.items
