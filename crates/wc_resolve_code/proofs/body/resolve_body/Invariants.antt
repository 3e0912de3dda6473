use Rattle.std.proofs.Common.{drop}
use Rattle.wc_surface.specs.Standard.Marks.{marks}
use Rattle.wc_resolve_code.proofs.Walking.{Inside}
use Rattle.wc_resolve_code.proofs.body.resolve_body.Given as goal

abbrev pub invariant-loop-entry : goal.invariant-loop-entry
invariant-loop-entry l =
    Inside l.around l.body l.initial.noted.first l.labels l.noted.first l.builder
    (marks (drop l.entry-index l.entries))
