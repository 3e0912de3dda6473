use Rattle.std.proofs.Common.{arith}
use Rattle.wc_surface.specs.Kept.Building.{part_in}
use Rattle.wc_body.proofs.Drafts.BuildingLemmas.{depth-is}
use Rattle.wc_surface.proofs.code_builder.CodeBuilder.depth.Goals as goal

pub returns-clause-count : goal.returns-clause-count
returns-clause-count c = rw (← c.self.view_is) (omega (
  arith,
  c.self.inside.parts.ok.0,
  depth-is part_in _ _ c.self.invariant.building,
))

pub returns-clause-within : goal.returns-clause-within
returns-clause-within c = omega (
  arith,
  c.self.inside.parts.ok.0,
  depth-is part_in _ _ c.self.invariant.building,
  c.self.invariant.building.depth,
)

pub returns-clause-reach : goal.returns-clause-reach
returns-clause-reach c = rw (← c.self.view_is) c.self.invariant.building.within
