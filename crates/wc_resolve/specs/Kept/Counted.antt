-- Counts stay small.
use Rattle.std.specs.Prelude.{ℕ, ◌≤◌}
use Rattle.wc_resolve.specs.declared.counts.Counts.{Counts}

-- no more than this of each
pub record AtMost (most : ℕ) (c : Counts) : Type 0 where
  pub funcs : c.funcs ≤ most
  pub tables : c.tables ≤ most
  pub memories : c.memories ≤ most
  pub globals : c.globals ≤ most
