-- How many functions, tables, memories and globals are declared before a field (Core 1.0, 6.6.1): the next one has that
-- number for its index.
use Rattle.std.specs.Prelude.{ℕ, ◌+◌, List, [], ◌∷◌, ◌++◌, length}
use Rattle.wc_surface.specs.declared.field.Field.{Field}
use Rattle.wc_declare.specs.declared.kind.SpaceKind.TheVariants as kind
use Rattle.wc_declare.specs.Standard.Spaces.{declares}
use Rattle.wc_resolve.specs.declared.counts.Counts.{Counts}

-- before the first field
abbrev pub no_counts : Counts
no_counts = record { funcs = 0; tables = 0; memories = 0; globals = 0 }

-- behind a field
abbrev pub counts_after : Counts → Field → Counts
counts_after c f = record {
  funcs = c.funcs + length (declares kind.Func f);
  tables = c.tables + length (declares kind.Table f);
  memories = c.memories + length (declares kind.Memory f);
  globals = c.globals + length (declares kind.Global f);
}

-- what each field gives, in their order, where so many are declared before the first of them
abbrev pub along : {X : Type 0} → (Counts → Field → List X) → Counts → List Field → List X
along g c [] = []
along g c (f ∷ fs) = g c f ++ along g (counts_after c f) fs
