-- How instructions of a text keep their entries.
use Rattle.std.specs.Prelude.{List, [], ◌∷◌}
use Rattle.wc_surface.specs.declared.code.TextEntry.{TextEntry}
use Rattle.wc_surface.specs.declared.code.Entries.{Entries}
use Rattle.wc_surface.specs.declared.code.Entries.TheVariants.{One, Many}

-- the entries, one in place or more in a row
abbrev pub entries_in : Entries → List TextEntry
entries_in (One entry) = entry ∷ []
entries_in (Many row) = row.items
