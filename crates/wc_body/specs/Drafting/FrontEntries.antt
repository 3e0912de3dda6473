-- Entries that were added all at once, by the bytes that they are spelled by (Core 1.0, 5.4).
use Rattle.std.specs.Prelude.{◌≡◌, ◌<◌, ◌≤◌, ℕ, true, List, [], ◌∷◌, length, take}
use Rattle.std.specs.List.{AllByRecursion}
use Rattle.wc_body.specs.declared.instr.BlockType.{BlockType}
use Rattle.wc_body.specs.declared.instr.Instr.{Instr}
use Rattle.wc_body.specs.declared.entry.Entry.{Entry}
use Rattle.wc_body.specs.Standard.Nested.{nesting_limit}
use Rattle.wc_body.specs.Standard.Draft.{Draft, step, steps, may_come, begins}
use Rattle.wc_body.specs.Standard.Entries.{mark, marks}
use Rattle.wc_body.specs.Writing.EntryBytes.{FitsEntry}
use Rattle.wc_body.specs.Reading.Unpacked.{packed}

-- each of the entries may come next, and opens none beyond the limit
abbrev pub AllStand : Draft Instr BlockType → List Entry → Type 0
AllStand d [] = Unit {0}
AllStand d (e ∷ es) =
    (begins (mark e) ≡ true → length d.around < nesting_limit) × (may_come d (mark e) ≡ true)
    × AllStand (step d (mark e)) es

-- so many of these bytes are the canonical ones of entries, each of which stands behind the draft and was added to it
abbrev pub AddsFront : Draft Instr BlockType → Draft Instr BlockType → List ℕ → ℕ → Type 0
AddsFront d after x n =
    (n ≤ length x) × ((es : List Entry) × (take n x ≡ packed es) × AllByRecursion FitsEntry es × AllStand d es
    × (after ≡ steps d (marks es)))
