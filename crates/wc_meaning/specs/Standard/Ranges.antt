-- Tables and memories that are no imports (Core 1.0, 6.6.6 and 6.6.7). Where elements or bytes stand inside, the size
-- is theirs.
use Rattle.std.specs.Prelude.{ℕ, ◌+◌, ◌/◌, List, [], ◌∷◌, length, Some}
use Rattle.wc_ast.specs.declared.limits.Limits.{Limits}
use Rattle.wc_surface.specs.Standard.Written.Fields.{Table, Memory, Field, table_field, memory_field}

-- this size and no other
abbrev pub exactly : ℕ → Limits
exactly n = record { min = n; max = Some n }

-- the pages of 65,536 bytes that so many bytes need (4.2.8)
abbrev pub pages : ℕ → ℕ
pages n = (n + 65535) / 65536

-- the table that a field defines (6.6.6)
abbrev pub field_tables : Field → List Limits
field_tables (table_field d (Table.limits l)) = l ∷ []
field_tables (table_field d (Table.elements xs)) = exactly (length xs) ∷ []
field_tables _ = []

-- the memory that a field defines (6.6.7)
abbrev pub field_memories : Field → List Limits
field_memories (memory_field d (Memory.limits l)) = l ∷ []
field_memories (memory_field d (Memory.bytes bytes)) = exactly (pages (length bytes)) ∷ []
field_memories _ = []
