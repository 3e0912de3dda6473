-- Tables and memories (Core 1.0, 6.6.6 and 6.6.7). Where elements or bytes stand inside, the size is theirs.
use Rattle.std.specs.Prelude.{ℕ, ◌+◌, ◌/◌, List, [], ◌∷◌, length, Some}
use Rattle.std.specs.List.{flat_map}
use Rattle.wc_ast.specs.declared.limits.Limits.{Limits}
use Rattle.wc_surface.specs.declared.field.Field.{Field}
use Rattle.wc_surface.specs.declared.field.Field.TheVariants as field
use Rattle.wc_surface.specs.declared.field.TableDesc.{TableDesc}
use Rattle.wc_surface.specs.declared.field.TableDesc.TheVariants as table
use Rattle.wc_surface.specs.declared.field.MemoryDesc.{MemoryDesc}
use Rattle.wc_surface.specs.declared.field.MemoryDesc.TheVariants as memory

-- this size and no other
abbrev pub exactly : ℕ → Limits
exactly n = record { min = n; max = Some n }

-- the pages of 65,536 bytes that so many bytes need (4.2.8)
abbrev pub pages : ℕ → ℕ
pages n = (n + 65535) / 65536

-- the limits of a table that is no import
abbrev pub table_limits : TableDesc → List Limits
table_limits (table.Import names limits) = []
table_limits (table.Limits limits) = limits ∷ []
table_limits (table.Elems funcs) = exactly (length funcs) ∷ []

-- the same of a memory
abbrev pub memory_limits : MemoryDesc → List Limits
memory_limits (memory.Import names limits) = []
memory_limits (memory.Limits limits) = limits ∷ []
memory_limits (memory.Bytes bytes) = exactly (pages (length bytes)) ∷ []

-- the table that a field defines
abbrev pub field_tables : Field → List Limits
field_tables (field.Table f) = table_limits f.desc
field_tables _ = []

-- the memory that a field defines
abbrev pub field_memories : Field → List Limits
field_memories (field.Memory f) = memory_limits f.desc
field_memories _ = []

-- the tables that the fields define
abbrev pub tables_of : List Field → List Limits
tables_of all = flat_map field_tables all

-- the memories that the fields define
abbrev pub memories_of : List Field → List Limits
memories_of all = flat_map field_memories all
