-- The rules on tables and memories, and on imports.
use Rattle.std.specs.Prelude.{ℕ, Bool, false, ◌||◌, nat_lt, nat_le, List, [], ◌++◌}
use Rattle.std.specs.Option.{option_map_or}
use Rattle.wc_ast.specs.declared.import.Desc.{Desc}
use Rattle.wc_ast.specs.declared.import.Desc.TheVariants.{Func, Table, Memory, Global}
use Rattle.wc_ast.specs.declared.limits.Limits.{Limits}
use Rattle.wc_check.specs.declared.fault.Item.{Item}
use Rattle.wc_check.specs.declared.fault.Item.TheVariants as items
use Rattle.wc_check.specs.declared.fault.CheckWhy.{CheckWhy}
use Rattle.wc_check.specs.declared.fault.CheckWhy.TheVariants as whys
use Rattle.wc_check.specs.Standard.Rules.{rule, at}

-- the least size is above the greatest (Core 1.0, 3.2.1)
abbrev pub has_min_above_max : Limits → Bool
has_min_above_max limits = option_map_or (λ greatest. nat_lt greatest limits.min) limits.max false

-- how many pages a memory may have (3.2.4)
abbrev pub page_limit : ℕ
page_limit = 65536

-- one of the sizes is above the number
abbrev pub has_size_above : ℕ → Limits → Bool
has_size_above limit limits = nat_lt limit limits.min || option_map_or
    (λ greatest. nat_lt limit greatest) limits.max false

-- of the table of this index (3.2.3, 3.4.10)
abbrev pub table_rules : ℕ → Limits → List CheckWhy
table_rules index limits = rule whys.Limits (has_min_above_max limits) ++ rule whys.Several (nat_lt 0 index)

-- of the memory of this index (3.2.4, 3.4.10)
abbrev pub mem_rules : ℕ → Limits → List CheckWhy
mem_rules index limits =
    rule whys.Limits (has_min_above_max limits || has_size_above page_limit limits)
    ++ rule whys.Several (nat_lt 0 index)

-- what a table of a module breaks, by its index
abbrev pub broken_table : ℕ → Limits → List (Item × CheckWhy)
broken_table index limits = at (items.Table index) (table_rules index limits)

-- what a memory breaks, by its index
abbrev pub broken_mem : ℕ → Limits → List (Item × CheckWhy)
broken_mem index limits = at (items.Memory index) (mem_rules index limits)

-- of what is imported, where there are so many types, and before it so many tables and memories are imported (3.4.9)
abbrev pub import_rules : ℕ → ℕ → ℕ → Desc → List CheckWhy
import_rules types tables mems (Func t) = rule whys.TypeIndex (nat_le types t)
import_rules types tables mems (Table limits) = table_rules tables limits
import_rules types tables mems (Memory limits) = mem_rules mems limits
import_rules types tables mems (Global t) = []
