-- The rules on what fills tables and memories.
use Rattle.std.specs.Prelude.{not, ◌||◌, nat_le, List, ◌++◌}
use Rattle.std.specs.List.{list_any}
use Rattle.wc_ast.specs.declared.segment.Elem.{Elem}
use Rattle.wc_ast.specs.declared.segment.Data.{Data}
use Rattle.wc_ops.specs.declared.val_type.ValType.TheVariants.{I32}
use Rattle.wc_check.specs.declared.context.Context.{Context}
use Rattle.wc_check.specs.declared.fault.CheckWhy.{CheckWhy}
use Rattle.wc_check.specs.declared.fault.CheckWhy.TheVariants as whys
use Rattle.wc_check.specs.Standard.Rules.{rule}
use Rattle.wc_check.specs.Standard.ConstantRules.{is_constant}

-- of an element segment (Core 1.0, 3.4.5)
abbrev pub elem_rules : Context → Elem → List CheckWhy
elem_rules c e =
    rule whys.Constant (not (is_constant c.globals I32 e.offset))
    ++ rule whys.Index (nat_le c.tables e.table || list_any (λ f. nat_le c.funcs f) e.funcs)

-- of a data segment (3.4.6)
abbrev pub data_rules : Context → Data → List CheckWhy
data_rules c d =
    rule whys.Constant (not (is_constant c.globals I32 d.offset)) ++ rule whys.Index (nat_le c.mems d.memory)
