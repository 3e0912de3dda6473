-- The rules on exports.
use Rattle.std.specs.Prelude.{ℕ, Bool, nat_le, List, ◌++◌, length}
use Rattle.std.specs.List.{list_any}
use Rattle.std.specs.Str.{bytes_eq}
use Rattle.wc_ast.specs.declared.export.Export.{Export}
use Rattle.wc_ast.specs.declared.export.ExportKind.{ExportKind}
use Rattle.wc_ast.specs.declared.export.ExportKind.TheVariants.{Func, Table, Memory, Global}
use Rattle.wc_check.specs.declared.context.Context.{Context}
use Rattle.wc_check.specs.declared.fault.CheckWhy.{CheckWhy}
use Rattle.wc_check.specs.declared.fault.CheckWhy.TheVariants as whys
use Rattle.wc_check.specs.Standard.Rules.{rule}

-- how many there are of what is exported
abbrev pub space_size : Context → ExportKind → ℕ
space_size c Func = c.funcs
space_size c Table = c.tables
space_size c Memory = c.mems
space_size c Global = length c.globals

-- one of the exports has this name
abbrev pub has_name : List ℕ → List Export → Bool
has_name name exports = list_any (λ e. bytes_eq name e.name) exports

-- of an export, where these come before it (Core 1.0, 3.4.8, 3.4.10)
abbrev pub export_rules : Context → List Export → Export → List CheckWhy
export_rules c earlier e =
    rule whys.Index (nat_le (space_size c e.kind) e.index) ++ rule whys.ExportName (has_name e.name earlier)
