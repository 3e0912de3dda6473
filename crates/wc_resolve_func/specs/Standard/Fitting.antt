-- How many parameters and locals a function of a text may have (Core 1.0, 6.6.5; the limit of locals is our own).
use Rattle.std.specs.Prelude.{◌+◌, ◌<◌, ◌≤◌, ◌^◌, List, length}
use Rattle.std.specs.List.{All}
use Rattle.wc_ast.specs.Standard.LocalGroups.{locals_limit}
use Rattle.wc_surface.specs.declared.local.Local.{Local}
use Rattle.wc_surface.specs.declared.field.Field.{Field}
use Rattle.wc_declare.specs.Standard.Inner.{locals_of}
use Rattle.wc_resolve_func.specs.Standard.Locals.{param_counts}

-- so many parameters and these locals have places below 2^32, and the locals are within their limit
pub record FuncFits (fs : List Field) (locals : List Local) : Type 0 where
  pub room : All (λ n. n + length locals < 2 ^ 32) (param_counts fs)
  pub within : length locals ≤ locals_limit

-- the same of the function that a field gives
abbrev pub FieldFits : List Field → Field → Type 0
FieldFits fs f = FuncFits fs (locals_of f)
