-- Type uses where they are kept.
use Rattle.std.specs.Prelude.{ℕ, List, Option}
use Rattle.wc_ast.specs.declared.func_type.FuncType.{FuncType}
use Rattle.wc_surface.specs.declared.id.Index.{Index}
use Rattle.wc_surface.specs.declared.type_use.User.{User}
use Rattle.wc_surface.specs.declared.type_use.ParamName.{ParamName}
use Rattle.wc_surface.specs.declared.type_use.TypeUse.{TypeUse}

-- the type use of these parts
abbrev pub use_with : User → ℕ → Option Index → FuncType → List ParamName → TypeUse
use_with user token index signature names = record
    { user = user; token = token; index = index; signature = signature; names = names }
