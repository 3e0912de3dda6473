-- What is known around a body, as it is kept.
use Rattle.std.specs.Prelude.{◌≡◌}
use Rattle.wc_spaces.specs.Kept.Spaces.{IsSpace}
use Rattle.wc_resolve_code.specs.declared.around.Around.{Around}
use Rattle.wc_resolve_code.specs.Standard.Contexts.{Context}

-- this is known
pub record Knows (c : Context) (around : Around) : Type 0 where
  pub funcs : IsSpace c.funcs around.funcs.now
  pub globals : IsSpace c.globals around.globals.now
  pub locals : IsSpace c.locals around.locals.now
  pub uses : c.uses ≡ around.uses.now
