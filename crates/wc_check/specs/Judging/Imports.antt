-- What is counted of the imports.
use Rattle.std.specs.Prelude.{◌≡◌, List, length}
use Rattle.wc_ast.specs.declared.import.Import.{Import}
use Rattle.wc_check.specs.declared.context.Imported.{Imported}
use Rattle.wc_check.specs.Standard.Spaces.{imported_funcs, imported_tables, imported_mems, imported_globals}

-- so much is imported into each index space
pub record IsImported (imports : List Import) (found : Imported) : Type 0 where
  pub funcs : found.funcs ≡ length (imported_funcs imports)
  pub tables : found.tables ≡ length (imported_tables imports)
  pub mems : found.mems ≡ length (imported_mems imports)
  pub globals : found.globals.items ≡ imported_globals imports
