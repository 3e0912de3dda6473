use Rattle.std.proofs.Common.{◌≡◌, ◌+◌, ◌++◌, ◌≤◌, length}
use Rattle.wc_check.specs.Standard.Spaces.{imported_funcs, imported_tables, imported_mems, imported_globals}
use Rattle.wc_check.proofs.context.count_imports.Given as goal

abbrev pub invariant-loop-import : goal.invariant-loop-import
invariant-loop-import l = record {
  few_funcs : l.funcs + length l.import-iterator ≤ length l.imports;
  few_tables : l.tables + length l.import-iterator ≤ length l.imports;
  few_mems : l.mems + length l.import-iterator ≤ length l.imports;
  funcs : l.funcs + length (imported_funcs l.import-iterator) ≡ length (imported_funcs l.imports);
  tables : l.tables + length (imported_tables l.import-iterator) ≡ length (imported_tables l.imports);
  mems : l.mems + length (imported_mems l.import-iterator) ≡ length (imported_mems l.imports);
  globals : l.globals.items ++ imported_globals l.import-iterator ≡ imported_globals l.imports;
}
