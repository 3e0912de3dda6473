use Rattle.std.proofs.Common.{◌≡◌, ◌++◌, ◌≤◌, length}
use Rattle.wc_check.specs.Standard.Rules.{each}
use Rattle.wc_check.specs.Judging.Verdicts.{verdict}
use Rattle.wc_check.specs.Standard.Spaces.{imported_tables, imported_mems}
use Rattle.wc_check.specs.Standard.Broken.{broken_import}
use Rattle.wc_check.proofs.imports.check_imports.Given as goal

abbrev pub invariant-loop-import : goal.invariant-loop-import
invariant-loop-import l = record {
  left : l.yielded ++ l.import-iterator ≡ l.«module».imports;
  place : l.place ≡ length l.yielded;
  few_tables : l.tables ≤ l.place;
  few_mems : l.mems ≤ l.place;
  tables : l.tables ≡ length (imported_tables l.yielded);
  mems : l.mems ≡ length (imported_mems l.yielded);
  rest :
      verdict (each (broken_import l.«module») l.place l.import-iterator)
      ≡ verdict (each (broken_import l.«module») 0 l.«module».imports);
}
