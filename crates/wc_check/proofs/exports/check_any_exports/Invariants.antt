use Rattle.std.proofs.Common.{◌≡◌, ◌++◌, ℕ, List, length}
use Rattle.wc_check.specs.Standard.Rules.{each}
use Rattle.wc_check.specs.Judging.Verdicts.{verdict}
use Rattle.wc_check.specs.Judging.Names.{has_text}
use Rattle.wc_check.specs.Standard.ExportRules.{has_name}
use Rattle.wc_check.specs.Standard.Broken.{broken_export}
use Rattle.wc_check.proofs.exports.check_any_exports.Given as goal

abbrev pub invariant-loop-export : goal.invariant-loop-export
invariant-loop-export l = record {
  left : l.yielded ++ l.export-iterator ≡ l.«module».exports;
  place : l.place ≡ length l.yielded;
  names : (q : List ℕ) → has_text l.names q ≡ has_name q l.yielded;
  rest :
      verdict (each (broken_export l.«module») l.place l.export-iterator)
      ≡ verdict (each (broken_export l.«module») 0 l.«module».exports);
}
