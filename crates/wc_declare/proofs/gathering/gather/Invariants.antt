use Rattle.std.proofs.Common.{◌≤◌, drop}
use Rattle.wc_spaces.specs.Kept.Types.{count_of}
use Rattle.wc_declare.specs.Kept.Gathered.{AtMost}
use Rattle.wc_declare.proofs.Walking.{Walking}
use Rattle.wc_declare.proofs.gathering.gather.Given as goal

abbrev pub invariant-loop-field : goal.invariant-loop-field
invariant-loop-field l = record {
  few : AtMost l.field-index l.gathered.spaces;
  count : count_of l.gathered.types ≤ l.field-index;
  walking : Walking l.fields (drop l.field-index l.fields) l.gathered l.notes;
}
