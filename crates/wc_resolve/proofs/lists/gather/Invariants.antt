use Rattle.std.proofs.Common.{drop}
use Rattle.wc_resolve.specs.Kept.Counted.{AtMost}
use Rattle.wc_resolve.proofs.Walking.{Listing, Telling}
use Rattle.wc_resolve.proofs.lists.gather.Given as goal

abbrev pub invariant-loop-field : goal.invariant-loop-field
invariant-loop-field l = record {
  few : AtMost l.field-index l.counts;
  listing : Listing l.fields l.counts (drop l.field-index l.fields) l.lists;
  telling : Telling l.fields (drop l.field-index l.fields) l.notes;
}
