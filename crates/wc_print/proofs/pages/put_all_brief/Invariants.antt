use Rattle.std.proofs.Common.{◌≡◌, ◌+◌, ◌≤◌, length, take}
use Rattle.wc_print.specs.Standard.Going.{Behind}
use Rattle.wc_print.specs.Writing.Places.{LeavesLines}
use Rattle.wc_print.proofs.pages.put_all_brief.Given as goal

abbrev pub invariant-loop-brief : goal.invariant-loop-brief
invariant-loop-brief g l = record {
  room : l.at + 80 ≤ 4096;
  page : length l.page ≡ 4096;
  puts : LeavesLines (Behind g.S.Sink.Has) l.entries l.initial.entries (l.out, take l.at l.page)
      (l.initial.out, take l.from l.initial.page);
  fewer : length l.entries ≤ length l.initial.entries;
}

abbrev pub decreases-loop-brief : goal.decreases-loop-brief
decreases-loop-brief g l = length l.entries
