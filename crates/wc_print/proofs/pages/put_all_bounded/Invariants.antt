use Rattle.std.proofs.Common.{◌≡◌, ◌+◌, ◌≤◌, length, take}
use Rattle.wc_print.specs.Standard.Going.{Behind}
use Rattle.wc_print.specs.Writing.Places.{LeavesLines}
use Rattle.wc_print.proofs.pages.put_all_bounded.Given as goal

abbrev pub invariant-lines : goal.invariant-lines
invariant-lines g l = record {
  room : l.at + 80 ≤ 4096;
  page : length l.page ≡ 4096;
  puts : LeavesLines (Behind g.S.Sink.Has) l.entries l.fn.entries (l.out, take l.at l.page)
      (l.fn.out, take l.fn.from l.fn.page);
  fewer : length l.entries ≤ length l.fn.entries;
}

abbrev pub decreases-lines : goal.decreases-lines
decreases-lines g l = length l.entries
