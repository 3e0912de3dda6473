use Rattle.std.proofs.Common.{◌≡◌, ◌+◌, ◌≤◌, length, take}
use Rattle.wc_body.specs.Standard.Nested.{flatten}
use Rattle.wc_print.specs.Standard.Going.{Behind}
use Rattle.wc_print.specs.Writing.Places.{LeavesLines}
use Rattle.wc_print.proofs.pages.put_lines.Given as goal

abbrev pub invariant-lines : goal.invariant-lines
invariant-lines g l = record {
  room : l.at + 80 ≤ 4096;
  page : length l.page ≡ 4096;
  puts : LeavesLines (Behind g.S.Sink.Has) l.entries (flatten l.body) (l.out, take l.at l.page)
      (l.fn.out, take l.fn.from l.fn.page);
}

abbrev pub decreases-lines : goal.decreases-lines
decreases-lines g l = length l.entries
