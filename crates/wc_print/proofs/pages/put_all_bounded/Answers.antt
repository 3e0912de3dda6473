use Rattle.std.proofs.Common.{ap, arith, rules, length}
use Rattle.wc_print.proofs.Writing.Going.{leaves-less, leaves-same, leaves-then, on-page}
use Rattle.wc_print.proofs.pages.put_all_bounded.Goals as goal

pub lines-smaller : goal.lines-smaller
lines-smaller g c = omega (arith, ap length c.in-Some.ensures.some, c.put_all_numbered-at.ensures.fewer)

pub lines-preserved : goal.lines-preserved
lines-preserved g c = record {
  room = c.turn-at.ensures.room;
  page = search rules;
  puts =
      leaves-same c.turn-at.ensures.same
      (leaves-less (on-page _ c.write_bounded-end.ensures.put)
      (rw c.in-Some.ensures.some at (leaves-then c.put_all_numbered-at.ensures.puts c.lines.invariant.puts)));
  fewer = omega (
    arith,
    ap length c.in-Some.ensures.some,
    c.lines.invariant.fewer,
    c.put_all_numbered-at.ensures.fewer,
  );
}
