use Rattle.std.proofs.Common.{ap, arith, rules, length}
use Rattle.wc_print.proofs.Writing.Going.{leaves-less, leaves-same, leaves-then, on-page}
use Rattle.wc_print.proofs.pages.put_all_numbered.Goals as goal

pub lines-smaller : goal.lines-smaller
lines-smaller g c = omega (arith, ap length c.in-Some.ensures.some.first, c.put_all_brief-at.ensures.fewer)

pub lines-preserved : goal.lines-preserved
lines-preserved g c =
    let says = c.in-Some.ensures.some in
    record {
      room = c.turn-at.ensures.room;
      page = search rules;
      puts =
          leaves-same c.turn-at.ensures.same
          (leaves-less (on-page _ (c.write_numbered-end.ensures.put says.instr says.said))
          (rw says.first at (leaves-then c.put_all_brief-at.ensures.puts c.lines.invariant.puts)));
      fewer = omega (arith, ap length says.first, c.lines.invariant.fewer, c.put_all_brief-at.ensures.fewer);
    }
