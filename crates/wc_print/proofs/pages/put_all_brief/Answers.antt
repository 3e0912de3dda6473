use Rattle.std.proofs.Common.{ap, arith, rules, length}
use Rattle.wc_print.proofs.Writing.Going.{leaves-less, leaves-same, on-page}
use Rattle.wc_print.proofs.pages.put_all_brief.Goals as goal

pub loop-brief-preserved : goal.loop-brief-preserved
loop-brief-preserved g c =
    let says = c.in-Some.ensures.some in
    record {
      room = c.turn-at.ensures.room;
      page = search rules;
      puts =
          leaves-same c.turn-at.ensures.same
          (leaves-less (on-page c.loop-brief.out (c.write_brief-end.ensures.put says.entry says.said))
          (rw says.first at c.loop-brief.invariant.puts));
      fewer = omega (arith, ap length says.first, c.loop-brief.invariant.fewer);
    }
