use Rattle.std.proofs.Common.{[], ◌∷◌, refl, rules}
use Rattle.wc_print.specs.Standard.Printed.{closing, below}
use Rattle.wc_print.proofs.Writing.Putting.{text}
use Rattle.wc_print.proofs.Writing.Going.{chain, leaves-less, leaves-none, leaves-then, on-page, then-out}
use Rattle.wc_print.proofs.pages.put_lines.Goals as goal

pub lines-preserved : goal.lines-preserved
lines-preserved g c = record {
  room = search rules;
  page = search rules;
  puts =
      leaves-less c.put_behind.ensures
      (rw c.in-Some.ensures.steps at (leaves-then c.put_all_bounded-at.ensures.puts c.lines.invariant.puts));
}

pub returns : goal.returns
returns g c =
    let end = text (below 2 closing ∷ []) (tt, tt) refl c.write_row-end.ensures.bytes in
    chain
    (leaves-none
    (rw c.in_default.ensures.steps.0 at (leaves-then c.put_all_bounded-at.ensures.puts c.lines.invariant.puts)))
    (then-out (on-page _ end) c.put.ensures)
