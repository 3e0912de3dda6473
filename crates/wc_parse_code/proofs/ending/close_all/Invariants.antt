use Rattle.std.proofs.Common.{◌≡◌, ◌+◌, length}
use Rattle.wc_parse_code.specs.Drafting.Ending.{all_closed}
use Rattle.wc_parse_code.proofs.ending.close_all.Given as goal

abbrev pub invariant-loop : goal.invariant-loop
invariant-loop l =
    (all_closed l.code.around l.code.last ≡ all_closed l.fn.code.around l.fn.code.last)
    × (length l.code.around + l.counter ≡ l.end)
