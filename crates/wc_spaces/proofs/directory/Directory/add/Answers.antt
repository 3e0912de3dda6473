use Rattle.wc_spaces.proofs.Settling.{IsSettled, settled, still-apart}
use Rattle.wc_spaces.proofs.directory.Directory.add.Goals as goal

abbrev is_settled : (c : goal.In_ok-settle-in-Some-None)
    → IsSettled c.args.self.now c.settle.new.self c.args.text c.args.place c.number_of-number.result
is_settled c = record {
  numbered = c.number_of-number.ensures;
  free = rw c.in-Some-None.field-0-is at c.in-Some-None.ensures;
  slots = c.in_ok-settle-in-Some-None.ensures.slots;
  firsts = c.in_ok-settle-in-Some-None.ensures.firsts;
  others = c.in_ok-settle-in-Some-None.ensures.others;
}

pub returns-in_ok-settle-in-Some-None-clause-ok : goal.returns-in_ok-settle-in-Some-None-clause-ok
returns-in_ok-settle-in-Some-None-clause-ok c = settled _ _ _ _ _ (is_settled c)

pub returns-in_ok-settle-in-Some-None-clause-apart : goal.returns-in_ok-settle-in-Some-None-clause-apart
returns-in_ok-settle-in-Some-None-clause-apart c = still-apart _ _ _ _ _ (is_settled c)
