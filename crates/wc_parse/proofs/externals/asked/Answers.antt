use Rattle.wc_parse.proofs.externals.asked.Goals as goal

pub returns : goal.returns
returns c = record {
  told = c.begins.new.ahead;
  from = c.name.new.ahead;
  asked = c.name-2.new.ahead;
  import = c.in-Some.ensures;
  first = rw c.in-Some-2.is at c.in_ok-module.ensures;
  second = rw c.in-Some-3.is at c.in_ok-item.ensures;
  function = c.in-Some-begins.ensures;
}
