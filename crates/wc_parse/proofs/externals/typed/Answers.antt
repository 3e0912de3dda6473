use Rattle.wc_parse.proofs.externals.typed.Goals as goal

pub returns : goal.returns
returns c = record {
  typed = c.begins.new.ahead;
  named = c.index.new.ahead;
  used = c.closes.new.ahead;
  closed = c.closes-2.new.ahead;
  ty = c.in_ok-begins.ensures;
  token = c.in_ok-ty.ensures.token;
  target = c.in_ok-ty.ensures.seen;
  first = c.in_ok-closes.ensures;
  second = c.in_ok-closes-2.ensures;
  third = c.in_ok-closes-3.ensures;
}
