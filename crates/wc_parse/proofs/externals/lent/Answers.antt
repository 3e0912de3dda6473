use Rattle.wc_parse.proofs.externals.lent.Goals as goal

pub returns : goal.returns
returns c =
    let begins = (c.in_ok-kind.ensures {u = tt}).begins in
    record {
      inside = begins.inside;
      told = c.begins_loan.new.ahead;
      named = c.index.new.ahead;
      closed = c.closes.new.ahead;
      opens = begins.opens;
      word = begins.word;
      lendable = (c.in_ok-kind.ensures {u = tt}).lendable;
      token = (c.in_ok-target.ensures {u = tt}).token;
      target = (c.in_ok-target.ensures {u = tt}).seen;
      first = c.in_ok-closes.ensures;
      second = c.in_ok-closes-2.ensures;
    }
