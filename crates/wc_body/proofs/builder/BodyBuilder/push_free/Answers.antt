use Rattle.wc_body.proofs.builder.BodyBuilder.push_free.Goals as goal

pub returns-in-12-clause-some : goal.returns-in-12-clause-some
returns-in-12-clause-some c = rw (c.in_ok-byte.ensures.cases.0, c.in-12.is) c.push_index.ensures.some

pub returns-in-13-clause-some : goal.returns-in-13-clause-some
returns-in-13-clause-some c = rw (c.in_ok-byte.ensures.cases.0, c.in-13.is) c.push_index-in-13.ensures.some

pub returns-in-16-clause-some : goal.returns-in-16-clause-some
returns-in-16-clause-some c = rw (c.in_ok-byte.ensures.cases.0, c.in-16.is) c.push_index-in-16.ensures.some

pub returns-in-32-clause-some : goal.returns-in-32-clause-some
returns-in-32-clause-some c = rw (c.in_ok-byte.ensures.cases.0, c.in-32.is) c.push_index-in-32.ensures.some

pub returns-in-33-clause-some : goal.returns-in-33-clause-some
returns-in-33-clause-some c = rw (c.in_ok-byte.ensures.cases.0, c.in-33.is) c.push_index-in-33.ensures.some

pub returns-in-34-clause-some : goal.returns-in-34-clause-some
returns-in-34-clause-some c = rw (c.in_ok-byte.ensures.cases.0, c.in-34.is) c.push_index-in-34.ensures.some

pub returns-in-35-clause-some : goal.returns-in-35-clause-some
returns-in-35-clause-some c = rw (c.in_ok-byte.ensures.cases.0, c.in-35.is) c.push_index-in-35.ensures.some

pub returns-in-36-clause-some : goal.returns-in-36-clause-some
returns-in-36-clause-some c = rw (c.in_ok-byte.ensures.cases.0, c.in-36.is) c.push_index-in-36.ensures.some

pub returns-in-65-clause-some : goal.returns-in-65-clause-some
returns-in-65-clause-some c = rw (c.in_ok-byte.ensures.cases.0, c.in-65.is) c.push_i32.ensures.some

pub returns-in-66-clause-some : goal.returns-in-66-clause-some
returns-in-66-clause-some c = rw (c.in_ok-byte.ensures.cases.0, c.in-66.is) c.push_i64.ensures.some
