use Rattle.wc_cli.proofs.telling.find.Goals as goal

pub returns-in-Hash-clause-finds : goal.returns-in-Hash-clause-finds
returns-in-Hash-clause-finds g c = rw (c.in-Hash.is, c.in-Some.is) (c.hash.ensures.finds c.args.named)
