use Rattle.wc_print.proofs.types.put_group.Goals as goal

pub returns : goal.returns
returns g c = c.put_sixteens-left.ensures.finish _ c.put_few.ensures
