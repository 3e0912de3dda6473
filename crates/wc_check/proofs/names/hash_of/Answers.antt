use Rattle.std.proofs.Common.{rules}
use Rattle.wc_check.specs.Judging.Names.{hash_of_name}
use Rattle.wc_check.proofs.names.hash_of.Goals as goal

pub returns-then-count-lt8 : goal.returns-then-count-lt8
unfolding hash_of_name
returns-then-count-lt8 c = search rules

pub returns : goal.returns
unfolding hash_of_name
returns c = search rules
