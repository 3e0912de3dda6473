use Rattle.wc_spaces.proofs.Least.{least-none, least-all, least-append}
use Rattle.wc_spaces.proofs.law.least_is_least.Goals as goal

pub returns-clause-none : goal.returns-clause-none
returns-clause-none g c = least-none

pub returns-clause-least : goal.returns-clause-least
returns-clause-least g c = least-all

pub returns-clause-parts : goal.returns-clause-parts
returns-clause-parts g c = least-append
