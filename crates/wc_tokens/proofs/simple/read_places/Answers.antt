use Rattle.wc_tokens.specs.Standard.Strings.{none}
use Rattle.wc_tokens.proofs.simple.read_places.Goals as goal

pub returns-then-places-lt2-clause-elements : goal.returns-then-places-lt2-clause-elements
returns-then-places-lt2-clause-elements c = none
