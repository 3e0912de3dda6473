use Rattle.wc_readback.proofs.FieldLemmas.Syntax.{folds-of, syntax-of}
use Rattle.wc_readback.proofs.fields.printed_says.Goals as goal

pub returns-clause-given : goal.returns-clause-given
returns-clause-given c = folds-of

pub returns-clause-says : goal.returns-clause-says
returns-clause-says c = syntax-of
