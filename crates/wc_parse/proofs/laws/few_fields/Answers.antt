use Rattle.wc_parse.proofs.Saying.Answering.{few-fields}
use Rattle.wc_parse.proofs.laws.few_fields.Goals as goal

pub returns : goal.returns
returns c = few-fields
