use Rattle.wc_resolve_func.proofs.Sizes.{all-fit}
use Rattle.wc_resolve_func.proofs.law.functions_fit.Goals as goal

pub returns : goal.returns
returns c = all-fit
