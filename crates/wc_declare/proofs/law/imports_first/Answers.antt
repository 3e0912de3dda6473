use Rattle.wc_declare.proofs.ImportsFirst.{imports-first}
use Rattle.wc_declare.proofs.law.imports_first.Goals as goal

pub returns : goal.returns
returns c = imports-first
