use Rattle.std.proofs.Common.{ℤ}
use Rattle.wc_leb128.specs.Standard.Integers.{S}
use Rattle.wc_leb128.proofs.Laws.Exact.{exact}
use Rattle.wc_leb128.proofs.Laws.SignedLaws.{apart}
use Rattle.wc_leb128.proofs.law.signed_answers.Goals as goal

pub returns : goal.returns
returns c = λ N. exact ℤ (S N) (apart N)
