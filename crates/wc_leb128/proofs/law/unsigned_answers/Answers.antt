use Rattle.std.proofs.Common.{ℕ}
use Rattle.wc_leb128.specs.Standard.Integers.{U}
use Rattle.wc_leb128.proofs.Laws.Exact.{exact}
use Rattle.wc_leb128.proofs.Laws.UnsignedLaws.{apart}
use Rattle.wc_leb128.proofs.law.unsigned_answers.Goals as goal

pub returns : goal.returns
returns c = λ N. exact ℕ (U N) (apart N)
