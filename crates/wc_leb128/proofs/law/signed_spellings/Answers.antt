use Rattle.std.proofs.Common.{ℤ}
use Rattle.wc_leb128.specs.Standard.Integers.{S}
use Rattle.wc_leb128.proofs.Laws.Exact.{one_of_three}
use Rattle.wc_leb128.proofs.Laws.SignedLaws.{unambiguous, spelled-holds, unfinished-unspelled, begins-decided}
use Rattle.wc_leb128.proofs.law.signed_spellings.Goals as goal

pub returns-clause-unambiguous : goal.returns-clause-unambiguous
returns-clause-unambiguous c = unambiguous

pub returns-clause-in_range : goal.returns-clause-in_range
returns-clause-in_range c = spelled-holds

pub returns-clause-unfinished : goal.returns-clause-unfinished
returns-clause-unfinished c = unfinished-unspelled

pub returns-clause-one_of_three : goal.returns-clause-one_of_three
returns-clause-one_of_three c = λ N a. one_of_three ℤ (S N) a (begins-decided N a)
