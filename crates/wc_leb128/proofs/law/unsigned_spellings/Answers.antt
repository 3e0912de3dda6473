use Rattle.std.proofs.Common.{ℕ}
use Rattle.wc_leb128.specs.Standard.Integers.{U}
use Rattle.wc_leb128.proofs.Laws.Exact.{one_of_three}
use Rattle.wc_leb128.proofs.Laws.UnsignedLaws.{unambiguous, spelled-below, unfinished-unspelled, begins-decided}
use Rattle.wc_leb128.proofs.law.unsigned_spellings.Goals as goal

pub returns-clause-unambiguous : goal.returns-clause-unambiguous
returns-clause-unambiguous c = unambiguous

pub returns-clause-in_range : goal.returns-clause-in_range
returns-clause-in_range c = spelled-below

pub returns-clause-unfinished : goal.returns-clause-unfinished
returns-clause-unfinished c = unfinished-unspelled

pub returns-clause-one_of_three : goal.returns-clause-one_of_three
returns-clause-one_of_three c = λ N a. one_of_three ℕ (U N) a (begins-decided N a)
