-- Each arm's word is its keyword.
use Rattle.std.proofs.Common.{refl}
use Rattle.wc_symbols.proofs.Spelling.KeywordLemmas.{is_keyword}
use Rattle.wc_symbols.proofs.keyword.of_length_4.Goals as goal

pub returns-in-then : goal.returns-in-then
returns-in-then c = is_keyword _ _ _ refl c.in-then.is

pub returns-in-else : goal.returns-in-else
returns-in-else c = is_keyword _ _ _ refl c.in-else.is

pub returns-in-type : goal.returns-in-type
returns-in-type c = is_keyword _ _ _ refl c.in-type.is

pub returns-in-func : goal.returns-in-func
returns-in-func c = is_keyword _ _ _ refl c.in-func.is

pub returns-in-elem : goal.returns-in-elem
returns-in-elem c = is_keyword _ _ _ refl c.in-elem.is

pub returns-in-data : goal.returns-in-data
returns-in-data c = is_keyword _ _ _ refl c.in-data.is
