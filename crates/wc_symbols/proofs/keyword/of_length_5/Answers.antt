-- Each arm's word is its keyword.
use Rattle.std.proofs.Common.{refl}
use Rattle.wc_symbols.proofs.Spelling.KeywordLemmas.{is_keyword}
use Rattle.wc_symbols.proofs.keyword.of_length_5.Goals as goal

pub returns-in-table : goal.returns-in-table
returns-in-table c = is_keyword _ _ _ refl c.in-table.is

pub returns-in-start : goal.returns-in-start
returns-in-start c = is_keyword _ _ _ refl c.in-start.is

pub returns-in-local : goal.returns-in-local
returns-in-local c = is_keyword _ _ _ refl c.in-local.is

pub returns-in-param : goal.returns-in-param
returns-in-param c = is_keyword _ _ _ refl c.in-param.is
