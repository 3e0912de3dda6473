-- Each arm's word is its keyword.
use Rattle.std.proofs.Common.{refl}
use Rattle.wc_symbols.proofs.Spelling.KeywordLemmas.{is_keyword}
use Rattle.wc_symbols.proofs.keyword.of_length_6.Goals as goal

pub returns-in-module : goal.returns-in-module
returns-in-module c = is_keyword _ _ _ refl c.in-module.is

pub returns-in-import : goal.returns-in-import
returns-in-import c = is_keyword _ _ _ refl c.in-import.is

pub returns-in-memory : goal.returns-in-memory
returns-in-memory c = is_keyword _ _ _ refl c.in-memory.is

pub returns-in-global : goal.returns-in-global
returns-in-global c = is_keyword _ _ _ refl c.in-global.is

pub returns-in-export : goal.returns-in-export
returns-in-export c = is_keyword _ _ _ refl c.in-export.is

pub returns-in-offset : goal.returns-in-offset
returns-in-offset c = is_keyword _ _ _ refl c.in-offset.is

pub returns-in-result : goal.returns-in-result
returns-in-result c = is_keyword _ _ _ refl c.in-result.is
