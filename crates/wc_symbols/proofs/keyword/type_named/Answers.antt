-- Each arm's word is its type's name.
use Rattle.wc_symbols.proofs.Spelling.KeywordLemmas.{is_i32, is_i64}
use Rattle.wc_symbols.proofs.keyword.type_named.Goals as goal

pub returns-in-i32 : goal.returns-in-i32
returns-in-i32 c = is_i32 _ c.in-i32.is

pub returns-in-i64 : goal.returns-in-i64
returns-in-i64 c = is_i64 _ c.in-i64.is
