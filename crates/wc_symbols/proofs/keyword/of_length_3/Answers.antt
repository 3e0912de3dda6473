-- Each arm's word is its keyword.
use Rattle.std.proofs.Common.{refl}
use Rattle.wc_symbols.proofs.Spelling.KeywordLemmas.{is_keyword, is_f32, is_f64}
use Rattle.wc_symbols.proofs.keyword.of_length_3.Goals as goal

pub returns-in-end : goal.returns-in-end
returns-in-end c = is_keyword _ _ _ refl c.in-end.is

pub returns-in-mut : goal.returns-in-mut
returns-in-mut c = is_keyword _ _ _ refl c.in-mut.is

pub returns-in-f32 : goal.returns-in-f32
returns-in-f32 c = is_f32 _ c.in-f32.is

pub returns-in-f64 : goal.returns-in-f64
returns-in-f64 c = is_f64 _ c.in-f64.is
