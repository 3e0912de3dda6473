-- Each arm's word is its keyword.
use Rattle.std.proofs.Common.{refl}
use Rattle.wc_symbols.proofs.Spelling.KeywordLemmas.{is_keyword}
use Rattle.wc_symbols.proofs.keyword.of_length_7.Goals as goal

pub returns-in-funcref : goal.returns-in-funcref
returns-in-funcref c = is_keyword _ _ _ refl c.in-funcref.is
