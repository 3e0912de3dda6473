use Rattle.wc_parse.proofs.Saying.Usual.{word-token}
use Rattle.wc_parse.proofs.words.take_word.Goals as goal

pub take_name-requires-clause-symbol : goal.take_name-requires-clause-symbol
take_name-requires-clause-symbol c =
    word-token _ _ _ _ c.requires.kind c.symbol_of_name-symbol.ensures c.in-Some.ensures

pub take_number-requires-clause-symbol : goal.take_number-requires-clause-symbol
take_number-requires-clause-symbol c =
    word-token _ _ _ _ c.requires.kind c.symbol_of_number-symbol.ensures c.in-Some-usual_number.ensures
