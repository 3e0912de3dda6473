use Rattle.wc_symbols.proofs.Spelling.NumberLemmas.{short-plus, tail-is}
use Rattle.wc_symbols.proofs.number.plus.Goals as goal

pub returns-in-Some : goal.returns-in-Some
returns-in-Some c =
    short-plus c.args.word.now _ c.in-Some.number _ c.requires (tail-is _ _ c.as_bytes.ensures.value)
    c.in-Some.ensures.0 c.in-Some.ensures.1
    (rw c.from.ensures at c.valued.ensures)
