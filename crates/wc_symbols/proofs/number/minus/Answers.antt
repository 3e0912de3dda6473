use Rattle.std.proofs.Common.{arith}
use Rattle.wc_symbols.proofs.Spelling.NumberLemmas.{short-minus, tail-is, wrapped}
use Rattle.wc_symbols.proofs.number.minus.Goals as goal

pub returns-in-Some : goal.returns-in-Some
returns-in-Some c =
    short-minus c.args.word.now _ c.in-Some.number c.wrapping_neg.result _ c.requires
    (tail-is _ _ c.as_bytes.ensures.value)
    c.in-Some.ensures.0
    c.in-Some.ensures.1 (wrapped _ _ (omega arith) c.in-Some.ensures.1 (rw c.from.ensures at c.wrapping_neg.ensures))
    c.valued.ensures
