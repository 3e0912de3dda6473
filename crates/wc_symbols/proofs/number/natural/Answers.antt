use Rattle.std.proofs.Common.{arith}
use Rattle.wc_tokens.specs.Standard.Numbers.{decimal}
use Rattle.wc_symbols.proofs.Spelling.NumberLemmas.{natural-32}
use Rattle.wc_symbols.proofs.number.natural.Goals as goal

pub returns-in-Some : goal.returns-in-Some
returns-in-Some c =
    natural-32 _ c.from.result _ (rw (c.from.ensures, ← c.as_bytes.ensures.value) (decimal c.in-Some.ensures.0))
    (omega (arith, c.in-Some.ensures.1)) c.valued.ensures
