use Rattle.std.proofs.Common.{ℕ, ◌<◌, ◌^◌, List, Option, Some, None, IfSome, arith}
use Rattle.wc_tokens.specs.Standard.Digits.{Digits}
use Rattle.wc_tokens.specs.Standard.Numbers.{decimal}
use Rattle.wc_syntax.specs.declared.kind.Kind.TheVariants as kind
use Rattle.wc_symbols.specs.declared.symbol.Value.TheVariants.{Number}
use Rattle.wc_symbols.specs.Standard.Numbers.{below_32}
use Rattle.wc_symbols.specs.Standard.Symbols.{valued}
use Rattle.wc_symbols.specs.Standard.Words.{WordIs, known, natural}
use Rattle.wc_symbols.proofs.usual.usual_number.Goals as goal

says : (text : List ℕ) (found : Option ℕ) → IfSome found (λ n. Digits 10 text n × (n < 10 ^ 9))
    → IfSome found (λ n. WordIs text (valued kind.Natural32 (Number n)))
says text None h = tt
says text (Some n) h = known (natural (below_32 (decimal h.0) (omega (arith, h.1))))

pub returns : goal.returns
returns c = says _ _ (rw c.as_bytes.ensures.value at c.short_decimal.ensures)
