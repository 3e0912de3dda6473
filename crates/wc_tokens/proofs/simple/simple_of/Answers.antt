use Rattle.std.proofs.Common.{List, ℕ}
use Rattle.std.proofs.lemmas.Bool.{ne_eqb}
use Rattle.wc_tokens.proofs.Escapes.SimpleLaws.{Element-digits, Element-plain}
use Rattle.wc_tokens.proofs.simple.simple_of.Goals as goal
use Rattle.wc_tokens.proofs.simple.simple_of.Goals.{then-escape, else-escape}

pub returns-clause-element : goal.returns-clause-element
returns-clause-element c = λ (rest : List ℕ). elim c.if-escape.branch [
  | then-escape w ↦
      rw (w.if-escape.true, w.value-is)
      (Element-digits c.args.next c.args.last _ _ c.hexadecimal_digit.ensures.digit c.hexadecimal_digit-2.ensures.digit
      (rw w.value-is at c.if-value-ge256.false))
  | else-escape w ↦
      rw (ne_eqb c.args.first 92 w.if-escape.false, w.value-is)
      (Element-plain c.args.first _ c.plain_byte-itself.ensures (rw w.value-is at c.if-value-ge256.false))
]
