use Rattle.std.proofs.Common.{List, ℕ, inl, inr}
use Rattle.std.proofs.lemmas.Bool.{ne_eqb}
use Rattle.wc_tokens.specs.Standard.Strings.{plain, byte}
use Rattle.wc_tokens.proofs.simple.simple_value.Goals as goal

pub returns-then-byte-eq92 : goal.returns-then-byte-eq92
returns-then-byte-eq92 c = λ h (rest : List ℕ). elim h [
  | inl p ↦ absurd (p.3 c.if-byte-eq92.true)
  | inr e ↦
      rw (c.if-byte-eq92.true, c.digit_value.ensures.digit e.1, c.digit_value-then-byte-eq92.ensures.digit e.2)
      (byte c.args.next c.args.last e.1 e.2)
]

pub returns-else-byte-eq92 : goal.returns-else-byte-eq92
returns-else-byte-eq92 c = λ h (rest : List ℕ). elim h [
  | inl p ↦ rw (ne_eqb c.args.byte 92 c.if-byte-eq92.false) (plain c.args.byte p)
  | inr e ↦ absurd (c.if-byte-eq92.false e.0)
]
