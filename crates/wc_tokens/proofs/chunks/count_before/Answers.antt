use Rattle.std.proofs.Common.{inl, inr, arith}
use Rattle.std.proofs.lemmas.Bool.{cases_lt}
use Rattle.wc_tokens.proofs.Lexing.MaskLaws.{first-within, before-first, at-first, none-set}
use Rattle.wc_tokens.proofs.chunks.count_before.Goals as goal

pub returns-then-ends-ne0-clause-within : goal.returns-then-ends-ne0-clause-within
returns-then-ends-ne0-clause-within g c =
    let few = first-within g.E.Ending.ends c.args.text.now c.loop-at.at (omega arith) c.in_chunk-ends.ensures
    c.if-ends-ne0.true in
    omega (arith, few, c.loop-at.invariant.0, c.loop-at-test.true)

pub returns-then-ends-ne0-clause-none : goal.returns-then-ends-ne0-clause-none
returns-then-ends-ne0-clause-none g c k to = elim (cases_lt k c.loop-at.at) [
  | inl before ↦ c.loop-at.invariant.1 k before
  | inr here ↦ before-first g.E.Ending.ends c.args.text.now c.loop-at.at (omega arith)
      c.in_chunk-ends.ensures c.if-ends-ne0.true k here to
]

pub returns-then-ends-ne0-clause-ended : goal.returns-then-ends-ne0-clause-ended
returns-then-ends-ne0-clause-ended g c _ =
    at-first g.E.Ending.ends c.args.text.now c.loop-at.at (omega arith) c.in_chunk-ends.ensures c.if-ends-ne0.true

pub loop-at-preserved : goal.loop-at-preserved
loop-at-preserved g c = (
  omega (arith, c.loop-at.invariant.0, c.loop-at-test.true),
  λ k to. elim (cases_lt k c.loop-at.at) [
    | inl before ↦ c.loop-at.invariant.1 k before
    | inr here ↦ none-set g.E.Ending.ends c.args.text.now c.loop-at.at (omega arith)
        c.in_chunk-ends.ensures c.if-ends-ne0.false k here to
  ],
)
