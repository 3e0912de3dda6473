use Rattle.std.proofs.Common.{ℕ, ◌+◌, ◌<◌, IsTrue}
use Rattle.wc_tokens.specs.Reading.Simple.{IsLinkedAt}
use Rattle.wc_tokens.proofs.simple.is_linked_chunk.Given as goal

abbrev pub invariant-loop-k : goal.invariant-loop-k
invariant-loop-k l = IsTrue l.all → (k : ℕ) → k < l.k → IsLinkedAt l.text (l.from + k)
