use Rattle.std.proofs.Common.{◌≡◌, ℕ, ◌+◌, ◌<◌, IsTrue, length}
use Rattle.wc_tokens.specs.Reading.Simple.{IsLinkedAt, AreNoted}
use Rattle.wc_tokens.proofs.simple.note_chunk.Given as goal

abbrev pub invariant-loop-k : goal.invariant-loop-k
invariant-loop-k l = record {
  linked : IsTrue l.all → (k : ℕ) → k < l.k → IsLinkedAt l.text (l.from + k);
  values : length l.values ≡ 256;
  starts : length l.starts ≡ 258;
  noted : AreNoted l.text l.values l.starts (l.from + l.k);
}
