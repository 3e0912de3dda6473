use Rattle.std.proofs.Common.{◌≡◌, drop}
use Rattle.wc_check.specs.Judging.Names.{hash_chunks}
use Rattle.wc_check.proofs.names.hash_words.Given as goal

abbrev pub invariant-loop-word : goal.invariant-loop-word
invariant-loop-word l = hash_chunks l.hash (drop l.word-index l.words) ≡ hash_chunks l.initial.hash l.words
