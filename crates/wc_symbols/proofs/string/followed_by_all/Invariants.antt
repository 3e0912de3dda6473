use Rattle.std.proofs.Common.{ℕ, List, ◌++◌, take}
use Rattle.wc_symbols.specs.Reading.Utf8.{Tracks}
use Rattle.wc_symbols.proofs.string.followed_by_all.Given as goal

-- the bytes so far were read too
abbrev pub invariant-loop-byte : goal.invariant-loop-byte
invariant-loop-byte l = (read : List ℕ) → Tracks l.fn.tail read → Tracks l.after (read ++ take l.byte-index l.bytes)
