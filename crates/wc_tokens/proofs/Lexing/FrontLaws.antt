-- The first byte behind blanks, and gaps in front of it.
use Rattle.std.proofs.Common.{ℕ, suc, ◌≤◌, List, length, Option, Some, None}
use Rattle.std.proofs.Common.{arith}
use Rattle.wc_tokens.specs.declared.heads.Front.{Front}
use Rattle.wc_tokens.specs.Standard.Gaps.{Gaps}
use Rattle.wc_tokens.specs.Reading.Heads.{IsFrontOrEnd}
use Rattle.wc_tokens.proofs.Lexing.RunLaws.{Gaps-shorter}
use Rattle.wc_tokens.proofs.Lexing.SpaceLaws.{Gaps-join}

pub IsFrontOrEnd-push : {text rest : List ℕ} → Gaps text rest → (next : Option Front) → IsFrontOrEnd rest next
    → IsFrontOrEnd text next
IsFrontOrEnd-push g None h = Gaps-join g h
IsFrontOrEnd-push g (Some front) h = (Gaps-join g h.0, h.1)

-- how many bytes are left from the first byte on
abbrev pub left : Option Front → ℕ
left None = 0
left (Some front) = suc (length front.here.now)

pub left-after : (text : List ℕ) (next : Option Front) → IsFrontOrEnd text next → left next ≤ suc (length text)
left-after text None h = omega arith
left-after text (Some front) h = omega (arith, Gaps-shorter h.0)
