-- What comes next in a text.
use Rattle.std.specs.Prelude.{◌≡◌, List, [], ◌++◌, ℕ}
use Rattle.wc_tokens.specs.declared.next.Next.{Next}
use Rattle.wc_tokens.specs.declared.next.Next.TheVariants as nexts
use Rattle.wc_tokens.specs.Standard.Gaps.{Gaps}
use Rattle.wc_tokens.specs.Standard.Lexemes.{IsToken}
use Rattle.wc_tokens.specs.Standard.Faults.{Stuck}

-- behind gaps stands a token, the end of the text or a fault
abbrev pub IsNext : List ℕ → Next → Type 0
IsNext text (nexts.Token kind here rest) =
    Gaps text here.now × ((part : List ℕ) × (here.now ≡ part ++ rest.now) × IsToken kind part rest.now)
IsNext text nexts.End = Gaps text []
IsNext text (nexts.Stuck at why) = (here : List ℕ) × Gaps text here × Stuck here at.now why
