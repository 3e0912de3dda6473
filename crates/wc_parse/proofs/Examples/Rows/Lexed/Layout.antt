-- What stands between tokens in texts of several lines.
use Rattle.std.proofs.Common.{ℕ, List, [], ◌∷◌, refl, codes, arith}
use Rattle.wc_tokens.specs.Standard.Gaps.{Inside, Gap, Gaps}
use Rattle.wc_parse.proofs.Examples.Rows.Lexed.Tokens.{Space}

-- a new line
abbrev pub below : Space
below = record { text = 10 ∷ []; gaps = λ rest. Gaps.more (Gap.blank 10 refl) Gaps.none }

-- two blanks
pub two_blanks : {text rest : List ℕ} → Gaps text rest → Gaps (32 ∷ 32 ∷ text) rest
two_blanks g = Gaps.more (Gap.blank 32 refl) (Gaps.more (Gap.blank 32 refl) g)

-- a new line that begins with two blanks, and with four
abbrev pub indented : Space
indented = record {
  text = 10 ∷ 32 ∷ 32 ∷ [];
  gaps = λ rest. Gaps.more (Gap.blank 10 refl) (two_blanks Gaps.none);
}

abbrev pub deeper : Space
deeper = record {
  text = 10 ∷ 32 ∷ 32 ∷ 32 ∷ 32 ∷ [];
  gaps = λ rest. Gaps.more (Gap.blank 10 refl) (two_blanks (two_blanks Gaps.none));
}

-- ` (;0;) `
abbrev pub commented : Space
commented = record {
  text = codes " (;0;) ";
  gaps = λ rest. Gaps.more (Gap.blank 32 refl)
      (Gaps.more (Gap.block (Inside.other 48 (omega arith) (omega arith) Inside.nothing))
      (Gaps.more (Gap.blank 32 refl) Gaps.none));
}
