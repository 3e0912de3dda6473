-- White space and comments, which stand between tokens (Core 1.0, 6.2.3 and 6.2.4).
use Rattle.std.specs.Prelude.{◌≡◌, ◌≢◌, ℕ, ◌==◌, Bool, true, ◌||◌, List, [], ◌∷◌, ◌++◌}
use Rattle.std.specs.List.{AllByRecursion}

-- a space, a tab, a line feed or a carriage return
abbrev pub is_blank : ℕ → Bool
is_blank c = (c == 32) || (c == 9) || (c == 10) || (c == 13)

-- the text doesn't begin with this byte
abbrev pub BeginsNot : ℕ → List ℕ → Type 0
BeginsNot c [] = Unit {0}
BeginsNot c (d ∷ text) = d ≢ c

-- the text is at its end, or a line feed (10) stands there
abbrev pub EndsLine : List ℕ → Type 0
EndsLine [] = Unit {0}
EndsLine (c ∷ text) = c ≡ 10

-- `Inside text rest`: the text is what may stand inside a block comment, and then the rest. That is any
-- character, but no `;` before a `)` and no `(` before a `;`, and whole block comments.
pub data Inside : List ℕ → List ℕ → Type 0 where
  nothing : {rest : List ℕ} → Inside rest rest
  other : (c : ℕ) {text rest : List ℕ} → c ≢ 59 → c ≢ 40 → Inside text rest → Inside (c ∷ text) rest
  semicolon : {text rest : List ℕ} → BeginsNot 41 text → Inside text rest → Inside (59 ∷ text) rest
  parenthesis : {text rest : List ℕ} → BeginsNot 59 text → Inside text rest → Inside (40 ∷ text) rest
  comment : {inner text rest : List ℕ} → Inside inner (59 ∷ 41 ∷ text) → Inside text rest
      → Inside (40 ∷ 59 ∷ inner) rest

-- `Gap text rest`: the text begins with one blank, one line comment or one block comment, and goes on with the
-- rest. A line comment goes up to a line feed or to the end of the text.
pub data Gap : List ℕ → List ℕ → Type 0 where
  blank : (c : ℕ) {rest : List ℕ} → is_blank c ≡ true → Gap (c ∷ rest) rest
  line : (characters : List ℕ) {rest : List ℕ} → AllByRecursion (λ c. c ≢ 10) characters → EndsLine rest
      → Gap (59 ∷ 59 ∷ (characters ++ rest)) rest
  block : {inside rest : List ℕ} → Inside inside (59 ∷ 41 ∷ rest) → Gap (40 ∷ 59 ∷ inside) rest

-- `Gaps text rest`: the text is gaps, and then the rest
pub data Gaps : List ℕ → List ℕ → Type 0 where
  none : {rest : List ℕ} → Gaps rest rest
  more : {text behind rest : List ℕ} → Gap text behind → Gaps behind rest → Gaps text rest
