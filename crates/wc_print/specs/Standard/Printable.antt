-- Which items may be printed: those that are read back as they are.
use Rattle.std.specs.Prelude.{◌≡◌, ℕ, ◌<◌, ◌^◌, nat_lt, ◌==◌, Bool, true, false, not, ◌&&◌, List, [], ◌∷◌, ◌++◌}
use Rattle.std.specs.List.{AllByRecursion, list_all}
use lib.Signed.{mag}
use Rattle.wc_tokens.specs.Standard.Lexemes.{is_idchar}
use Rattle.wc_print.specs.Standard.Printed.{Printed, opening, closing, word, number, integer, part, quoted, Item, next}
use Rattle.wc_print.specs.Standard.Printed.{after, below, token_of, printed}

-- the number is a byte
abbrev pub IsByte : ℕ → Type 0
IsByte b = b < 256

-- an ASCII character of words (Core 1.0, 6.3.5)
abbrev pub is_letter : ℕ → Bool
is_letter c = is_idchar c && nat_lt c 128

-- a run of them that doesn't begin with a dollar sign, as an identifier does
abbrev pub is_word : List ℕ → Bool
is_word [] = false
is_word (c ∷ w) = not (c == 36) && list_all is_letter (c ∷ w)

-- words are runs, numbers have at most 64 bits, and a string stands for bytes
abbrev pub IsSpelled : Printed → Type 0
IsSpelled opening = Unit {0}
IsSpelled closing = Unit {0}
IsSpelled (word w) = is_word w ≡ true
IsSpelled (number n) = n < 2 ^ 64
IsSpelled (integer z) = mag z < 2 ^ 63
IsSpelled (part w n) = (is_word w ≡ true) × (n < 2 ^ 64)
IsSpelled (quoted bytes) = AllByRecursion IsByte bytes

-- the same of the token of each item
abbrev pub AreSpelled : List Item → Type 0
AreSpelled [] = Unit {0}
AreSpelled (i ∷ is) = IsSpelled (token_of i) × AreSpelled is

-- the token is a run of characters of words
abbrev pub is_run : Printed → Bool
is_run opening = false
is_run closing = false
is_run (word w) = true
is_run (number n) = true
is_run (integer z) = true
is_run (part w n) = true
is_run (quoted bytes) = false

-- the item may stand behind a run, or behind another token
abbrev pub IsApart : Bool → Item → Type 0
IsApart behind_run (next p) = (behind_run && is_run p) ≡ false
IsApart behind_run (after p) = Unit {0}
IsApart behind_run (below n p) = Unit {0}

-- no run stands directly behind a run
abbrev pub AreApart : Bool → List Item → Type 0
AreApart behind_run [] = Unit {0}
AreApart behind_run (i ∷ is) = IsApart behind_run i × AreApart (is_run (token_of i)) is

-- the tokens can be told from one another, and each is spelled
pub record IsPrintable (items : List Item) : Type 0 where
  pub spelled : AreSpelled items
  pub apart : AreApart false items

-- ---- how text is written

-- the items were printed behind the old bytes, and each is spelled
pub record Put (items : List Item) (old new : List ℕ) : Type 0 where
  pub spelled : AreSpelled items
  pub bytes : new ≡ old ++ printed items
