-- What is read at the front of a text.
use Rattle.std.specs.Prelude.{◌≡◌, ◌≢◌, ℕ, nat_lt, ◌==◌, Bool, ◌||◌, false, List, [], ◌∷◌, ◌++◌, Option, Some, None}
use Rattle.std.specs.List.{AllByRecursion}
use Rattle.wc_tokens.specs.declared.heads.Front.{Front}
use Rattle.wc_tokens.specs.declared.heads.Head.{Head}
use Rattle.wc_tokens.specs.declared.heads.Head.TheVariants as heads
use Rattle.wc_tokens.specs.Standard.Gaps.{is_blank, EndsLine, Gap, Gaps}
use Rattle.wc_tokens.specs.Standard.Lexemes.{IsIdchar, BeginsNoIdchar, IsToken}
use Rattle.wc_tokens.specs.Standard.Strings.{Elements}
use Rattle.wc_tokens.specs.Standard.Faults.{Stuck}

-- a byte that is no blank, with what follows it
pub record IsFront (front : Front) : Type 0 where
  pub here_is : front.here.now ≡ front.first ∷ front.rest.now
  pub not_blank : is_blank front.first ≡ false

-- such a byte stands behind gaps, or the end of the text
abbrev pub IsFrontOrEnd : List ℕ → Option Front → Type 0
IsFrontOrEnd text None = Gaps text []
IsFrontOrEnd text (Some front) = Gaps text front.here.now × IsFront front

-- the text begins with the characters of a line, and the rest is at its end
pub record LineEnds (text rest : List ℕ) : Type 0 where
  pub line : List ℕ
  pub text_is : text ≡ line ++ rest
  pub no_feed : AllByRecursion (λ c. c ≢ 10) line
  pub ended : EndsLine rest

-- the byte isn't one from `-` to `z`, or it is `;`, `[` or `]`: each other one is an idchar
abbrev pub is_rare : ℕ → Bool
is_rare c = nat_lt c 45 || nat_lt 122 c || (c == 59) || (c == 91) || (c == 93)

-- the text begins with a run of idchars that the rest doesn't go on with
pub record RunEnds (text rest : List ℕ) : Type 0 where
  pub run : List ℕ
  pub text_is : text ≡ run ++ rest
  pub idchars : AllByRecursion IsIdchar run
  pub ended : BeginsNoIdchar rest

-- a gap, a token or a fault stands at the front of the text
abbrev pub IsHead : List ℕ → Head → Type 0
IsHead text (heads.Gap rest) = Gap text rest.now
IsHead text (heads.Token kind rest) = (part : List ℕ) × (text ≡ part ++ rest.now) × IsToken kind part rest.now
IsHead text (heads.Stuck rest why) = Stuck text rest.now why

-- The text begins with a string in which nothing is escaped: plain bytes between two quotes.
pub record BeginsPlain (text rest : List ℕ) : Type 0 where
  pub body : List ℕ
  pub text_is : text ≡ (34 ∷ (body ++ 34 ∷ [])) ++ rest
  pub elements : Elements body body
