-- The first fault of a text that has no tokens.
use Rattle.std.specs.Prelude.{◌≡◌, ◌≢◌, ℕ, ◌≤◌, ◌<◌, false, List, ◌∷◌, ◌++◌, length, IsUtf8}
use Rattle.std.specs.Str.{IsValidUpTo}
use Rattle.wc_tokens.specs.declared.fault.LexFault.{LexFault}
use Rattle.wc_tokens.specs.declared.fault.LexFault.TheVariants.{Bad, Memory}
use Rattle.wc_tokens.specs.declared.fault.LexWhy.{LexWhy}
use Rattle.wc_tokens.specs.declared.fault.LexWhy.TheVariants.{NotUtf8, Character, CommentOpen, StringOpen, Escape}
use Rattle.wc_tokens.specs.declared.fault.LexWhy.TheVariants.{TooLong}
use Rattle.wc_tokens.specs.Standard.Gaps.{is_blank, BeginsNot, Inside, Gap}
use Rattle.wc_tokens.specs.Standard.Strings.{Elements, EndsElements}
use Rattle.wc_tokens.specs.Standard.Lexemes.{is_idchar, IsToken, place, longest}
use Rattle.wc_tokens.specs.declared.token.TokenKind.{TokenKind}

-- neither a gap nor a token begins with this character, in front of this text
pub record BeginsNothing (c : ℕ) (text : List ℕ) : Type 0 where
  pub not_blank : is_blank c ≡ false
  pub not_idchar : is_idchar c ≡ false
  pub no_parenthesis : (c ≢ 40) × (c ≢ 41)
  pub no_quote : c ≢ 34
  pub no_comment : c ≡ 59 → BeginsNot 59 text

-- `Stuck text rest why`: the text is not at its end, but no whole gap or token begins there; the reason shows
-- where the rest begins
pub data Stuck : List ℕ → List ℕ → LexWhy → Type 0 where
  character : (c : ℕ) {text : List ℕ} → BeginsNothing c text → Stuck (c ∷ text) (c ∷ text) Character
  comment_open : {inside : List ℕ} → ((rest : List ℕ) → ¬ (Inside inside (59 ∷ 41 ∷ rest)))
      → Stuck (40 ∷ 59 ∷ inside) (40 ∷ 59 ∷ inside) CommentOpen
  string_open : {body bytes : List ℕ} → Elements body bytes → Stuck (34 ∷ body) (34 ∷ body) StringOpen
  escape : (c : ℕ) {text rest : List ℕ} → EndsElements text (c ∷ rest) → c ≢ 34 → Stuck (34 ∷ text) (c ∷ rest) Escape

-- `Stops size text at why`: gaps and whole tokens lead up to a place from where the text can't go on
pub data Stops : ℕ → List ℕ → ℕ → LexWhy → Type 0 where
  stuck : {size : ℕ} {text rest : List ℕ} {why : LexWhy} → Stuck text rest why → Stops size text (place size rest) why
  gap : {size at : ℕ} {text rest : List ℕ} {why : LexWhy} → Gap text rest → Stops size rest at why
      → Stops size text at why
  token : {size at : ℕ} {kind : TokenKind} {text rest : List ℕ} {why : LexWhy} → IsToken kind text rest
      → Stops size rest at why → Stops size (text ++ rest) at why

-- the first fault: of the length, else of the encoding, else of the tokens
pub data FirstFault : List ℕ → ℕ → LexWhy → Type 0 where
  too_long : {text : List ℕ} → longest < length text → FirstFault text longest TooLong
  not_utf8 : {text : List ℕ} {at : ℕ} → length text ≤ longest → IsValidUpTo text at → FirstFault text at NotUtf8
  lexical : {text : List ℕ} {at : ℕ} {why : LexWhy} → length text ≤ longest → IsUtf8 text
      → Stops (length text) text at why → FirstFault text at why

-- the first fault of a text, or that memory was refused
abbrev pub IsFault : List ℕ → LexFault → Type 0
IsFault text (Bad at why) = FirstFault text at why
IsFault text Memory = Unit {0}
