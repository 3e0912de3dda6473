-- The tokens of a text, read one after another.
use Rattle.std.specs.Prelude.{◌≡◌, ℕ, ◌-◌, List, [], ◌++◌, drop, length, Option, Some, None, Result, Ok, Err}
use Rattle.wc_tokens.specs.declared.fault.Stop.{Stop}
use Rattle.wc_tokens.specs.declared.token.Token.{Token}
use Rattle.wc_tokens.specs.declared.token.TokenKind.{TokenKind}
use Rattle.wc_tokens.specs.declared.token.TokenKind.TheVariants.{Open, Close, Str, Word}
use Rattle.wc_tokens.specs.Standard.Gaps.{Gaps}
use Rattle.wc_tokens.specs.Standard.Strings.{IsString}
use Rattle.wc_tokens.specs.Standard.Lexemes.{IsToken, Lexeme, Lexed, spanned}
use Rattle.wc_tokens.specs.Standard.Faults.{Stops}
use Rattle.wc_tokens.specs.Standard.Tokens.{lexeme_of}

-- what is left to read of a text of a size
pub record Unread : Type 0 where
  pub size : ℕ
  pub rest : List ℕ

-- a text of which nothing was read
abbrev pub unread : List ℕ → Unread
unread text = record { size = length text; rest = text }

-- what is left where as much is left as of the other; all, where no more is
abbrev pub followed : Unread → Unread → Unread
followed u ahead = record u { rest = drop (length u.rest - length ahead.rest) u.rest }

-- `Gives old t new`: behind gaps comes the token t, and then what is left
pub record Gives (old : Unread) (t : Lexeme) (new : Unread) : Type 0 where
  pub kind : TokenKind
  pub text : List ℕ
  pub gaps : Gaps old.rest (text ++ new.rest)
  pub token : IsToken kind text new.rest
  pub spans : t ≡ spanned old.size kind text new.rest
  pub same_text : new.size ≡ old.size

-- `GivesPlain old part new`: the same of a string in which nothing is escaped, and what stands between its quotes
pub record GivesPlain (old : Unread) (part : List ℕ) (new : Unread) : Type 0 where
  pub lexeme : Lexeme
  pub gives : Gives old lexeme new
  pub kind : lexeme.kind ≡ Str
  pub string : IsString lexeme.text part

-- `GivesOpened old word new`: behind gaps comes an opening parenthesis, then this word, and then what is left
pub record GivesOpened (old : Unread) (word : List ℕ) (new : Unread) : Type 0 where
  pub inside : Unread
  pub parenthesis : Lexeme
  pub name : Lexeme
  pub opens : Gives old parenthesis inside
  pub open_is : parenthesis.kind ≡ Open
  pub names : Gives inside name new
  pub name_is : name.kind ≡ Word
  pub text_is : name.text ≡ word

-- `GivesClosed old new`: behind gaps comes a closing parenthesis, and then what is left
pub record GivesClosed (old new : Unread) : Type 0 where
  pub lexeme : Lexeme
  pub gives : Gives old lexeme new
  pub kind : lexeme.kind ≡ Close

-- The next token is read, or none is left, or a fault stands there. In these two cases as much is left as before.
abbrev pub IsRead : Unread → Unread → Result (Option Token) Stop → Type 0
IsRead old new (Ok (Some t)) = Gives old (lexeme_of t) new
IsRead old new (Ok None) = Gaps old.rest [] × (new ≡ old)
IsRead old new (Err stop) = Stops old.size old.rest stop.at stop.why × (new ≡ old)

-- all that is left are gaps and tokens, or the first fault is this
abbrev pub IsJudged : Unread → Result (Unit {0}) Stop → Type 0
IsJudged u (Ok _) = (ts : List Lexeme) × Lexed u.size u.rest ts
IsJudged u (Err stop) = Stops u.size u.rest stop.at stop.why
