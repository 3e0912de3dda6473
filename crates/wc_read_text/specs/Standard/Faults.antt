-- The first fault of a text that denotes no module: of its characters, else of its grammar, else of its names.
use Rattle.std.specs.Prelude.{◌≡◌, ◌⊎◌, ℕ, List, [], ◌∷◌, length, drop}
use Rattle.wc_tokens.specs.Standard.Lexemes.{Lexeme, Lexes}
use Rattle.wc_tokens.specs.Standard.Faults.{FirstFault as FirstLexFault}
use Rattle.wc_syntax.specs.declared.why.SynWhy.{SynWhy}
use Rattle.wc_surface.specs.Standard.Written.Fields.{Field}
use Rattle.wc_parse.specs.Standard.Productions.{SaysFields}
use Rattle.wc_parse.specs.Standard.Faults.{FirstFault as FirstSyntaxFault}
use Rattle.wc_resolve_code.specs.declared.why.NameWhy.{NameWhy}
use Rattle.wc_meaning.specs.Standard.Denoted.{FirstFault as FirstNameFault}
use Rattle.wc_read_text.specs.declared.fault.TextFault.{TextFault}
use Rattle.wc_read_text.specs.declared.fault.TextFault.TheVariants.{Lex, Syntax, Names, Memory}

-- where the first of these tokens begins, or a text of this size ends
abbrev pub start_or : ℕ → List Lexeme → ℕ
start_or size [] = size
start_or size (t ∷ ts) = t.start

-- the byte at which the token of this number begins, or the text's length, where no token is left
abbrev pub byte_of : List ℕ → List Lexeme → ℕ → ℕ
byte_of text tokens token = start_or (length text) (drop token tokens)

-- the text has tokens (6.3), and this is the first fault of their grammar (6.4 to 6.6)
pub record IsSyntaxFault (text : List ℕ) (token at : ℕ) (why : SynWhy) : Type 0 where
  pub tokens : List Lexeme
  pub lexes : Lexes text tokens
  pub first : FirstSyntaxFault tokens token why
  pub place : at ≡ byte_of text tokens token

-- the text has tokens, which say fields, and this is the first fault of their names (6.6.13)
pub record IsNameFault (text : List ℕ) (token at : ℕ) (why : NameWhy) : Type 0 where
  pub tokens : List Lexeme
  pub fields : List Field
  pub lexes : Lexes text tokens
  pub says : SaysFields tokens fields
  pub first : FirstNameFault fields token why
  pub place : at ≡ byte_of text tokens token

-- the first fault of the text
abbrev pub FirstFault : List ℕ → TextFault → Type 0
FirstFault text (Lex at why) = FirstLexFault text at why
FirstFault text (Syntax token at why) = IsSyntaxFault text token at why
FirstFault text (Names token at why) = IsNameFault text token at why
FirstFault text Memory = ⊥

-- it is the first fault of the text, or memory was refused
abbrev pub IsFault : List ℕ → TextFault → Type 0
IsFault text fault = (fault ≡ Memory) ⊎ FirstFault text fault
