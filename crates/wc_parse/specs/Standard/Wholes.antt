-- What a whole text says, and why it says nothing (Core 1.0, 6.2 to 6.6).
use Rattle.std.specs.Prelude.{◌≡◌, ◌⊎◌, ℕ, List}
use Rattle.wc_tokens.specs.Standard.Lexemes.{Lexeme, Lexes}
use Rattle.wc_tokens.specs.Standard.Faults.{FirstFault as FirstLexFault}
use Rattle.wc_syntax.specs.declared.why.SynWhy.{SynWhy}
use Rattle.wc_surface.specs.declared.field.Field.{Field}
use Rattle.wc_parse.specs.declared.refusal.TextRefusal.{TextRefusal}
use Rattle.wc_parse.specs.declared.refusal.TextRefusal.TheVariants.{Lex, Syntax, Memory}
use Rattle.wc_parse.specs.Standard.Meaning.{Syn}
use Rattle.wc_parse.specs.Standard.Faults.{FirstFault}

-- the text has tokens (6.3), which say these fields (6.4 to 6.6)
pub record SaysText (text : List ℕ) (fields : List Field) : Type 0 where
  pub tokens : List Lexeme
  pub lexes : Lexes text tokens
  pub says : Syn tokens fields

-- the text has tokens, and this is the first fault of its grammar
pub record IsUngrammatical (text : List ℕ) (token : ℕ) (why : SynWhy) : Type 0 where
  pub tokens : List Lexeme
  pub lexes : Lexes text tokens
  pub first : FirstFault tokens token why

-- the first fault of the text: of its characters, else of its grammar
abbrev pub FirstRefusal : List ℕ → TextRefusal → Type 0
FirstRefusal text (Lex stop) = FirstLexFault text stop.at stop.why
FirstRefusal text (Syntax token why) = IsUngrammatical text token why
FirstRefusal text Memory = ⊥

-- it is the first fault of the text, or memory was refused
abbrev pub IsRefused : List ℕ → TextRefusal → Type 0
IsRefused text refusal = (refusal ≡ Memory) ⊎ FirstRefusal text refusal
