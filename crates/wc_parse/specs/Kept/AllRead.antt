-- Texts all of whose tokens were read.
use Rattle.std.specs.Prelude.{ℕ, List}
use Rattle.wc_tokens.specs.Standard.Lexemes.{Lexeme, Lexes}
use Rattle.wc_tokens.specs.Standard.Streams.{Unread}
use Rattle.wc_syntax.specs.Standard.Reading.{Standing}
use Rattle.wc_parse.specs.declared.text_draft.TextDraft.{TextDraft}
use Rattle.wc_parse.specs.declared.fault.SynFault.{SynFault}
use Rattle.wc_parse.specs.declared.refusal.TextRefusal.{TextRefusal}
use Rattle.wc_parse.specs.Standard.Faults.{IsFault}
use Rattle.wc_parse.specs.Standard.Wholes.{IsRefused}
use Rattle.wc_parse.specs.Kept.Refusing.{RefusesBy}
use Rattle.wc_parse.specs.Kept.SaidSoFar.{IsAllSaid}

-- so many are all of the tokens of the text, the reader stands so behind them, and the draft is what they say; what
-- their fields are refused by, the text is
pub record IsAllRead (text : List ℕ) (at : ℕ) (u : Unread) (s : Standing) (d : TextDraft) : Type 0 where
  pub tokens : List Lexeme
  pub lexes : Lexes text tokens
  pub all : IsAllSaid tokens at s d
  pub refused : (f : SynFault) (r : TextRefusal) → IsFault tokens f → RefusesBy u f r → IsRefused text r
