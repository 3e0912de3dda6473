-- What the first tokens of a text say.
use Rattle.std.specs.Prelude.{◌≡◌, ℕ, ◌+◌, List, ◌∷◌, length, take, drop}
use Rattle.wc_tokens.specs.Standard.Lexemes.{Lexeme}
use Rattle.wc_tokens.specs.Standard.Tokens.{InOrder}
use Rattle.wc_body.specs.Standard.Nested.{nesting_limit}
use Rattle.wc_syntax.specs.declared.kind.Kind.{Kind}
use Rattle.wc_syntax.specs.Standard.Deriving.{Event}
use Rattle.wc_syntax.specs.Standard.Reading.{Standing, IsRead}
use Rattle.wc_parse.specs.declared.text_draft.TextDraft.{TextDraft}
use Rattle.wc_parse.specs.Kept.Texts.{Item, nothing, take_items}
use Rattle.wc_parse.specs.Standard.Kinds.{Each, HasKind}
use Rattle.wc_parse.specs.Kept.Folds.{IsItem}
use Rattle.wc_parse.specs.Standard.Faults.{IsFault}
use Rattle.wc_parse.specs.declared.fault.SynFault.{SynFault}

-- behind so many tokens the reader stands so, and the draft is what they say
pub record IsSaid (ts : List Lexeme) (at : ℕ) (reading : Standing) (draft : TextDraft) : Type 0 where
  pub kinds : List Kind
  pub are_kinds : Each HasKind (take at ts) kinds
  pub es : List Event
  pub read : IsRead nesting_limit kinds es reading
  pub items : List Item
  pub are_items : Each (IsItem ts) es items
  pub says : draft ≡ take_items nothing items

-- so many are all of the tokens, in the order of a text
pub record IsAllSaid (ts : List Lexeme) (at : ℕ) (reading : Standing) (draft : TextDraft) : Type 0 where
  pub in_order : InOrder 0 ts
  pub all : at ≡ length ts
  pub said : IsSaid ts at reading draft

-- behind one more token, the one of this number, the reader stands so, and the draft is what they say
abbrev pub SaysMore : Lexeme → ℕ → Standing → TextDraft → Standing → TextDraft → Type 0
SaysMore t at s d s' d' = (ts rest : List Lexeme) → IsSaid ts at s d → drop at ts ≡ t ∷ rest → IsSaid ts (at + 1) s' d'

-- the fault is the first one of all tokens that go on with it
abbrev pub Refuses : Lexeme → ℕ → Standing → TextDraft → SynFault → Type 0
Refuses t at s d fault =
    (ts rest : List Lexeme) → IsSaid ts at s d → drop at ts ≡ t ∷ rest → InOrder 0 ts → IsFault ts fault
