-- Phrases: how the rules of the text grammar are written down (Core 1.0, 6.1.1).
use Rattle.std.specs.Prelude.{ℕ}
use Rattle.wc_syntax.specs.declared.kind.Kind.{Kind}
use Rattle.wc_syntax.specs.declared.role.Role.{Role}

-- what a rule asks of one token: a kind; or the mark, which no token of a text is, and which may stand wherever the
-- name of an instruction is looked for
pub data Terminal : Type 0 where
  word : Kind → Terminal
  mark : Terminal

-- the rules that others name, by the standard's names; the number says how many instructions may be nested in it
pub data Nonterminal : Type 0 where
  text : ℕ → Nonterminal
  modulefield : ℕ → Nonterminal
  offset : ℕ → Nonterminal
  instr : ℕ → Nonterminal
  foldedinstr : ℕ → Nonterminal
  export : Nonterminal
  local : Nonterminal
  typeuse : Nonterminal
  param : Nonterminal
  result : Nonterminal

infixr 10 ◌·◌
infixr 5 ◌∣◌
-- a phrase: nothing; one token, which is dropped or kept; one phrase and then another; one of two; any number of one;
-- or what a rule says
pub data Phrase : Type 0 where
  Empty : Phrase
  Token : Terminal → Phrase
  Keep : Role → Kind → Phrase
  ◌·◌ : Phrase → Phrase → Phrase
  ◌∣◌ : Phrase → Phrase → Phrase
  Many : Phrase → Phrase
  The : Nonterminal → Phrase

-- a token of the kind
abbrev pub token : Kind → Phrase
token c = Token (word c)

-- at most one
abbrev pub Maybe : Phrase → Phrase
Maybe g = Empty ∣ g
