-- The first fault of tokens that are no text, and why it is one (Core 1.0, 6.4 to 6.6).
use Rattle.std.specs.Prelude.{ℕ, List}
use Rattle.wc_tokens.specs.Standard.Lexemes.{Lexeme}
use Rattle.wc_body.specs.Standard.Nested.{nesting_limit}
use Rattle.wc_syntax.specs.declared.kind.Kind.{Kind}
use Rattle.wc_syntax.specs.declared.why.SynWhy.{SynWhy}
use Rattle.wc_syntax.specs.Standard.Reasons.{FirstFault as FirstKindFault}
use Rattle.wc_parse.specs.declared.fault.SynFault.{SynFault}
use Rattle.wc_parse.specs.declared.fault.SynFault.TheVariants.{Bad, Memory}
use Rattle.wc_parse.specs.Standard.Kinds.{Each, HasKind}

-- The fault is at the token of this number, or behind the last one, for this reason.
pub record FirstFault (ts : List Lexeme) (token : ℕ) (why : SynWhy) : Type 0 where
  pub kinds : List Kind
  pub are_kinds : Each HasKind ts kinds
  pub first : FirstKindFault nesting_limit kinds token why

-- it is the first fault, or memory was refused
abbrev pub IsFault : List Lexeme → SynFault → Type 0
IsFault ts Memory = Unit {0}
IsFault ts (Bad token why) = FirstFault ts token why
