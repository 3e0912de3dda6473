-- The first fault of a list of tokens, and why it is one.
use Rattle.std.specs.Prelude.{◌≡◌, ℕ, ◌+◌, ◌≤◌, ◌<◌, List, [], ◌∷◌, ◌++◌, ◌⊎◌, take, drop, length}
use Rattle.wc_syntax.specs.declared.kind.Kind.{Kind}
use Rattle.wc_syntax.specs.declared.kind.Kind.TheVariants.{Open, Close, Id, Natural32, Natural64, Natural, Signed32}
use Rattle.wc_syntax.specs.declared.kind.Kind.TheVariants.{Signed64, Signed, Name, Text, MemOffset, MemOffsetRange}
use Rattle.wc_syntax.specs.declared.kind.Kind.TheVariants.{MemOffsetForm, MemAlign, MemAlignPower, MemAlignRange}
use Rattle.wc_syntax.specs.declared.kind.Kind.TheVariants.{MemAlignForm, Simple, Indexed, BrTable, CallIndirect, Access}
use Rattle.wc_syntax.specs.declared.kind.Kind.TheVariants.{Const32, Const64, Region, If, ValType, FloatType, FloatName}
use Rattle.wc_syntax.specs.declared.why.SynWhy.{SynWhy}
use Rattle.wc_syntax.specs.declared.why.SynWhy.TheVariants as why
use Rattle.wc_syntax.specs.Standard.Phrases.{Terminal, word, mark, The, text}
use Rattle.wc_syntax.specs.Standard.Deriving.{at, Event, numbered, Derives, Begins}

-- What a refused token may be wrong for: the reason holds where what stands beside it may stand in the token's place.
-- The first one that holds counts.
abbrev pub wrong : Kind → List (SynWhy × Terminal)
wrong Open = []
wrong Close = []
wrong Id = []
wrong Name = []
wrong Text = (why.NameNotUtf8, word Name) ∷ []
wrong Natural64 = (why.Range, word Natural32) ∷ (why.NoInstruction, mark) ∷ []
wrong Natural = (why.Range, word Natural32) ∷ (why.NoInstruction, mark) ∷ []
wrong Signed64 = (why.Range, word Signed32) ∷ (why.NoInstruction, mark) ∷ []
wrong Signed = (why.Range, word Signed32) ∷ (why.NoInstruction, mark) ∷ []
wrong MemOffsetRange = (why.Range, word MemOffset) ∷ (why.NoInstruction, mark) ∷ []
wrong MemOffsetForm = (why.Unexpected, word MemOffset) ∷ (why.NoInstruction, mark) ∷ []
wrong MemAlignRange = (why.Range, word MemAlign) ∷ (why.NoInstruction, mark) ∷ []
wrong MemAlignPower = (why.Align, word MemAlign) ∷ (why.NoInstruction, mark) ∷ []
wrong MemAlignForm = (why.Unexpected, word MemAlign) ∷ (why.NoInstruction, mark) ∷ []
wrong FloatType = (why.Float, word ValType) ∷ (why.NoInstruction, mark) ∷ []
wrong FloatName = (why.Float, mark) ∷ []
wrong Simple = (why.Depth, mark) ∷ []
wrong Indexed = (why.Depth, mark) ∷ []
wrong BrTable = (why.Depth, mark) ∷ []
wrong CallIndirect = (why.Depth, mark) ∷ []
wrong Access = (why.Depth, mark) ∷ []
wrong Const32 = (why.Depth, mark) ∷ []
wrong Const64 = (why.Depth, mark) ∷ []
wrong Region = (why.Depth, mark) ∷ []
wrong If = (why.Depth, mark) ∷ []
wrong _ = (why.NoInstruction, mark) ∷ []

-- the first reason that holds
abbrev pub Why : (Terminal → Type 0) → List (SynWhy × Terminal) → SynWhy → Type 0
Why may [] r = r ≡ why.Unexpected
Why may (x ∷ xs) r = ((r ≡ x.0) × may x.1) ⊎ ((may x.1 → ⊥) × Why may xs r)

-- behind the first p tokens, this may stand
abbrev pub May : ℕ → List Kind → ℕ → Terminal → Type 0
May d ks p t = Begins (The (text d)) (take p (numbered 0 ks) ++ at p t ∷ [])

-- the reason, where tokens of these kinds stand from the place p on
abbrev pub ReasonAt : ℕ → List Kind → ℕ → List Kind → SynWhy → Type 0
ReasonAt d ks p [] r = r ≡ why.End
ReasonAt d ks p (k ∷ _) r = Why (May d ks p) (wrong k) r

-- The fault is the first token such that no text, however deep, begins with the tokens up to and including it, or that
-- names a block or a folded instruction with which more than d are nested. The parenthesis before such a name is none:
-- the mark may follow it. Where there is no such token and the tokens are no text, the fault is the number of tokens.
pub record FirstFault (d : ℕ) (ks : List Kind) (p : ℕ) (r : SynWhy) : Type 0 where
  pub within : p ≤ length ks
  pub before : Begins (The (text d)) (take p (numbered 0 ks))
  pub here : p < length ks → Begins (The (text d)) (take (p + 1) (numbered 0 ks)) → ⊥
  pub at_end : p ≡ length ks → (es : List Event) → Derives (The (text d)) (numbered 0 ks) es → ⊥
  pub reason : ReasonAt d ks p (drop p ks) r
