-- What a phrase does to a body that is being said, and that a derivation does just that.
use Rattle.std.proofs.Common.{◌≡◌, ℕ, ◌+◌, ◌≤◌, Bool, true, false, List, [], ◌∷◌, ◌++◌, length, ◌⊎◌, inl, inr}
use Rattle.std.proofs.Common.{refl, sym, ap, ◌∙◌, subst, ◌&&◌}
use Rattle.wc_syntax.specs.declared.kind.Kind.{Kind}
use Rattle.wc_syntax.specs.declared.role.Role.{Role}
use Rattle.wc_syntax.specs.declared.role.Role.TheVariants as role
use Rattle.wc_syntax.specs.Standard.Phrases.{word, Nonterminal, instr, foldedinstr, typeuse, param, result}
use Rattle.wc_syntax.specs.Standard.Phrases.{Phrase, Empty, Token, Keep, ◌·◌, ◌∣◌, Many, The}
use Rattle.wc_syntax.specs.Standard.Grammar.{body}
use Rattle.wc_syntax.specs.Standard.Deriving.{Item, at, Event, kept, Derives, empty, token, keeps, then}
use Rattle.wc_syntax.specs.Standard.Deriving.{left, right, none, more, rule}
use Rattle.wc_symbols.specs.Standard.Ranges.{FitsKind}
use Rattle.wc_body.specs.Standard.Nested.{nesting_limit}
use Rattle.wc_body.specs.Standard.Draft.{Frame}
use Rattle.wc_surface.specs.declared.instr.TextInstr.{TextInstr}
use Rattle.wc_parse_code.specs.declared.held.Held.{Held}
use Rattle.wc_parse_code.specs.declared.body_draft.BodyDraft.{BodyDraft}
use Rattle.wc_parse_code.specs.declared.use_draft.UseDraft.{UseDraft}
use Rattle.wc_parse_code.specs.declared.word.Word.{Word}
use Rattle.wc_parse_code.specs.Drafting.Taking.{take}
use Rattle.wc_parse_code.specs.Drafting.Following.{take_all}
use Rattle.wc_parse_code.specs.Drafting.Leaving.{Leaves}
use Rattle.wc_parse_code.specs.Standard.Derived.{AreWords}

-- a body, and the same one step later
abbrev pub Relation : Type 1
Relation = BodyDraft → BodyDraft → Type 0

-- any number of steps
pub data Star (R : Relation) : BodyDraft → BodyDraft → Type 0 where
  stop : {s t : BodyDraft} → t ≡ s → Star R s t
  go : {s m t : BodyDraft} → R s m → Star R m t → Star R s t

-- nothing changes but the type use that is written
abbrev pub Writes : Relation
Writes s t = (u : UseDraft) × (t ≡ record s { written = u })

-- what is open, waits and encloses is the same behind as before, if so many more may be open
abbrev pub Balances : ℕ → Relation
Balances depth s t = (around : List (Frame TextInstr ℕ)) (held : List Held) (blocks : List ℕ)
    → length around + depth ≤ nesting_limit → Leaves s around held blocks → Leaves t around held blocks

-- what a rule does
abbrev pub RuleDoes : Nonterminal → Relation
RuleDoes (instr depth) s t = Balances depth s t
RuleDoes (foldedinstr depth) s t = Balances depth s t
RuleDoes typeuse s t = Writes s t
RuleDoes param s t = Writes s t
RuleDoes result s t = Writes s t
RuleDoes _ s t = Unit {0}

-- a kept token is a word of its kind, and is taken
pub record Takes (r : Role) (k : Kind) (s t : BodyDraft) : Type 0 where
  pub word : Word
  pub value : FitsKind k word.symbol.value
  pub taken : t ≡ take s r word

-- what a phrase does, where its rules do so
abbrev pub Does : Phrase → Relation
Does Empty s t = t ≡ s
Does (Token c) s t = t ≡ s
Does (Keep r k) s t = Takes r k s t
Does (a · b) s t = (m : BodyDraft) × Does a s m × Does b m t
Does (a ∣ b) s t = Does a s t ⊎ Does b s t
Does (Many a) s t = Star (Does a) s t
Does (The n) s t = RuleDoes n s t

pub star-keeps : {R : Relation} (Q : BodyDraft → Type 0) → ((s t : BodyDraft) → R s t → Q s → Q t)
    → {s t : BodyDraft} → Star R s t → Q s → Q t
star-keeps Q keep (stop e) q = subst Q (sym e) q
star-keeps Q keep (go {s = s} {m = m} r rest) q = star-keeps Q keep rest (keep s m r q)

-- ---- what derives does so

take_all-append : (words : ℕ → Word) (d : BodyDraft) (es fs : List Event)
    → take_all words d (es ++ fs) ≡ take_all words (take_all words d es) fs
take_all-append words d [] fs = refl
take_all-append words d (kept r (at n t) ∷ es) fs = take_all-append words (take d r (words n)) es fs

words-split : (words : ℕ → Word) (es fs : List Event) → AreWords words (es ++ fs)
    → AreWords words es × AreWords words fs
words-split words [] fs a = (tt, a)
words-split words (kept r (at n t) ∷ es) fs a = let rest = words-split words es fs a.1 in ((a.0, rest.0), rest.1)

kind-is : (c k : Kind) → word c ≡ word k → c ≡ k
kind-is c k e = cc

pub does : (rules : (n : Nonterminal) (s t : BodyDraft) → Does (body n) s t → RuleDoes n s t) (words : ℕ → Word)
    {g : Phrase} {us : List Item} {es : List Event} → Derives g us es → (s : BodyDraft) → AreWords words es
    → Does g s (take_all words s es)
does rules words empty s a = refl
does rules words (token h) s a = refl
does rules words (keeps {r = r} {c = c} {i = at n t} h) s a = record {
  word = words n;
  value = subst (λ (k : Kind). FitsKind k (words n).symbol.value) (kind-is (words n).symbol.kind c (sym a.0.kind ∙ h))
      a.0.value;
  taken = refl;
}
does rules words (then {b = b} {es = es} {fs = fs} d e) s a =
    let parts = words-split words es fs a in (
      take_all words s es,
      does rules words d s parts.0,
      subst (λ (t : BodyDraft). Does b (take_all words s es) t) (sym (take_all-append words s es fs))
          (does rules words e (take_all words s es) parts.1),
    )
does rules words (left d) s a = inl (does rules words d s a)
does rules words (right d) s a = inr (does rules words d s a)
does rules words none s a = stop refl
does rules words (more {a = g} {es = es} {fs = fs} d e) s a =
    let parts = words-split words es fs a in
    go (does rules words d s parts.0)
    (subst (λ (t : BodyDraft). Star (Does g) (take_all words s es) t) (sym (take_all-append words s es fs))
    (does rules words e (take_all words s es) parts.1))
does rules words (rule {n = n} d) s a = rules n s _ (does rules words d s a)

-- ---- type uses

abbrev pub is_use : Role → Bool
is_use role.TypeIndex = true
is_use role.ParamId = true
is_use role.ParamType = true
is_use role.ResultType = true
is_use _ = false

abbrev pub is_use_rule : Nonterminal → Bool
is_use_rule typeuse = true
is_use_rule param = true
is_use_rule result = true
is_use_rule _ = false

-- it keeps no other tokens than those of a type use
abbrev pub is_of_use : Phrase → Bool
is_of_use Empty = true
is_of_use (Token c) = true
is_of_use (Keep r k) = is_use r
is_of_use (a · b) = is_of_use a && is_of_use b
is_of_use (a ∣ b) = is_of_use a && is_of_use b
is_of_use (Many a) = is_of_use a
is_of_use (The n) = is_use_rule n

writes-none : (s t : BodyDraft) → t ≡ s → Writes s t
writes-none s t e = (s.written, e)

writes-more : (s m t : BodyDraft) → Writes s m → Writes m t → Writes s t
writes-more s m t (u, e) (v, f) = (v, f ∙ ap (λ (x : BodyDraft). record x { written = v }) e)

writes-taken : (r : Role) (w : Word) (s t : BodyDraft) → is_use r ≡ true → t ≡ take s r w → Writes s t
writes-taken role.TypeIndex w s t u e = (_, e)
writes-taken role.ParamId w s t u e = (_, e)
writes-taken role.ParamType w s t u e = (_, e)
writes-taken role.ResultType w s t u e = (_, e)
writes-taken _ w s t u e = absurd cc

writes-rule : (n : Nonterminal) (s t : BodyDraft) → is_use_rule n ≡ true → RuleDoes n s t → Writes s t
writes-rule typeuse s t u w = w
writes-rule param s t u w = w
writes-rule result s t u w = w
writes-rule _ s t u w = absurd cc

both : (a b : Bool) → (a && b) ≡ true → (a ≡ true) × (b ≡ true)
both true true e = (refl, refl)
both true false e = absurd cc
both false b e = absurd cc

pub writes : (g : Phrase) (s t : BodyDraft) → is_of_use g ≡ true → Does g s t → Writes s t
writes Empty s t u e = writes-none s t e
writes (Token c) s t u e = writes-none s t e
writes (Keep r k) s t u taken = writes-taken r taken.word s t u taken.taken
writes (a · b) s t u (m, d, e) =
    let parts = both (is_of_use a) (is_of_use b) u in
    writes-more s m t (writes a s m parts.0 d) (writes b m t parts.1 e)
writes (a ∣ b) s t u (inl d) = writes a s t (both (is_of_use a) (is_of_use b) u).0 d
writes (a ∣ b) s t u (inr d) = writes b s t (both (is_of_use a) (is_of_use b) u).1 d
writes (Many a) s t u d = star-keeps {R = Does a} (λ (x : BodyDraft). Writes s x)
    (λ x y e w. writes-more s x y w (writes a x y u e)) d (writes-none s s refl)
writes (The n) s t u d = writes-rule n s t u d

pub writes-typeuse : (s t : BodyDraft) → Does (body typeuse) s t → Writes s t
writes-typeuse s t d = writes (body typeuse) s t refl d

pub writes-param : (s t : BodyDraft) → Does (body param) s t → Writes s t
writes-param s t d = writes (body param) s t refl d

pub writes-result : (s t : BodyDraft) → Does (body result) s t → Writes s t
writes-result s t d = writes (body result) s t refl d
