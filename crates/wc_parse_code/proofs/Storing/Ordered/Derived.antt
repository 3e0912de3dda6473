-- The kept tokens of a derivation stand in the order of the text.
use Rattle.std.proofs.Common.{◌≡◌, ℕ, zero, suc, ◌+◌, ◌≤◌, Bool, true, false, List, [], ◌∷◌, ◌++◌, length}
use Rattle.std.proofs.Common.{refl, sym, ap, ◌∙◌, subst, ◌&&◌, arith}
use Rattle.wc_syntax.specs.declared.kind.Kind.{Kind}
use Rattle.wc_syntax.specs.declared.role.Role.{Role}
use Rattle.wc_syntax.specs.declared.role.Role.TheVariants as role
use Rattle.wc_syntax.specs.Standard.Phrases.{Nonterminal, text, modulefield, offset, instr, foldedinstr, Phrase, Empty}
use Rattle.wc_syntax.specs.Standard.Phrases.{Token, Keep, ◌·◌, ◌∣◌, Many, The}
use Rattle.wc_syntax.specs.Standard.Grammar.{body}
use Rattle.wc_syntax.specs.Standard.Deriving.{Item, at, Event, numbered, Derives}
use Rattle.wc_parse_code.specs.Standard.Tokens.{KeptToken}
use Rattle.wc_parse_code.specs.Standard.Productions.Tokens.{Said, ◌⊳◌}
use Rattle.wc_parse_code.specs.Standard.Productions.Kept.{AreKept}
use Rattle.wc_parse_code.proofs.SomeValue.Spoken.{is_wide}
use Rattle.wc_parse_code.proofs.SomeValue.Phrases.{kept-split, the-kind}
use Rattle.wc_parse_code.proofs.Storing.Ordered.Following.{is_string, FitsRole, Follow}

-- ---- the numbers of items

-- they rise, from the first number on to below the second
abbrev pub ItemsRise : ℕ → List Item → ℕ → Type 0
ItemsRise lo [] hi = lo ≤ hi
ItemsRise lo (at n t ∷ is) hi = (lo ≤ n) × ItemsRise (suc n) is hi

items-part : (lo hi : ℕ) (is js : List Item) → ItemsRise lo (is ++ js) hi
    → (mid : ℕ) × ItemsRise lo is mid × ItemsRise mid js hi
items-part lo hi [] js h = (lo, omega arith, h)
items-part lo hi (at n t ∷ is) js h =
    let rest = items-part (suc n) hi is js h.1 in (rest.0, (h.0, rest.1), rest.2)

pub numbered-rise : (n : ℕ) (ks : List Kind) → ItemsRise n (numbered n ks) (n + length ks)
numbered-rise n [] = omega arith
numbered-rise n (k ∷ ks) =
    let same : suc n + length ks ≡ n + length (k ∷ ks) = omega arith in
    (omega arith, subst (λ (hi : ℕ). ItemsRise (suc n) (numbered (suc n) ks) hi) same (numbered-rise (suc n) ks))

-- ---- constants have the kinds of numbers, and strings those of strings

abbrev pub role_kind : Role → Kind → Bool
role_kind role.Literal k = is_wide k
role_kind role.ExportName k = is_string k
role_kind role.ModuleName k = is_string k
role_kind role.ItemName k = is_string k
role_kind role.Bytes k = is_string k
role_kind _ k = true

-- what the phrase keeps in such a role is of such a kind
abbrev pub has_kinds : Phrase → Bool
has_kinds Empty = true
has_kinds (Token t) = true
has_kinds (Keep r k) = role_kind r k
has_kinds (a · b) = has_kinds a && has_kinds b
has_kinds (a ∣ b) = has_kinds a && has_kinds b
has_kinds (Many a) = has_kinds a
has_kinds (The n) = true

rule-kinds : (n : Nonterminal) → has_kinds (body n) ≡ true
rule-kinds (text d) = refl
rule-kinds (modulefield d) = refl
rule-kinds (offset d) = refl
rule-kinds (instr zero) = refl
rule-kinds (instr (suc d)) = refl
rule-kinds (foldedinstr zero) = refl
rule-kinds (foldedinstr (suc d)) = refl
rule-kinds _ = refl

fits-role : (r : Role) (w : KeptToken) (k : Kind) → w.symbol.kind ≡ k → role_kind r k ≡ true → FitsRole r w
fits-role role.Literal w k e f = ap is_wide e ∙ f
fits-role role.ExportName w k e f = ap is_string e ∙ f
fits-role role.ModuleName w k e f = ap is_string e ∙ f
fits-role role.ItemName w k e f = ap is_string e ∙ f
fits-role role.Bytes w k e f = ap is_string e ∙ f
fits-role _ w k e f = tt

both : (a b : Bool) → (a && b) ≡ true → (a ≡ true) × (b ≡ true)
both true true e = (refl, refl)
both true false e = absurd cc
both false b e = absurd cc

-- ---- kept tokens

pub follow-from : (low lo hi : ℕ) (us : List Said) → low ≤ lo → Follow lo us hi → Follow low us hi
follow-from low lo hi [] e h = omega (arith, e, h)
follow-from low lo hi (r ⊳ w ∷ us) e h = (h.0, h.1, omega (arith, e, h.2), h.3)

pub follow-append : (lo mid hi : ℕ) (us vs : List Said) → Follow lo us mid → Follow mid vs hi
    → Follow lo (us ++ vs) hi
follow-append lo mid hi [] vs h k = follow-from lo mid hi vs h k
follow-append lo mid hi (r ⊳ w ∷ us) vs h k = (h.0, h.1, h.2, follow-append (suc w.token) mid hi us vs h.3 k)

pub kept-follow : {g : Phrase} {is : List Item} {es : List Event} → Derives g is es → has_kinds g ≡ true
    → (lo hi : ℕ)
    → ItemsRise lo is hi → (us : List Said) → AreKept es us → Follow lo us hi
kept-follow Derives.empty l lo hi h us AreKept.none = h
kept-follow (Derives.token {i = at n t} e) l lo hi h us AreKept.none = omega (arith, h.0, h.1)
kept-follow (Derives.keeps {r = r} {c = c} e) l lo hi h us (AreKept.more {w = w} s AreKept.none) =
    (s, fits-role r w c (the-kind e) l, h.0, h.1)
kept-follow (Derives.then {a = a} {b = b} {us = is} {vs = js} {es = es} {fs = fs} d e) l lo hi h us k =
    let parts = kept-split es fs us k in
    let items = items-part lo hi is js h in
    let tests = both (has_kinds a) (has_kinds b) l in
    subst (λ (all : List Said). Follow lo all hi) (sym parts.is)
    (follow-append lo items.0 hi parts.front parts.rest
    (kept-follow d tests.0 lo items.0 items.1 parts.front parts.first)
    (kept-follow e tests.1 items.0 hi items.2 parts.rest parts.second))
kept-follow (Derives.left {a = a} {b = b} d) l lo hi h us k =
    kept-follow d (both (has_kinds a) (has_kinds b) l).0 lo hi h us k
kept-follow (Derives.right {a = a} {b = b} d) l lo hi h us k =
    kept-follow d (both (has_kinds a) (has_kinds b) l).1 lo hi h us k
kept-follow Derives.none l lo hi h us AreKept.none = h
kept-follow (Derives.more {a = a} {us = is} {vs = js} {es = es} {fs = fs} d e) l lo hi h us k =
    let parts = kept-split es fs us k in
    let items = items-part lo hi is js h in
    subst (λ (all : List Said). Follow lo all hi) (sym parts.is)
    (follow-append lo items.0 hi parts.front parts.rest
    (kept-follow d l lo items.0 items.1 parts.front parts.first)
    (kept-follow e l items.0 hi items.2 parts.rest parts.second))
kept-follow (Derives.rule {n = n} d) l lo hi h us k = kept-follow d (rule-kinds n) lo hi h us k

-- of numbered tokens
pub derived-follow : {g : Phrase} {es : List Event} (n : ℕ) (ks : List Kind) (us : List Said)
    → Derives g (numbered n ks) es → has_kinds g ≡ true → AreKept es us → Follow 0 us (n + length ks)
derived-follow n ks us d l k =
    follow-from 0 n (n + length ks) us (omega arith) (kept-follow d l n (n + length ks) (numbered-rise n ks) us k)
