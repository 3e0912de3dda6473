-- Counting the open comments reads block comments as they nest.
use Rattle.std.proofs.Common.{◌≡◌, ◌≢◌, ℕ, zero, suc, ◌+◌, ◌-◌, ◌<◌, ◌≤◌, nat_eq, true, List, [], ◌∷◌, length, take}
use Rattle.std.proofs.Common.{drop, get_or, Some, None, refl, sym, ap, subst, ◌∙◌, add-one, length-drop, ◌⊎◌, inl, inr}
use Rattle.std.proofs.Common.{arith}
use Rattle.std.proofs.lemmas.Bool.{cases_eq}
use Rattle.std.proofs.lemmas.Bool.Decides.{nat_tests}
use Rattle.std.proofs.lemmas.List.{drop_more, take_rest}
use Rattle.wc_tokens.specs.Standard.Gaps.{BeginsNot, Inside, nothing, other, semicolon, parenthesis, comment}
use Rattle.wc_tokens.proofs.Comments.AfterComments.{after_comments}
use Rattle.wc_tokens.proofs.Integers.Scans.{eq-false}

eq-true : (a b : ℕ) → a ≡ b → nat_eq a b ≡ true
eq-true a b h = grind (arith, nat_tests)

-- ---- one step

step-open : (text : List ℕ) (depth : ℕ) → after_comments (40 ∷ 59 ∷ text) depth ≡ after_comments text (suc depth)
unfolding after_comments
step-open text depth = refl

step-last : (text : List ℕ) → after_comments (59 ∷ 41 ∷ text) 0 ≡ Some text
unfolding after_comments
step-last text = refl

step-close : (text : List ℕ) (depth : ℕ) → after_comments (59 ∷ 41 ∷ text) (suc depth) ≡ after_comments text depth
unfolding after_comments
step-close text depth = refl

step-other : (c d : ℕ) (text : List ℕ) (depth : ℕ) → (c ≡ 40 → d ≢ 59) → (c ≡ 59 → d ≢ 41)
    → after_comments (c ∷ d ∷ text) depth ≡ after_comments (d ∷ text) depth
unfolding after_comments
step-other c d text depth no_open no_close = elim (cases_eq c 40) [
  | inl e ↦
      let f = eq-true c 40 e in
      let g = eq-false d 59 (no_open e) in
      let h = eq-false c 59 (omega (arith, e)) in
      rw (f, g, h)
  | inr e ↦ elim (cases_eq c 59) [
    | inl i ↦
        let f = eq-false c 40 e in
        let g = eq-true c 59 i in
        let h = eq-false d 41 (no_close i) in
        rw (f, g, h)
    | inr i ↦
        let f = eq-false c 40 e in
        let g = eq-false c 59 i in
        rw (f, g)
  ]
]

step-end : (text : List ℕ) (depth : ℕ) → length text ≤ 1 → after_comments text depth ≡ None
unfolding after_comments
step-end [] depth l = refl
step-end (c ∷ []) depth l = refl
step-end (c ∷ d ∷ text) depth l = absurd (omega arith)

step-one : (c : ℕ) (text : List ℕ) (depth : ℕ) → (c ≡ 40 → BeginsNot 59 text) → (c ≡ 59 → BeginsNot 41 text)
    → after_comments (c ∷ text) depth ≡ after_comments text depth
step-one c [] depth no_open no_close = step-end (c ∷ []) depth (omega arith) ∙ sym (step-end [] depth (omega arith))
step-one c (d ∷ text) depth no_open no_close = step-other c d text depth no_open no_close

-- ---- what is inside a comment is passed over

pub after-Inside : {text rest : List ℕ} → Inside text rest → (depth : ℕ)
    → after_comments text depth ≡ after_comments rest depth
after-Inside nothing depth = refl
after-Inside (other c {text = text} n m i) depth =
    step-one c text depth (λ e. absurd (m e)) (λ e. absurd (n e)) ∙ after-Inside i depth
after-Inside (semicolon {text = text} b i) depth =
    step-one 59 text depth (λ e. absurd (omega (arith, e))) (λ e. b) ∙ after-Inside i depth
after-Inside (parenthesis {text = text} b i) depth =
    step-one 40 text depth (λ e. b) (λ e. absurd (omega (arith, e))) ∙ after-Inside i depth
after-Inside (comment {inner = inner} {text = text} i j) depth =
    step-open inner depth ∙ after-Inside i (suc depth) ∙ step-close text depth ∙ after-Inside j depth

pub after-closed : (text rest : List ℕ) → Inside text (59 ∷ 41 ∷ rest) → after_comments text 0 ≡ Some rest
after-closed text rest i = after-Inside i 0 ∙ step-last rest

-- ---- what is passed over is inside a comment

-- so many more comments than one are closed before the rest
abbrev Closes : ℕ → List ℕ → List ℕ → Type 0
Closes zero text rest = Inside text (59 ∷ 41 ∷ rest)
Closes (suc depth) text rest = (after : List ℕ) × Inside text (59 ∷ 41 ∷ after) × Closes depth after rest

Closes-more : (depth : ℕ) {text longer : List ℕ} (rest : List ℕ) → ((r : List ℕ) → Inside text r → Inside longer r)
    → Closes depth text rest → Closes depth longer rest
Closes-more zero rest f c = f (59 ∷ 41 ∷ rest) c
Closes-more (suc depth) rest f c = (c.0, f (59 ∷ 41 ∷ c.0) c.1, c.2)

Inside-one : (c d : ℕ) (text : List ℕ) → (c ≡ 40 → d ≢ 59) → (c ≡ 59 → d ≢ 41) → (r : List ℕ) → Inside (d ∷ text) r
    → Inside (c ∷ d ∷ text) r
Inside-one c d text no_open no_close r i = elim (cases_eq c 40) [
  | inl e ↦ subst (λ (x : ℕ). Inside (x ∷ d ∷ text) r) (sym e) (parenthesis (no_open e) i)
  | inr e ↦ elim (cases_eq c 59) [
    | inl f ↦ subst (λ (x : ℕ). Inside (x ∷ d ∷ text) r) (sym f) (semicolon (no_close f) i)
    | inr f ↦ other c f e i
  ]
]

Closes-open : (depth : ℕ) (text rest : List ℕ) → Closes (suc depth) text rest → Closes depth (40 ∷ 59 ∷ text) rest
Closes-open depth text rest c = Closes-more depth rest (λ r i. comment c.1 i) c.2

Closes-close : (depth : ℕ) (text rest : List ℕ) → after_comments (59 ∷ 41 ∷ text) depth ≡ Some rest
    → ((m : ℕ) → after_comments text m ≡ Some rest → Closes m text rest) → Closes depth (59 ∷ 41 ∷ text) rest
Closes-close zero text rest e more =
    let f : Some text ≡ Some rest = sym (step-last text) ∙ e in
    let same : text ≡ rest = cc in
    subst (λ (t : List ℕ). Inside (59 ∷ 41 ∷ text) (59 ∷ 41 ∷ t)) same nothing
Closes-close (suc depth) text rest e more = (text, nothing, more depth (sym (step-close text depth) ∙ e))

-- two bytes open a comment, or close one, or do neither
abbrev Marks : ℕ → ℕ → Type 0
Marks c d = (((c ≡ 40) × (d ≡ 59)) ⊎ ((c ≡ 59) × (d ≡ 41))) ⊎ ((c ≡ 40 → d ≢ 59) × (c ≡ 59 → d ≢ 41))

marks : (c d : ℕ) → Marks c d
marks c d = elim (cases_eq c 40) [
  | inl e ↦ elim (cases_eq d 59) [
    | inl f ↦ inl (inl (e, f))
    | inr f ↦ inr (
      (λ g. f),
      (λ g. absurd (omega (arith, e, g))),
    )
  ]
  | inr e ↦ elim (cases_eq c 59) [
    | inl g ↦ elim (cases_eq d 41) [ inl f ↦ inl (inr (g, f)) | inr f ↦ inr ((λ h. absurd (e h)), (λ h. f)) ]
    | inr g ↦ inr ((λ h. absurd (e h)), (λ h. absurd (g h)))
  ]
]

after-is : (text : List ℕ) (depth : ℕ) (rest : List ℕ) → after_comments text depth ≡ Some rest → Closes depth text rest
after-is [] depth rest e = let f = step-end [] depth (omega arith) in let g : None ≡ Some rest = sym f ∙ e in absurd cc
after-is (c ∷ []) depth rest e =
    let f = step-end (c ∷ []) depth (omega arith) in let g : None ≡ Some rest = sym f ∙ e in absurd cc
after-is (c ∷ d ∷ text) depth rest e = elim (marks c d) [
  | inl (inl p) ↦
      let q : c ∷ d ∷ text ≡ 40 ∷ 59 ∷ text = cc (p.0, p.1) in
      let f : after_comments (40 ∷ 59 ∷ text) depth ≡ Some rest = ap (λ (t : List ℕ). after_comments t depth) (sym q)
      ∙ e in
      subst (λ (t : List ℕ). Closes depth t rest) (sym q)
      (Closes-open depth text rest (after-is text (suc depth) rest (sym (step-open text depth) ∙ f)))
  | inl (inr p) ↦
      let q : c ∷ d ∷ text ≡ 59 ∷ 41 ∷ text = cc (p.0, p.1) in
      let f : after_comments (59 ∷ 41 ∷ text) depth ≡ Some rest = ap (λ (t : List ℕ). after_comments t depth) (sym q)
      ∙ e in
      subst (λ (t : List ℕ). Closes depth t rest) (sym q)
      (Closes-close depth text rest f (λ m h. after-is text m rest h))
  | inr p ↦ Closes-more depth rest (Inside-one c d text p.0 p.1) (after-is (d
      ∷ text) depth rest (sym (step-other c d text depth p.0 p.1) ∙ e))
]

pub Inside-closed : (text rest : List ℕ) → after_comments text 0 ≡ Some rest → Inside text (59 ∷ 41 ∷ rest)
Inside-closed text rest e = after-is text 0 rest e

pub not-closed : (text : List ℕ) → after_comments text 0 ≡ None → (rest : List ℕ) → ¬ (Inside text (59 ∷ 41 ∷ rest))
not-closed text e rest i = let f : Some rest ≡ None = sym (after-closed text rest i) ∙ e in absurd cc

-- ---- the same at a place of a text, as the code goes on

two-at : (text : List ℕ) (at : ℕ) → at + 1 < length text
    → drop at text ≡ get_or text at 0 ∷ get_or text (at + 1) 0 ∷ drop (at + 2) text
two-at text at l =
    let first = drop_more text at 0 (omega (arith, l)) in
    let next = drop_more text (at + 1) 0 l in
    let two : drop (at + 1 + 1) text ≡ drop (at + 2) text = ap (λ (n : ℕ). drop n text) (omega arith) in
    cc

module _ (text : List ℕ) (at depth : ℕ) (read : after_comments (drop at text) depth ≡ after_comments text 0)
    (within : at + 1 < length text) where
  pub keeps-open : get_or text at 0 ≡ 40 → get_or text (at + 1) 0 ≡ 59
      → after_comments (drop (at + 2) text) (depth + 1) ≡ after_comments text 0
  keeps-open e f =
      let two = two-at text at within in
      let here : drop at text ≡ 40 ∷ 59 ∷ drop (at + 2) text = cc (two, e, f) in
      rw add-one
      (sym (step-open (drop (at + 2) text) depth) ∙ sym (ap (λ (t : List ℕ). after_comments t depth) here) ∙ read)

  pub ends-last : depth ≡ 0 → get_or text at 0 ≡ 59 → get_or text (at + 1) 0 ≡ 41
      → Inside text (59 ∷ 41 ∷ take (length text - (at + 2)) (drop (at + 2) text))
  ends-last z e f =
      let two = two-at text at within in
      let here : drop at text ≡ 59 ∷ 41 ∷ drop (at + 2) text = cc (two, e, f) in
      let whole : after_comments text 0 ≡ Some (drop (at + 2) text) = sym read
      ∙ ap (λ (t : List ℕ). after_comments t depth) here ∙ ap (after_comments (59 ∷ 41 ∷ drop (at + 2) text)) z
      ∙ step-last (drop (at + 2) text) in
      rw (take_rest text (at + 2)) (Inside-closed text (drop (at + 2) text) whole)

  pub keeps-close : depth ≢ 0 → get_or text at 0 ≡ 59 → get_or text (at + 1) 0 ≡ 41
      → after_comments (drop (at + 2) text) (depth - 1) ≡ after_comments text 0
  keeps-close n e f =
      let two = two-at text at within in
      let here : drop at text ≡ 59 ∷ 41 ∷ drop (at + 2) text = cc (two, e, f) in
      let some : depth ≡ suc (depth - 1) = omega (arith, n) in
      sym (step-close (drop (at + 2) text) (depth - 1)) ∙ ap (after_comments (59 ∷ 41 ∷ drop (at + 2) text)) (sym some)
      ∙ sym (ap (λ (t : List ℕ). after_comments t depth) here) ∙ read

  pub keeps-other : (get_or text at 0 ≡ 40 → get_or text (at + 1) 0 ≢ 59)
      → (get_or text at 0 ≡ 59 → get_or text (at + 1) 0 ≢ 41)
      → after_comments (drop (at + 1) text) depth ≡ after_comments text 0
  keeps-other no_open no_close =
      let two = two-at text at within in
      let one = drop_more text at 0 (omega (arith, within)) in
      let after = drop_more text (at + 1) 0 within in
      let next : drop (at + 1) text ≡ get_or text (at + 1) 0 ∷ drop (at + 2) text = cc (two, one) in
      ap (λ (t : List ℕ). after_comments t depth) next
      ∙ sym (step-other (get_or text at 0) (get_or text (at + 1) 0) (drop (at + 2) text) depth no_open no_close)
      ∙ sym (ap (λ (t : List ℕ). after_comments t depth) two) ∙ read

pub ends-unclosed : (text : List ℕ) (at depth : ℕ) → after_comments (drop at text) depth ≡ after_comments text 0
    → length text ≤ at + 1 → (rest : List ℕ) → ¬ (Inside text (59 ∷ 41 ∷ rest))
ends-unclosed text at depth read past =
    not-closed text (sym read ∙ step-end (drop at text) depth (omega (arith, length-drop at text)))
