-- Blanks at the front of a text, as they are passed over.
use Rattle.std.proofs.Common.{◌≡◌, ℕ, zero, suc, ◌+◌, ◌<◌, ◌≤◌, true, List, [], ◌∷◌, subst, length, drop, get_or}
use Rattle.std.proofs.Common.{sym, ap, ◌∙◌, arith}
use Rattle.std.proofs.lemmas.List.{drop_more, drop-drop}
use Rattle.wc_tokens.specs.Standard.Gaps.{is_blank, Gap, blank, Gaps, none, more}
use Rattle.wc_tokens.proofs.Lexing.RunLaws.{Gaps-push}

pub Gaps-join : {text rest behind : List ℕ} → Gaps text rest → Gaps rest behind → Gaps text behind
Gaps-join none h = h
Gaps-join (more g i) h = more g (Gaps-join i h)

Gaps-blanks : (text : List ℕ) (n : ℕ) → n ≤ length text
    → ((k : ℕ) → k < n → is_blank (get_or text k 0) ≡ true) → Gaps text (drop n text)
Gaps-blanks text zero l blanks = none
Gaps-blanks [] (suc n) l blanks = absurd (omega (arith, l))
Gaps-blanks (c ∷ text) (suc n) l blanks =
    more (blank c (blanks 0 (omega arith)))
    (Gaps-blanks text n (omega (arith, l)) (λ k less. blanks (suc k) (omega (arith, less))))

pub Gaps-blank : (text : List ℕ) (at : ℕ) → Gaps text (drop at text) → at < length text
    → is_blank (get_or text at 0) ≡ true → Gaps text (drop (at + 1) text)
Gaps-blank text at g l b =
    let gap : Gap (drop at text) (drop (at + 1) text) =
    subst (λ (t : List ℕ). Gap t (drop (at + 1) text)) (sym (drop_more text at 0 l)) (blank (get_or text at 0) b) in
    Gaps-push g gap

pub Gaps-past : (text rest : List ℕ) (at n : ℕ) → rest ≡ drop at text → Gaps text (drop at text) → n ≤ length rest
    → ((k : ℕ) → k < n → is_blank (get_or rest k 0) ≡ true) → Gaps text (drop (at + n) text)
Gaps-past text rest at n same g l blanks =
    let before : Gaps text rest = subst (Gaps text) (sym same) g in
    let after : drop n rest ≡ drop (at + n) text = ap (drop n) same ∙ drop-drop n at text in
    Gaps-join before (subst (Gaps rest) after (Gaps-blanks rest n l blanks))
