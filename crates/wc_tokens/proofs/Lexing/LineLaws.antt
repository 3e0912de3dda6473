-- Bytes before a line feed.
use Rattle.std.proofs.Common.{◌≡◌, ◌≢◌, ℕ, zero, suc, ◌+◌, ◌-◌, ◌<◌, ◌≤◌, nat_eq, false, List, [], ◌∷◌, length, take}
use Rattle.std.proofs.Common.{drop, get_or, inl, inr, ap, ◌∙◌, arith}
use Rattle.std.proofs.lemmas.Bool.{cases_lt}
use Rattle.std.proofs.lemmas.Bool.Decides.{nat_tests}
use Rattle.std.proofs.lemmas.List.{get_or-drop}
use Rattle.std.specs.List.{AllByRecursion}
use Rattle.wc_tokens.specs.Reading.Heads.{LineEnds}
use Rattle.wc_tokens.proofs.Decided.HeadLaws.{LineEnds-at}

pub no-feed : (c : ℕ) → nat_eq c 10 ≡ false → c ≢ 10
no-feed c e = λ g. grind (arith, nat_tests)

no-feeds : (text : List ℕ) (n : ℕ) → n ≤ length text → ((k : ℕ) → k < n → get_or text k 0 ≢ 10)
    → AllByRecursion (λ c. c ≢ 10) (take n text)
no-feeds text zero l each = tt
no-feeds [] (suc n) l each = absurd (omega (arith, l))
no-feeds (c ∷ text) (suc n) l each =
    (each 0 (omega arith), no-feeds text n (omega (arith, l)) (λ k less. each (suc k) (omega (arith, less))))

pub no-feeds-past : (text rest : List ℕ) (n m : ℕ) → rest ≡ drop n text → ((k : ℕ) → k < n → get_or text k 0 ≢ 10)
    → ((k : ℕ) → k < m → get_or rest k 0 ≢ 10) → (k : ℕ) → k < n + m → get_or text k 0 ≢ 10
no-feeds-past text rest n m same before behind k less = elim (cases_lt k n) [
  | inl l ↦ before k l
  | inr l ↦
      let place : n + (k - n) ≡ k = omega (arith, l) in
      let byte : get_or rest (k - n) 0 ≡ get_or text k 0 =
      ap (λ (t : List ℕ). get_or t (k - n) 0) same ∙ get_or-drop n text (k - n) 0 ∙ ap (λ i. get_or text i 0) place in
      λ feed. behind (k - n) (omega (arith, l, less)) (byte ∙ feed)
]

pub line-to : (text : List ℕ) (at : ℕ) → at ≤ length text → ((k : ℕ) → k < at → get_or text k 0 ≢ 10)
    → (at < length text → get_or text at 0 ≡ 10) → LineEnds text (take (length text - at) (drop at text))
line-to text at within before ended = LineEnds-at text at (no-feeds text at within before) ended
