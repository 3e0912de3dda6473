-- UTF-8 read byte by byte.
use Rattle.std.proofs.Common.{◌≡◌, ℕ, ◌<◌, ◌≤◌, Bool, true, false, ◌↔◌, IsTrue, IsUtf8, List, [], ◌∷◌, ◌++◌, Option}
use Rattle.std.proofs.Common.{Some, None, is_some}
use Rattle.std.proofs.Common.{◌⊎◌, refl, sym, ap, subst, ◌∙◌, inl, inr, arith}
use Rattle.std.specs.Prelude.{⊤}
use Rattle.std.proofs.lemmas.Bool.{cases_lt}
use Rattle.std.proofs.lemmas.Bool.Decides.{nat_tests}
use Rattle.simdutf8.specs.Steps.{IsContinuation, IsClosed, Step, first, second, later, Steps, least_after}
use Rattle.simdutf8.specs.Steps.{most_after}
use Rattle.simdutf8.specs.Tracks.{last_three}
use Rattle.simdutf8.proofs.Chars.{StepsThen-IsUtf8}
use Rattle.simdutf8.proofs.StepsLemmas.{StepsThen_parts, StepsThen-append}
use Rattle.wc_symbols.specs.declared.utf8.Tail.{Tail}
use Rattle.wc_symbols.specs.Reading.Utf8.{is_closed, may_follow, Tracks}

may-closed : (x y z b : ℕ) → x < 0xf0 → y < 0xe0 → z < 0xc0 → may_follow x y z b ≡ true → Step x y z b
may-closed x y z b h i j t = elim (cases_lt b 0x80) [
  | inl l ↦ first (h, i, j) (inl l)
  | inr l ↦ let m : 0xc0 ≤ b = grind (arith, nat_tests) in first (h, i, j) (inr m)
]

may-second : (x y z b : ℕ) → x < 0xf0 → y < 0xe0 → 0xc0 ≤ z → may_follow x y z b ≡ true → Step x y z b
may-second x y z b h i j t =
    let k : 0xc2 ≤ z = grind (arith, nat_tests) in
    let l : z ≤ 0xf4 = grind (arith, nat_tests) in
    let m : least_after z ≤ b = grind (arith, nat_tests) in
    let n : b ≤ most_after z = grind (arith, nat_tests) in
    second (h, i) (k, l) (m, n)

may-later : (x y z b : ℕ) → (0xf0 ≤ x) ⊎ (0xe0 ≤ y) → may_follow x y z b ≡ true → IsContinuation z × IsContinuation b
may-later x y z b (inl h) t =
    let k : 0x80 ≤ z = grind (arith, nat_tests) in
    let l : z < 0xc0 = grind (arith, nat_tests) in
    let m : 0x80 ≤ b = grind (arith, nat_tests) in
    let n : b < 0xc0 = grind (arith, nat_tests) in
    ((k, l), (m, n))
may-later x y z b (inr h) t =
    let k : 0x80 ≤ z = grind (arith, nat_tests) in
    let l : z < 0xc0 = grind (arith, nat_tests) in
    let m : 0x80 ≤ b = grind (arith, nat_tests) in
    let n : b < 0xc0 = grind (arith, nat_tests) in
    ((k, l), (m, n))

pub may-step : (x y z b : ℕ) → may_follow x y z b ≡ true → Step x y z b
may-step x y z b t = elim (cases_lt x 0xf0) [
  | inl h ↦ elim (cases_lt y 0xe0) [
    | inl i ↦ elim (cases_lt z 0xc0) [ inl j ↦ may-closed x y z b h i j t | inr j ↦ may-second x y z b h i j t ]
    | inr i ↦ let p = may-later x y z b (inr i) t in later (inr i) p.0 p.1
  ]
  | inr h ↦ let p = may-later x y z b (inl h) t in later (inl h) p.0 p.1
]

pub step-may : (x y z b : ℕ) → Step x y z b → may_follow x y z b ≡ true
step-may x y z b (first c (inl l)) = grind (arith, nat_tests)
step-may x y z b (first c (inr l)) = grind (arith, nat_tests)
step-may x y z b (second h k m) = grind (arith, nat_tests)
step-may x y z b (later (inl h) k m) = grind (arith, nat_tests)
step-may x y z b (later (inr h) k m) = grind (arith, nat_tests)

pub closed-is : (x y z : ℕ) → is_closed x y z ≡ true → IsClosed x y z
closed-is x y z t =
    let k : x < 0xf0 = grind (arith, nat_tests) in
    let l : y < 0xe0 = grind (arith, nat_tests) in
    let m : z < 0xc0 = grind (arith, nat_tests) in
    (k, l, m)

pub is-closed : (x y z : ℕ) → IsClosed x y z → is_closed x y z ≡ true
is-closed x y z h = grind (arith, nat_tests)

last-more : (x y z b : ℕ) (bs : List ℕ) → last_three x y z (bs ++ b ∷ [])
    ≡ ((last_three x y z bs).1, (last_three x y z bs).2, b)
last-more x y z b [] = refl
last-more x y z b (c ∷ bs) = last-more y z c b bs

-- ---- what is known after one more byte

abbrev Always : ℕ → ℕ → ℕ → Type 0
Always x y z = ⊤

pub tracks-broken : (read : List ℕ) (b : ℕ) → ¬ (Steps 0 0 0 read) → ¬ (Steps 0 0 0 (read ++ b ∷ []))
tracks-broken read b n h = n ((StepsThen-append Always 0 0 0 read (b ∷ [])).0 h).0

pub tracks-refused : (t : Tail) (read : List ℕ) (b : ℕ) → Tracks (Some t) read
    → may_follow t.first t.second t.third b ≡ false → ¬ (Steps 0 0 0 (read ++ b ∷ []))
tracks-refused t read b k f h =
    let s = ((StepsThen-append Always 0 0 0 read (b ∷ [])).0 h).1 in
    let s' = subst (λ (q : ℕ × ℕ × ℕ). Steps q.0 q.1 q.2 (b ∷ [])) k.1 s in
    let m = step-may t.first t.second t.third b s'.0 in
    absurd cc

pub tracks-more : (t : Tail) (read : List ℕ) (b : ℕ) → Tracks (Some t) read
    → may_follow t.first t.second t.third b ≡ true
    → Tracks (Some (record { first = t.second; second = t.third; third = b })) (read ++ b ∷ [])
tracks-more t read b k f =
    let s : Steps t.first t.second t.third (b ∷ []) = (may-step t.first t.second t.third b f, tt) in
    let s' = subst (λ (q : ℕ × ℕ × ℕ). Steps q.0 q.1 q.2 (b ∷ [])) (sym k.1) s in (
      (StepsThen-append Always 0 0 0 read (b ∷ [])).1 (k.0, s'),
      last-more 0 0 0 b read ∙ ap (λ (q : ℕ × ℕ × ℕ). (q.1, q.2, b)) k.1,
    )

pub whole-none : (read : List ℕ) → ¬ (Steps 0 0 0 read) → ¬ (IsUtf8 read)
whole-none read n u = n ((StepsThen_parts IsClosed 0 0 0 read).0 ((StepsThen-IsUtf8 read).1 u)).0

pub whole-some : (t : Tail) (read : List ℕ) (r : Bool) → Tracks (Some t) read → r ≡ is_closed t.first t.second t.third
    → IsTrue r ↔ IsUtf8 read
whole-some t read r k e = (there, back)
  where
    there : IsTrue r → IsUtf8 read
    there h =
        let c : IsClosed t.first t.second t.third = closed-is t.first t.second t.third (sym e ∙ h) in
        let c' = subst (λ (q : ℕ × ℕ × ℕ). IsClosed q.0 q.1 q.2) (sym k.1) c in
        (StepsThen-IsUtf8 read).0 ((StepsThen_parts IsClosed 0 0 0 read).1 (k.0, c'))

    back : IsUtf8 read → IsTrue r
    back u =
        let c' = ((StepsThen_parts IsClosed 0 0 0 read).0 ((StepsThen-IsUtf8 read).1 u)).1 in
        let c = subst (λ (q : ℕ × ℕ × ℕ). IsClosed q.0 q.1 q.2) k.1 c' in
        e ∙ is-closed t.first t.second t.third c

-- what is broken stays so, whatever follows
pub front-none : (read behind : List ℕ) → ¬ (Steps 0 0 0 read) → ¬ (IsUtf8 (read ++ behind))
front-none read behind n u =
    let all = ((StepsThen_parts IsClosed 0 0 0 (read ++ behind)).0 ((StepsThen-IsUtf8 (read ++ behind)).1 u)).0 in
    n ((StepsThen-append Always 0 0 0 read behind).0 all).0

pub broken-none : (t : Option Tail) (read : List ℕ) → is_some t ≡ false → Tracks t read → ¬ (Steps 0 0 0 read)
broken-none (Some t) read e k = absurd cc
broken-none None read e k = k
