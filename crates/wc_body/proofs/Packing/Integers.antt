-- An integer is found where its spelling stands, and nowhere else.
use Rattle.std.specs.Prelude.{ℤ, pos, negsuc, ◌-ℤ◌, IfSome, MatchOption, option_map}
use Rattle.std.specs.Borrow.{Bor}
use Rattle.std.proofs.Common.{◌≡◌, ℕ, zero, suc, ◌+◌, ◌-◌, ◌<◌, ◌≤◌, ◌^◌, Bool, true, false}
use Rattle.std.proofs.Common.{List, [], ◌∷◌, ◌++◌, Option, Some, None}
use Rattle.std.proofs.Common.{inl, inr, refl, sym, ap, subst, ◌∙◌, length, nat_lt, arith}
use Rattle.std.proofs.lemmas.Bool.{lt-ltb, le-ltb, ltb-true, ltb-false}
use Rattle.std.proofs.lemmas.Int.{ints}
use mir.Val.{SFits}
use mir.Syntax.{w32}
use Rattle.wc_leb128.specs.Standard.Integers.{U, S, IsAtFront}
use Rattle.wc_leb128.specs.Standard.Shortest.{HoldsSigned}
use Rattle.wc_leb128.proofs.Laws.UnsignedLaws.{spelled-below}
use Rattle.wc_leb128.proofs.Laws.SignedLaws.{spelled-holds}
use Rattle.wc_body.specs.Reading.Fronts.{seen, longer, longer_signed, unsigned_front, signed_front}
use Rattle.wc_body.specs.Reading.Fronts.{labels_front, behind_labels}

pub unsigned-found : (N : ℕ) (a y : List ℕ) (n : ℕ) → U N a n → unsigned_front N (a ++ y) ≡ Some (n, y)
unsigned-found N [] y n h = absurd h
unsigned-found N (b ∷ a) y n (inl s) =
    rw (s.2, s.3, lt-ltb b 128 s.0, lt-ltb b (2 ^ N) s.1) refl
unsigned-found N (b ∷ a) y n (inr s) =
    rw (le-ltb b 128 s.0, lt-ltb b 256 s.1, lt-ltb 7 N s.2, unsigned-found (N - 7) a y s.3 s.4, s.5) refl

pub signed-found : (N : ℕ) (a y : List ℕ) (n : ℤ) → S N a n → signed_front N (a ++ y) ≡ Some (n, y)
signed-found N [] y n h = absurd h
signed-found N (b ∷ a) y n (inl s) =
    rw (s.2, s.3, lt-ltb b 64 s.0, lt-ltb b (2 ^ (N - 1)) s.1) refl
signed-found N (b ∷ a) y n (inr (inl s)) =
    rw (s.3, s.4, le-ltb b 64 s.0, lt-ltb b 128 s.1, le-ltb (b + 2 ^ (N - 1)) 128 s.2) refl
signed-found N (b ∷ a) y n (inr (inr s)) =
    let past : nat_lt b 64 ≡ false = le-ltb b 64 (omega (arith, s.0)) in
    rw (past, le-ltb b 128 s.0, lt-ltb b 256 s.1, lt-ltb 7 N s.2, signed-found (N - 7) a y s.3 s.4, s.5) refl

-- the front is what the relation says
abbrev Told : {A : Type 0} → (List ℕ → A → Type 0) → List ℕ → Option (A × List ℕ) → Type 0
Told Spells x None = Unit {0}
Told Spells x (Some f) = IsAtFront Spells x f.0 f.1

unsigned-told : (N : ℕ) (x : List ℕ) → Told (U N) x (unsigned_front N x)
unsigned-told N [] = tt
unsigned-told N (b ∷ x) = go (nat_lt b 128) (nat_lt b (2 ^ N)) (nat_lt b 256) (nat_lt 7 N) refl refl refl refl
    (unsigned-told (N - 7) x)
  where
    more : 128 - b ≡ 0 → b < 256 → 7 < N → (m : Option (ℕ × List ℕ)) → Told (U (N - 7)) x m
        → Told (U N) (b ∷ x) (option_map (longer b) m)
    more le lt wide None h = tt
    more le lt wide (Some f) h =
        (b ∷ h.0, ap (λ (z : List ℕ). b ∷ z) h.1, inr (omega arith, lt, wide, f.0, h.2, refl))

    go : (p q r s : Bool) → nat_lt b 128 ≡ p → nat_lt b (2 ^ N) ≡ q → nat_lt b 256 ≡ r → nat_lt 7 N ≡ s
        → Told (U (N - 7)) x (unsigned_front (N - 7) x) → Told (U N) (b ∷ x) (unsigned_front N (b ∷ x))
    go true true r s e f g h ih =
        rw (e, f) (b ∷ [], refl, inl (ltb-true b 128 e, ltb-true b (2 ^ N) f, refl, refl))
    go true false r s e f g h ih = rw (e, f) tt
    go false q false s e f g h ih = rw (e, g) tt
    go false q true false e f g h ih = rw (e, g, h) tt
    go false q true true e f g h ih = let le = ltb-false b 128 e in
        rw (e, g, h) (more (omega arith) (ltb-true b 256 g) (ltb-true 7 N h) (unsigned_front (N - 7) x) ih)

signed-told : (N : ℕ) (x : List ℕ) → Told (S N) x (signed_front N x)
signed-told N [] = tt
signed-told N (b ∷ x) =
    go (nat_lt b 64) (nat_lt b (2 ^ (N - 1))) (nat_lt b 128) (nat_lt (b + 2 ^ (N - 1)) 128) (nat_lt b 256)
    (nat_lt 7 N) refl refl refl refl refl refl (signed-told (N - 7) x)
  where
    more : 128 - b ≡ 0 → b < 256 → 7 < N → (m : Option (ℤ × List ℕ)) → Told (S (N - 7)) x m
        → Told (S N) (b ∷ x) (option_map (longer_signed b) m)
    more le lt wide None h = tt
    more le lt wide (Some f) h =
        (b ∷ h.0, ap (λ (z : List ℕ). b ∷ z) h.1, inr (inr (omega arith, lt, wide, f.0, h.2, refl)))

    negative : 64 ≤ b → b < 128 → 128 ≤ b + 2 ^ (N - 1) → Told (S N) (b ∷ x) (Some (pos b -ℤ pos 128, x))
    negative low high within = (b ∷ [], refl, inr (inl (low, high, within, refl, refl)))

    go : (p q r s t u : Bool) → nat_lt b 64 ≡ p → nat_lt b (2 ^ (N - 1)) ≡ q → nat_lt b 128 ≡ r
        → nat_lt (b + 2 ^ (N - 1)) 128 ≡ s → nat_lt b 256 ≡ t → nat_lt 7 N ≡ u
        → Told (S (N - 7)) x (signed_front (N - 7) x) → Told (S N) (b ∷ x) (signed_front N (b ∷ x))
    go true true r s t u e f g h i j ih =
        rw (e, f) (b ∷ [], refl, inl (ltb-true b 64 e, ltb-true b (2 ^ (N - 1)) f, refl, refl))
    go true false r s t u e f g h i j ih = rw (e, f) tt
    go false q true true t u e f g h i j ih = rw (e, g, h) tt
    go false q true false t u e f g h i j ih =
        let is : signed_front N (b ∷ x) ≡ Some (pos b -ℤ pos 128, x) = rw (e, g, h) refl in
        subst (λ m. Told (S N) (b ∷ x) m) (sym is) (negative (ltb-false b 64 e) (ltb-true b 128 g)
        (ltb-false (b + 2 ^ (N - 1)) 128 h))
    go false q false s false u e f g h i j ih = rw (e, g, i) tt
    go false q false s true false e f g h i j ih = rw (e, g, i, j) tt
    go false q false s true true e f g h i j ih = let le = ltb-false b 128 g in
        rw (e, g, i, j) (more (omega arith) (ltb-true b 256 i) (ltb-true 7 N j) (signed_front (N - 7) x) ih)

-- ---- what a search answers that finds just what stands there

-- the same of what a reader answered
abbrev Answers : {A : Type 0} → (List ℕ → A → Type 0) → List ℕ → Option (A × Bor (List ℕ)) → Type 0
Answers {A} Spells x r = (n : A) (y : List ℕ)
    → (IsAtFront Spells x n y → MatchOption r ⊥ (λ f. (f.0 ≡ n) × (f.1.now ≡ y)))
    × (MatchOption r ⊥ (λ f. (f.0 ≡ n) × (f.1.now ≡ y)) → IsAtFront Spells x n y)

module _ {A : Type 0} (Spells : List ℕ → A → Type 0) (front : List ℕ → Option (A × List ℕ))
    (told : (x : List ℕ) → Told Spells x (front x))
    (found : (a y : List ℕ) (n : A) → Spells a n → front (a ++ y) ≡ Some (n, y)) where
  same-some : (x : List ℕ) (r : Option (A × Bor (List ℕ))) (n : A) (y : List ℕ)
      → MatchOption r ⊥ (λ f. (f.0 ≡ n) × (f.1.now ≡ y)) → option_map seen r ≡ Some (n, y)
  same-some x None n y h = absurd h
  same-some x (Some f) n y h = rw (h.0, h.1) refl

  same-none : (x : List ℕ) (r : Option (A × Bor (List ℕ))) → Answers Spells x r → front x ≡ None
      → option_map seen r ≡ None
  same-none x None h e = refl
  same-none x (Some f) h e =
      let k = (h f.0 f.1.now).1 (refl, refl) in
      let no : front x ≡ Some (f.0, f.1.now) = ap front k.1 ∙ found k.0 f.1.now f.0 k.2 in
      absurd (let t = sym e ∙ no in cc)

  same : (x : List ℕ) (r : Option (A × Bor (List ℕ))) → Answers Spells x r → option_map seen r ≡ front x
  same x r h = go (front x) refl (told x)
    where
      go : (m : Option (A × List ℕ)) → front x ≡ m → Told Spells x m → option_map seen r ≡ front x
      go None e t = same-none x r h e ∙ sym e
      go (Some f) e t = same-some x r f.0 f.1 ((h f.0 f.1).0 t) ∙ sym e

pub unsigned-same : (N : ℕ) (x : List ℕ) (r : Option (ℕ × Bor (List ℕ))) → Answers (U N) x r
    → option_map seen r ≡ unsigned_front N x
unsigned-same N x r h = same (U N) (unsigned_front N) (unsigned-told N) (unsigned-found N) x r h

pub signed-same : (N : ℕ) (x : List ℕ) (r : Option (ℤ × Bor (List ℕ))) → Answers (S N) x r
    → option_map seen r ≡ signed_front N x
signed-same N x r h = same (S N) (signed_front N) (signed-told N) (signed-found N) x r h

-- what a reader of the front answered stands there
pub signed-stands : (N : ℕ) (x : List ℕ) (r : Option (ℤ × Bor (List ℕ))) → option_map seen r ≡ signed_front N x
    → IfSome r (λ f. IsAtFront (S N) x f.0 f.1.now)
signed-stands N x None e = tt
signed-stands N x (Some f) e = subst (λ m. Told (S N) x m) (sym e) (signed-told N x)

-- what is found fits its width
pub unsigned-held : (N : ℕ) (x : List ℕ) (r : Option (ℕ × Bor (List ℕ))) (f : ℕ × Bor (List ℕ)) → Answers (U N) x r
    → r ≡ Some f → f.0 < 2 ^ N
unsigned-held N x r f h e =
    let k = (rw e at h f.0 f.1.now).1 (refl, refl) in
    spelled-below N k.0 f.0 k.2

pub signed-held : (N : ℕ) (x : List ℕ) (r : Option (ℤ × Bor (List ℕ))) (f : ℤ × Bor (List ℕ)) → Answers (S N) x r
    → r ≡ Some f → HoldsSigned N f.0
signed-held N x r f h e =
    let k = (rw e at h f.0 f.1.now).1 (refl, refl) in
    spelled-holds N k.0 f.0 k.2

pub signed-holds : (N : ℕ) (x : List ℕ) (r : Option (ℤ × Bor (List ℕ))) → Answers (S N) x r
    → IfSome r (λ f. HoldsSigned N f.0)
signed-holds N x None h = tt
signed-holds N x (Some f) h = signed-held N x (Some f) f h refl

pub held-word : (z : ℤ) → HoldsSigned 32 z → SFits w32 z
held-word (pos n) h = record { sfits = omega (arith, ints, h.1) }
held-word (negsuc n) h = record { sfits = omega (arith, ints, h.0) }

-- ---- labels one by one

pub label-passed : (k i n : ℕ) (x y : List ℕ) → i < k → unsigned_front 32 x ≡ Some (n, y)
    → behind_labels (k - (i + 1)) y ≡ behind_labels (k - i) x
label-passed k i n x y lt e =
    let more : k - i ≡ suc (k - (i + 1)) = omega arith in
    rw (more, e) refl

-- where so many labels are passed, so many are there
pub labels-all : (k : ℕ) (x y : List ℕ) → behind_labels k x ≡ Some y → length (labels_front k x) ≡ k
labels-all zero x y e = refl
labels-all (suc k) x y e = go (unsigned_front 32 x) refl (λ z h. labels-all k z y h)
  where
    go : (m : Option (ℕ × List ℕ)) → unsigned_front 32 x ≡ m
        → ((z : List ℕ) → behind_labels k z ≡ Some y → length (labels_front k z) ≡ k)
        → length (labels_front (suc k) x) ≡ suc k
    go None h ih = absurd (let no = rw h at e in cc)
    go (Some n) h ih = rw h (ap suc (ih n.1 (rw h at e)))
