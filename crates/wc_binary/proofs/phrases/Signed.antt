-- Reading a signed integer.
use Rattle.std.proofs.Common.{◌≡◌, ℕ, ◌+◌, ◌-◌, ◌^◌, ◌<◌, ◌≤◌, List, [], ◌∷◌, ◌++◌, length, Result, Ok, Err, ◌⊎◌, inl}
use Rattle.std.proofs.Common.{inr, refl, sym, ap, ◌∙◌, add-zero, arith}
use Rattle.std.specs.Prelude.{ℤ, pos, ◌+ℤ◌, ◌-ℤ◌, ◌*ℤ◌}
use Rattle.std.proofs.lemmas.Bool.{cases_lt, lt-ltb, le-ltb}
use Rattle.wc_leb128.specs.Standard.Integers.{S, Begins, IsUnfinished}
use Rattle.wc_leb128.proofs.Laws.Exact.{unfinished-begins}
use Rattle.wc_leb128.proofs.Laws.Spellings.{tail-unfinished}
use Rattle.wc_leb128.proofs.Laws.SignedLaws.{continues, unfinished-tail}
use Rattle.wc_binary.specs.declared.fault.BinWhy.TheVariants.{End, Integer}
use Rattle.wc_binary.specs.Standard.Phrase.{Halt, halt, StopsInteger, signed}
use Rattle.wc_binary.specs.Reading.Reading.{Got, got, fault, ◌and_then◌, signed_at}
use Rattle.wc_binary.proofs.phrases.Told.{IsTold}

-- the number that a byte with more behind it makes of the rest
abbrev more_of : ℕ → ℤ → ℤ
more_of b m = (pos 128 *ℤ m) +ℤ (pos b -ℤ pos 128)

module _ (N o b : ℕ) (x : List ℕ) where
  low : b < 64 → b < 2 ^ (N - 1) → signed_at N o (b ∷ x) ≡ got (pos b) (o + 1) x
  low lt fits = rw (lt-ltb b 64 lt, lt-ltb b (2 ^ (N - 1)) fits) refl

  low_past : b < 64 → 2 ^ (N - 1) ≤ b → signed_at N o (b ∷ x) ≡ fault o Integer (o + 1)
  low_past lt le = rw (lt-ltb b 64 lt, le-ltb b (2 ^ (N - 1)) le) refl

  high : 64 ≤ b → b < 128 → 128 ≤ b + 2 ^ (N - 1) → signed_at N o (b ∷ x) ≡ got (pos b -ℤ pos 128) (o + 1) x
  high le lt fits = rw (le-ltb b 64 le, lt-ltb b 128 lt, le-ltb (b + 2 ^ (N - 1)) 128 fits) refl

  high_past : 64 ≤ b → b < 128 → b + 2 ^ (N - 1) < 128 → signed_at N o (b ∷ x) ≡ fault o Integer (o + 1)
  high_past le lt few = rw (le-ltb b 64 le, lt-ltb b 128 lt, lt-ltb (b + 2 ^ (N - 1)) 128 few) refl

  on : 128 ≤ b → b < 256 → 7 < N
      → signed_at N o (b ∷ x) ≡ (signed_at (N - 7) (o + 1) x and_then λ m. got (more_of b m.value) m.place m.left)
  on le lt more =
      let up : 64 ≤ b = omega arith in rw (le-ltb b 64 up, le-ltb b 128 le, lt-ltb b 256 lt, lt-ltb 7 N more) refl

  long : 128 ≤ b → b < 256 → N ≤ 7 → signed_at N o (b ∷ x) ≡ fault o Integer (o + 1)
  long le lt few =
      let up : 64 ≤ b = omega arith in rw (le-ltb b 64 up, le-ltb b 128 le, lt-ltb b 256 lt, le-ltb 7 N few) refl

  wide : 256 ≤ b → signed_at N o (b ∷ x) ≡ fault o Integer (o + 1)
  wide le =
      let up : 64 ≤ b = omega arith in
      let more : 128 ≤ b = omega arith in rw (le-ltb b 64 up, le-ltb b 128 more, le-ltb b 256 le) refl

  -- a byte that no spelling has there
  barred : (Begins (S N) (b ∷ []) → ⊥) → StopsInteger (S N) o (b ∷ x) (halt o Integer (o + 1))
  barred bars = (
    [],
    b ∷ x,
    refl,
    continues.nothing-unfinished N,
    inr (b, x, refl, bars, ap (λ (p : ℕ). halt p Integer (p + 1)) (sym (add-zero o))),
  )

  on-told : 128 ≤ b → b < 256 → 7 < N → (r : Result (Got ℤ) Halt) → IsTold (signed (N - 7)) (o + 1) x r
      → IsTold (signed N) o (b ∷ x) (r and_then λ m. got (more_of b m.value) m.place m.left)
  on-told le lt more (Ok g) h =
      (b ∷ h.0, ap (λ (y : List ℕ). b ∷ y) h.1, inr (inr (le, lt, more, g.value, h.2, refl)), omega (arith, h.3))
  on-told le lt more (Err f) h =
      let place : o + 1 + length h.0 ≡ o + length (b ∷ h.0) = omega arith in (
        b ∷ h.0,
        h.1,
        ap (λ (y : List ℕ). b ∷ y) h.2,
        tail-unfinished ℤ S continues N b h.0 le lt more h.3,
        elim h.4 [
          | inl s ↦ inl (s.0, s.1 ∙ ap (λ (p : ℕ). halt p End p) place)
          | inr s ↦ inr (
            s.0,
            s.1,
            s.2,
            λ k. s.3 (continues.begins-tail N b (h.0 ++ s.0 ∷ []) le k),
            s.4
                ∙ ap (λ (p : ℕ). halt p Integer (p + 1)) place,
          )
        ],
      )

-- no spelling begins so
abbrev Bars : ℕ → ℕ → Type 0
Bars N b = Begins (S N) (b ∷ []) → ⊥

bars-low : (N b : ℕ) → b < 64 → 2 ^ (N - 1) ≤ b → Bars N b
bars-low N b lt le h =
    elim h.2 [ inl s ↦ omega (arith, s.1) | inr t ↦ elim t [ inl s ↦ omega (arith, s.0) | inr s ↦ omega (arith, s.0) ] ]

bars-high : (N b : ℕ) → 64 ≤ b → b < 128 → b + 2 ^ (N - 1) < 128 → Bars N b
bars-high N b le lt few h =
    elim h.2 [ inl s ↦ omega (arith, s.0) | inr t ↦ elim t [ inl s ↦ omega (arith, s.2) | inr s ↦ omega (arith, s.0) ] ]

bars-long : (N b : ℕ) → 128 ≤ b → N ≤ 7 → Bars N b
bars-long N b le few h =
    elim h.2 [ inl s ↦ omega (arith, s.0) | inr t ↦ elim t [ inl s ↦ omega (arith, s.1) | inr s ↦ omega (arith, s.2) ] ]

bars-wide : (N b : ℕ) → 256 ≤ b → Bars N b
bars-wide N b le h =
    elim h.2 [ inl s ↦ omega (arith, s.0) | inr t ↦ elim t [ inl s ↦ omega (arith, s.1) | inr s ↦ omega (arith, s.1) ] ]

pub signed-told : (N o : ℕ) (x : List ℕ) → IsTold (signed N) o x (signed_at N o x)
signed-told N o [] =
    ([], [], refl, continues.nothing-unfinished N, inl (refl, ap (λ (p : ℕ). halt p End p) (sym (add-zero o))))
signed-told N o (b ∷ x) =
    let ih = signed-told (N - 7) (o + 1) x in
    elim (cases_lt b 64) [
      | inl lt ↦ elim (cases_lt b (2 ^ (N - 1))) [
        | inl fits ↦ rw (low N o b x lt fits) (b ∷ [], refl, inl (lt, fits, refl, refl), refl)
        | inr le ↦ rw (low_past N o b x lt le) (barred N o b x (bars-low N b lt le))
      ]
      | inr up ↦ elim (cases_lt b 128) [
        | inl lt ↦ elim (cases_lt (b + 2 ^ (N - 1)) 128) [
          | inl few ↦ rw (high_past N o b x up lt few) (barred N o b x (bars-high N b up lt few))
          | inr fits ↦ rw (high N o b x up lt fits) (b ∷ [], refl, inr (inl (up, lt, fits, refl, refl)), refl)
        ]
        | inr le ↦ elim (cases_lt b 256) [
          | inl lt ↦ elim (cases_lt 7 N) [
            | inl more ↦ rw (on N o b x le lt more) (on-told N o b x le lt more (signed_at (N - 7) (o + 1) x) ih)
            | inr few ↦ rw (long N o b x le lt few) (barred N o b x (bars-long N b le few))
          ]
          | inr much ↦ rw (wide N o b x much) (barred N o b x (bars-wide N b much))
        ]
      ]
    ]

pub signed-spelled : (N o : ℕ) (a y : List ℕ) (v : ℤ) → S N a v → signed_at N o (a ++ y) ≡ got v (o + length a) y
signed-spelled N o [] y v h = absurd h
signed-spelled N o (b ∷ a) y v h =
    elim h [
      | inl s ↦ rw (low N o b (a ++ y) s.0 s.1, s.2, s.3) refl
      | inr t ↦ elim t [
        | inl s ↦ rw (high N o b (a ++ y) s.0 s.1 s.2, s.3, s.4) refl
        | inr s ↦
            let e : o + 1 + length a ≡ o + length (b ∷ a) = omega arith in
            rw (on N o b (a ++ y) s.0 s.1 s.2, signed-spelled (N - 7) (o + 1) a y s.3 s.4, s.5, e) refl
      ]
    ]

-- one byte that may stand begins a spelling
stands-low : (N b : ℕ) → b < 64 → b < 2 ^ (N - 1) → Begins (S N) (b ∷ [])
stands-low N b lt fits = ([], pos b, inl (lt, fits, refl, refl))

stands-high : (N b : ℕ) → 64 ≤ b → b < 128 → 128 ≤ b + 2 ^ (N - 1) → Begins (S N) (b ∷ [])
stands-high N b le lt fits = ([], pos b -ℤ pos 128, inr (inl (le, lt, fits, refl, refl)))

stands-more : (N b : ℕ) → 128 ≤ b → b < 256 → 7 < N → Begins (S N) (b ∷ [])
stands-more N b le lt more =
    continues.tail-begins N b [] le lt more (unfinished-begins ℤ (S (N - 7)) [] (continues.nothing-unfinished (N - 7)))

stops_here : (N o : ℕ) (b : ℕ) (z : List ℕ) → Bars N b → signed_at N o (b ∷ z) ≡ fault o Integer (o + 1)
stops_here N o b z bars =
    elim (cases_lt b 64) [
      | inl lt ↦ elim (cases_lt b (2 ^ (N - 1))) [
        | inl fits ↦ absurd (bars (stands-low N b lt fits))
        | inr le ↦ low_past N o b z lt le
      ]
      | inr up ↦ elim (cases_lt b 128) [
        | inl lt ↦ elim (cases_lt (b + 2 ^ (N - 1)) 128) [
          | inl few ↦ high_past N o b z up lt few
          | inr fits ↦ absurd (bars (stands-high N b up lt fits))
        ]
        | inr le ↦ elim (cases_lt b 256) [
          | inl lt ↦ elim (cases_lt 7 N) [
            | inl more ↦ absurd (bars (stands-more N b le lt more))
            | inr few ↦ long N o b z le lt few
          ]
          | inr much ↦ wide N o b z much
        ]
      ]
    ]

-- what stands behind an unfinished spelling
abbrev pub StopsBehind : ℕ → ℕ → List ℕ → List ℕ → Halt → Type 0
StopsBehind N p a y f =
    ((y ≡ []) × (f ≡ halt p End p)) ⊎
    ((b : ℕ) × (z : List ℕ) × (y ≡ b ∷ z) × (Begins (S N) (a ++ b ∷ []) → ⊥) × (f ≡ halt p Integer (p + 1)))

pub signed-stopped-at : (N o : ℕ) (a y : List ℕ) (f : Halt) → IsUnfinished (S N) a → StopsBehind N (o + length a) a y f
    → signed_at N o (a ++ y) ≡ Err f
signed-stopped-at N o [] y f h k =
    elim k [
      | inl s ↦ rw (s.0, s.1, add-zero) refl
      | inr s ↦ rw (s.2, s.4, add-zero) (stops_here N o s.0 s.1 s.3)
    ]
signed-stopped-at N o (b ∷ a) y f h k =
    let t = unfinished-tail N b a h in
    let e : o + length (b ∷ a) ≡ o + 1 + length a = omega arith in
    let rest = signed-stopped-at (N - 7) (o + 1) a y f t.3 (elim k [
      | inl s ↦ inl (s.0, s.1 ∙ ap (λ (p : ℕ). halt p End p) e)
      | inr s ↦ inr (
        s.0,
        s.1,
        s.2,
        λ g. s.3 (continues.tail-begins N b (a ++ s.0 ∷ []) t.0 t.1 t.2 g),
        s.4
            ∙ ap (λ (p : ℕ). halt p Integer (p + 1)) e,
      )
    ]) in
    rw (on N o b (a ++ y) t.0 t.1 t.2, rest) refl

pub signed-stopped : (N o : ℕ) (x : List ℕ) (f : Halt) → StopsInteger (S N) o x f → signed_at N o x ≡ Err f
signed-stopped N o x f h = rw h.2 (signed-stopped-at N o h.0 h.1 f h.3 h.4)
