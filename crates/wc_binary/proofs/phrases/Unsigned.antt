-- Reading an integer.
use Rattle.std.proofs.Common.{◌≡◌, ℕ, ◌+◌, ◌-◌, ◌*◌, ◌^◌, ◌<◌, ◌≤◌, List, [], ◌∷◌, ◌++◌, length, Result, Ok, Err, ◌⊎◌}
use Rattle.std.proofs.Common.{inl, inr, refl, sym, ap, ◌∙◌, add-zero, arith}
use Rattle.std.proofs.lemmas.Bool.{cases_lt, lt-ltb, le-ltb}
use Rattle.wc_leb128.specs.Standard.Integers.{U, Begins, IsUnfinished}
use Rattle.wc_leb128.proofs.Laws.Exact.{unfinished-begins}
use Rattle.wc_leb128.proofs.Laws.Spellings.{tail-unfinished}
use Rattle.wc_leb128.proofs.Laws.UnsignedLaws.{MayStand, continues, begins-stands, unfinished-tail}
use Rattle.wc_binary.specs.declared.fault.BinWhy.TheVariants.{End, Integer}
use Rattle.wc_binary.specs.Standard.Phrase.{Halt, halt, StopsInteger, unsigned}
use Rattle.wc_binary.specs.Reading.Reading.{Got, got, fault, ◌and_then◌, unsigned_at}
use Rattle.wc_binary.proofs.phrases.Told.{IsTold}

-- a byte that may stand begins a spelling
stands-begins : (N b : ℕ) → MayStand N b → Begins (U N) (b ∷ [])
stands-begins N b h =
    elim h.either [
      | inl s ↦ ([], b, inl (s.0, s.1, refl, refl))
      | inr s ↦ continues.tail-begins N b [] s.0 s.1 s.2 (unfinished-begins ℕ (U (N - 7)) []
          (continues.nothing-unfinished (N - 7)))
    ]

-- a byte that no spelling has there
module _ (N o b : ℕ) (x : List ℕ) where
  barred : (MayStand N b → ⊥) → StopsInteger (U N) o (b ∷ x) (halt o Integer (o + 1))
  barred bars = (
    [],
    b ∷ x,
    refl,
    continues.nothing-unfinished N,
    inr (
      b,
      x,
      refl,
      λ h. bars (begins-stands N b [] h),
      ap (λ (p : ℕ). halt p Integer (p + 1)) (sym (add-zero o)),
    ),
  )

  pub last : b < 128 → b < 2 ^ N → unsigned_at N o (b ∷ x) ≡ got b (o + 1) x
  last lt fits = rw (lt-ltb b 128 lt, lt-ltb b (2 ^ N) fits) refl

  pub past : b < 128 → 2 ^ N ≤ b → unsigned_at N o (b ∷ x) ≡ fault o Integer (o + 1)
  past lt le = rw (lt-ltb b 128 lt, le-ltb b (2 ^ N) le) refl

  pub on : 128 ≤ b → b < 256 → 7 < N
      → unsigned_at N o (b ∷ x) ≡
      (unsigned_at (N - 7) (o + 1) x and_then λ m. got (128 * m.value + (b - 128)) m.place m.left)
  on le lt more = rw (le-ltb b 128 le, lt-ltb b 256 lt, lt-ltb 7 N more) refl

  pub long : 128 ≤ b → b < 256 → N ≤ 7 → unsigned_at N o (b ∷ x) ≡ fault o Integer (o + 1)
  long le lt few = rw (le-ltb b 128 le, lt-ltb b 256 lt, le-ltb 7 N few) refl

  pub wide : 256 ≤ b → unsigned_at N o (b ∷ x) ≡ fault o Integer (o + 1)
  wide le = let more : 128 ≤ b = omega arith in rw (le-ltb b 128 more, le-ltb b 256 le) refl

  on-told : 128 ≤ b → b < 256 → 7 < N → (r : Result (Got ℕ) Halt) → IsTold (unsigned (N - 7)) (o + 1) x r
      → IsTold (unsigned N) o (b ∷ x) (r and_then λ m. got (128 * m.value + (b - 128)) m.place m.left)
  on-told le lt more (Ok g) h =
      (b ∷ h.0, ap (λ (y : List ℕ). b ∷ y) h.1, inr (le, lt, more, g.value, h.2, refl), omega (arith, h.3))
  on-told le lt more (Err f) h =
      let place : o + 1 + length h.0 ≡ o + length (b ∷ h.0) = omega arith in (
        b ∷ h.0,
        h.1,
        ap (λ (y : List ℕ). b ∷ y) h.2,
        tail-unfinished ℕ U continues N b h.0 le lt more h.3,
        elim h.4 [
          | inl s ↦ inl (s.0, s.1 ∙ ap (λ (p : ℕ). halt p End p) place)
          | inr s ↦ inr (
            s.0,
            s.1,
            s.2,
            λ k. s.3 (continues.begins-tail N b (h.0 ++ s.0 ∷ []) le k),
            s.4
                ∙ ap (λ (p : ℕ). halt p Integer (p + 1)) place,
          )
        ],
      )

pub unsigned-told : (N o : ℕ) (x : List ℕ) → IsTold (unsigned N) o x (unsigned_at N o x)
unsigned-told N o [] =
    ([], [], refl, continues.nothing-unfinished N, inl (refl, ap (λ (p : ℕ). halt p End p) (sym (add-zero o))))
unsigned-told N o (b ∷ x) =
    let ih = unsigned-told (N - 7) (o + 1) x in
    elim (cases_lt b 128) [
      | inl lt ↦ elim (cases_lt b (2 ^ N)) [
        | inl fits ↦ rw (last N o b x lt fits) (b ∷ [], refl, inl (lt, fits, refl, refl), refl)
        | inr le ↦ rw (past N o b x lt le) (barred N o b x (λ s.
            elim s.either [ inl t ↦ omega arith | inr t ↦ omega arith ]))
      ]
      | inr le ↦ elim (cases_lt b 256) [
        | inl lt ↦ elim (cases_lt 7 N) [
          | inl more ↦ rw (on N o b x le lt more) (on-told N o b x le lt more (unsigned_at (N - 7) (o + 1) x) ih)
          | inr few ↦ rw (long N o b x le lt few) (barred N o b x (λ s.
              elim s.either [ inl t ↦ omega arith | inr t ↦ omega arith ]))
        ]
        | inr much ↦ rw (wide N o b x much) (barred N o b x (λ s.
            elim s.either [ inl t ↦ omega arith | inr t ↦ omega arith ]))
      ]
    ]

pub unsigned-spelled : (N o : ℕ) (a y : List ℕ) (v : ℕ) → U N a v → unsigned_at N o (a ++ y) ≡ got v (o + length a) y
unsigned-spelled N o [] y v h = absurd h
unsigned-spelled N o (b ∷ a) y v h =
    elim h [
      | inl s ↦ rw (last N o b (a ++ y) s.0 s.1, s.2, s.3) refl
      | inr s ↦
          let e : o + 1 + length a ≡ o + length (b ∷ a) = omega arith in
          rw (on N o b (a ++ y) s.0 s.1 s.2, unsigned-spelled (N - 7) (o + 1) a y s.3 s.4, s.5, e) refl
    ]

stops_here : (N o : ℕ) (b : ℕ) (z : List ℕ) → (Begins (U N) (b ∷ []) → ⊥)
    → unsigned_at N o (b ∷ z) ≡ fault o Integer (o + 1)
stops_here N o b z bars =
    elim (cases_lt b 128) [
      | inl lt ↦ elim (cases_lt b (2 ^ N)) [
        | inl fits ↦ absurd (bars (stands-begins N b (record { either = inl (lt, fits) })))
        | inr le ↦ past N o b z lt le
      ]
      | inr le ↦ elim (cases_lt b 256) [
        | inl lt ↦ elim (cases_lt 7 N) [
          | inl more ↦ absurd (bars (stands-begins N b (record { either = inr (le, lt, more) })))
          | inr few ↦ long N o b z le lt few
        ]
        | inr much ↦ wide N o b z much
      ]
    ]

-- what stands behind an unfinished spelling
abbrev pub StopsBehind : ℕ → ℕ → List ℕ → List ℕ → Halt → Type 0
StopsBehind N p a y f =
    ((y ≡ []) × (f ≡ halt p End p)) ⊎
    ((b : ℕ) × (z : List ℕ) × (y ≡ b ∷ z) × (Begins (U N) (a ++ b ∷ []) → ⊥) × (f ≡ halt p Integer (p + 1)))

pub unsigned-stopped-at : (N o : ℕ) (a y : List ℕ) (f : Halt) → IsUnfinished (U N) a
    → StopsBehind N (o + length a) a y f → unsigned_at N o (a ++ y) ≡ Err f
unsigned-stopped-at N o [] y f h k =
    elim k [
      | inl s ↦ rw (s.0, s.1, add-zero) refl
      | inr s ↦ rw (s.2, s.4, add-zero) (stops_here N o s.0 s.1 s.3)
    ]
unsigned-stopped-at N o (b ∷ a) y f h k =
    let t = unfinished-tail N b a h in
    let e : o + length (b ∷ a) ≡ o + 1 + length a = omega arith in
    let rest = unsigned-stopped-at (N - 7) (o + 1) a y f t.3 (elim k [
      | inl s ↦ inl (s.0, s.1 ∙ ap (λ (p : ℕ). halt p End p) e)
      | inr s ↦ inr (
        s.0,
        s.1,
        s.2,
        λ g. s.3 (continues.tail-begins N b (a ++ s.0 ∷ []) t.0 t.1 t.2 g),
        s.4
            ∙ ap (λ (p : ℕ). halt p Integer (p + 1)) e,
      )
    ]) in
    rw (on N o b (a ++ y) t.0 t.1 t.2, rest) refl

pub unsigned-stopped : (N o : ℕ) (x : List ℕ) (f : Halt) → StopsInteger (U N) o x f → unsigned_at N o x ≡ Err f
unsigned-stopped N o x f h = rw h.2 (unsigned-stopped-at N o h.0 h.1 f h.3 h.4)
