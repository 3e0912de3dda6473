-- Reading answers what a phrase's relations say, for each way of building; so the laws hold of every phrase.
use Rattle.std.proofs.Common.{◌≡◌, Bool, true, false, if◌then◌else◌, ℕ, ◌+◌, ◌-◌, List, [], ◌∷◌, ◌++◌, length, Option}
use Rattle.std.proofs.Common.{Some, None, Result, Ok, Err, inl, inr, refl, sym, ap, subst, ◌∙◌, append_assoc, add_assoc}
use Rattle.std.proofs.Common.{add-zero, arith}
use Rattle.std.proofs.lemmas.List.{length-append}
use Rattle.std.specs.Prelude.{ℤ}
use Rattle.wc_leb128.specs.Standard.Integers.{S}
use Rattle.wc_binary.specs.declared.fault.BinWhy.{BinWhy}
use Rattle.wc_binary.specs.Standard.Phrase.{Halt, halt, Phrase, gives, byte, unsigned, signed, ◌>>=◌, judged, measured}
use Rattle.wc_binary.specs.Standard.Phrase.{byte_or_signed, neat, expression, Spells, Stops, StopsEither}
use Rattle.wc_binary.specs.Reading.Reading.{Got, got, ◌and_then◌, byte_or, byte_at, signed_at, either_at, judge_at}
use Rattle.wc_binary.specs.Reading.Reading.{read}
use Rattle.wc_binary.proofs.phrases.Told.{IsTold}
use Rattle.wc_binary.proofs.phrases.Signed.{signed-told, signed-spelled, signed-stopped}
use Rattle.wc_binary.proofs.phrases.Expressions.{expression-told, expression-spelled, expression-stopped}
use Rattle.wc_binary.proofs.phrases.Unsigned.{unsigned-told, unsigned-spelled, unsigned-stopped}

byte_or-told : {A : Type 0} (table : ℕ → Result A BinWhy) (o b : ℕ) (x : List ℕ) (r : Result A BinWhy) → table b ≡ r
    → IsTold (byte table) o (b ∷ x) (byte_or o x r)
byte_or-told table o b x (Ok v) e = (b ∷ [], refl, (b, refl, e), refl)
byte_or-told table o b x (Err r) e = (r, e, refl)

byte-told : {A : Type 0} (table : ℕ → Result A BinWhy) (o : ℕ) (x : List ℕ)
    → IsTold (byte table) o x (byte_at table o x)
byte-told table o [] = refl
byte-told table o (b ∷ x) = byte_or-told table o b x (table b) refl

module _ {A B : Type 0} (p : Phrase A) (f : A → Phrase B) (o : ℕ) (x : List ℕ) where
  second-told : (g : Got A) → IsTold p o x (Ok g) → (r : Result (Got B) Halt) → IsTold (f g.value) g.place g.left r
      → IsTold (p >>= f) o x r
  second-told g h (Ok w) k = (
    h.0 ++ k.0,
    rw (append_assoc, ← k.1) h.1,
    (h.0, k.0, g.value, refl, h.2, k.2),
    omega (arith, length-append h.0 k.0, h.3, k.3),
  )
  second-told g h (Err e) k =
      inr (h.0, g.left, g.value, h.1, h.2, subst (λ (q : ℕ). Stops (f g.value) q g.left e) h.3 k)

  then-told : (r : Result (Got A) Halt) → IsTold p o x r
      → ((g : Got A) → IsTold (f g.value) g.place g.left (read (f g.value) g.place g.left))
      → IsTold (p >>= f) o x (r and_then λ u. read (f u.value) u.place u.left)
  then-told (Ok g) h k = second-told g h (read (f g.value) g.place g.left) (k g)
  then-told (Err e) h k = inl h

module _ {A : Type 0} (p : Phrase A) (judge : A → Option (ℕ × BinWhy)) (o : ℕ) (x : List ℕ) where
  judge-told : (g : Got A) → IsTold p o x (Ok g) → (j : Option (ℕ × BinWhy)) → judge g.value ≡ j
      → IsTold (judged p judge) o x (judge_at o j g)
  judge-told g h None e = (h.0, h.1, (h.2, e), h.3)
  judge-told g h (Some w) e = inr (h.0, g.left, g.value, w, h.1, h.2, e, ap (λ (t : ℕ). halt (o + w.0) w.1 t) h.3)

  judged-told : (r : Result (Got A) Halt) → IsTold p o x r
      → IsTold (judged p judge) o x (r and_then λ u. judge_at o (judge u.value) u)
  judged-told (Ok g) h = judge-told g h (judge g.value) refl
  judged-told (Err e) h = inl h

measured-told : {A : Type 0} (p : Phrase A) (o : ℕ) (x : List ℕ) (r : Result (Got A) Halt) → IsTold p o x r
    → IsTold (measured p) o x (r and_then λ u. got (u.place - o, u.value) u.place u.left)
measured-told p o x (Ok g) h =
    let n : g.place - o ≡ length h.0 = omega (arith, h.3) in
    (h.0, h.1, (g.value, h.2, ap (λ (k : ℕ). (k, g.value)) n), h.3)
measured-told p o x (Err e) h = h

-- one byte, or an integer
module _ {A : Type 0} (test : ℕ → Bool) (table : ℕ → Result A BinWhy) (N : ℕ) (make : ℤ → A) where
  short-told : (o b : ℕ) (x : List ℕ) → test b ≡ true → (r : Result A BinWhy) → table b ≡ r
      → IsTold (byte_or_signed test table N make) o (b ∷ x) (byte_or o x r)
  short-told o b x e (Ok v) t = (b ∷ [], refl, (b, [], refl, inl (e, refl, t)), refl)
  short-told o b x e (Err r) t = inl (e, r, t, refl)

  whole-told : (o b : ℕ) (x : List ℕ) → test b ≡ false → (r : Result (Got ℤ) Halt) → IsTold (signed N) o (b ∷ x) r
      → IsTold (byte_or_signed test table N make) o (b ∷ x) (r and_then λ m. got (make m.value) m.place m.left)
  whole-told o b x e (Ok g) h = go h.0 h.1 h.2 h.3
    where
      go : (c : List ℕ) → b ∷ x ≡ c ++ g.left → S N c g.value → g.place ≡ o + length c
          → IsTold (byte_or_signed test table N make) o (b ∷ x) (got (make g.value) g.place g.left)
      go [] s k p = absurd k
      go (y ∷ c) s k p = let same : b ≡ y = cc in (y ∷ c, s, (y, c, refl, inr (rw same at e, g.value, k, refl)), p)
  whole-told o b x e (Err f) h = inr (e, h)

  either-told : (o : ℕ) (x : List ℕ) → IsTold (byte_or_signed test table N make) o x (either_at test table N make o x)
  either-told o [] = refl
  either-told o (b ∷ x) = go (test b) refl
    where
      go : (t : Bool) → test b ≡ t
          → IsTold (byte_or_signed test table N make) o (b ∷ x)
          (if t then byte_or o x (table b) else (signed_at N o (b ∷ x) and_then λ m. got (make m.value) m.place m.left))
      go true e = short-told o b x e (table b) refl
      go false e = whole-told o b x e (signed_at N o (b ∷ x)) (signed-told N o (b ∷ x))

  either-spelled : (o : ℕ) (a y : List ℕ) (v : A) → Spells (byte_or_signed test table N make) a v
      → either_at test table N make o (a ++ y) ≡ got v (o + length a) y
  either-spelled o a y v h =
      let split = h.2 in
      elim h.3 [
        | inl s ↦ rw (split, s.1, s.0, s.2) refl
        | inr s ↦ rw split (rw (s.0, signed-spelled N o (h.0 ∷ h.1) y s.1 s.2, s.3) refl)
      ]

  either-stopped : (o : ℕ) (x : List ℕ) (f : Halt) → StopsEither test table N o x f
      → either_at test table N make o x ≡ Err f
  either-stopped o [] f h = rw h refl
  either-stopped o (b ∷ x) f (inl h) = rw (h.0, h.2, h.3) refl
  either-stopped o (b ∷ x) f (inr h) = rw (h.0, signed-stopped N o (b ∷ x) f h.1) refl

neat-told : {A : Type 0} (p : Phrase A) (Q : A → Type 0) (o : ℕ) (x : List ℕ) (r : Result (Got A) Halt) → IsTold p o x r
    → IsTold (neat p Q) o x r
neat-told p Q o x (Ok g) h = (h.0, h.1, (h.2, tt), h.3)
neat-told p Q o x (Err e) h = h

-- what is read is spelled so, and where reading stops the phrase stops
pub read-told : {A : Type 0} (p : Phrase A) (o : ℕ) (x : List ℕ) → IsTold p o x (read p o x)
read-told (gives v) o x = ([], refl, (refl, refl), omega arith)
read-told (byte table) o x = byte-told table o x
read-told (unsigned N) o x = unsigned-told N o x
read-told (signed N) o x = signed-told N o x
read-told (p >>= f) o x = then-told p f o x (read p o x) (read-told p o x) (λ g. read-told (f g.value) g.place g.left)
read-told (judged p judge) o x = judged-told p judge o x (read p o x) (read-told p o x)
read-told (measured p) o x = measured-told p o x (read p o x) (read-told p o x)
read-told (byte_or_signed test table N make) o x = either-told test table N make o x
read-told (neat p Q) o x = neat-told p Q o x (read p o x) (read-told p o x)
read-told (expression table f h) o x =
    expression-told table f h (λ u q y. read-told (f u) q y) (λ q y. read-told h q y) o x

-- what is spelled is read, whatever follows
pub spells-read : {A : Type 0} (p : Phrase A) (o : ℕ) (a y : List ℕ) (v : A) → Spells p a v
    → read p o (a ++ y) ≡ got v (o + length a) y
spells-read (gives w) o a y v h = rw (h.0, h.1, add-zero) refl
spells-read (byte table) o a y v h = rw (h.1, h.2) refl
spells-read (unsigned N) o a y v h = unsigned-spelled N o a y v h
spells-read (signed N) o a y v h = signed-spelled N o a y v h
spells-read (◌>>=◌ {A} p f) o a y v h =
    let first : read p o (h.0 ++ (h.1 ++ y)) ≡ got h.2 (o + length h.0) (h.1 ++ y) = spells-read p o h.0
    (h.1 ++ y) h.2 h.4 in
    let second : read (f h.2) (o + length h.0) (h.1 ++ y) ≡ got v (o + length h.0 + length h.1) y = spells-read (f h.2)
    (o + length h.0) h.1 y v h.5 in
    rw (h.3, append_assoc, first, second, length-append, add_assoc) refl
spells-read (judged p judge) o a y v h = rw (spells-read p o a y v h.0, h.1) refl
spells-read (measured p) o a y v h =
    let n : o + length a - o ≡ length a = omega arith in
    rw (spells-read p o a y h.0 h.1, n, h.2) refl
spells-read (byte_or_signed test table N make) o a y v h = either-spelled test table N make o a y v h
spells-read (neat p Q) o a y v h = spells-read p o a y v h.0
spells-read (expression table f h) o a y v k =
    expression-spelled table f h (λ u q b z w s. spells-read (f u) q b z w s)
    (λ q b z w s. spells-read h q b z w s) o a y v k

-- where the phrase stops, reading stops
pub stops-read : {A : Type 0} (p : Phrase A) (o : ℕ) (x : List ℕ) (f : Halt) → Stops p o x f → read p o x ≡ Err f
stops-read (gives w) o x f h = absurd h
stops-read (byte table) o [] f h = rw h refl
stops-read (byte table) o (b ∷ x) f h = rw (h.1, h.2) refl
stops-read (unsigned N) o x f h = unsigned-stopped N o x f h
stops-read (signed N) o x f h = signed-stopped N o x f h
stops-read (p >>= k) o x f h =
    elim h [
      | inl s ↦ rw (stops-read p o x f s) refl
      | inr s ↦ rw (s.3, spells-read p o s.0 s.1 s.2 s.4, stops-read (k s.2) (o + length s.0) s.1 f s.5) refl
    ]
stops-read (judged p judge) o x f h =
    elim h [
      | inl s ↦ rw (stops-read p o x f s) refl
      | inr s ↦ rw (s.4, spells-read p o s.0 s.1 s.2 s.5, s.6, s.7) refl
    ]
stops-read (measured p) o x f h = rw (stops-read p o x f h) refl
stops-read (byte_or_signed test table N make) o x f h = either-stopped test table N make o x f h
stops-read (neat p Q) o x f h = stops-read p o x f h
stops-read (expression table p h) o x f k =
    expression-stopped table p h (λ u q b z w s. spells-read (p u) q b z w s) (λ q b z w s. spells-read h q b z w s)
    (λ u q z t s. stops-read (p u) q z t s) (λ q z t s. stops-read h q z t s) o x f k

-- ---- the laws

got-same : {A : Type 0} (v w : A) (o p : ℕ) (x y : List ℕ) → got v o x ≡ got w p y → (v ≡ w) × (o ≡ p) × (x ≡ y)
got-same {A} v w o p x y e =
    let g : Got A = record { value = v; place = o; left = x } in
    let k : Got A = record { value = w; place = p; left = y } in
    let same : g ≡ k = cc in
    (ap (λ (z : Got A). z.value) same, ap (λ (z : Got A). z.place) same, ap (λ (z : Got A). z.left) same)

abbrev halted : {A : Type 0} → Halt → Result (Got A) Halt
halted f = Err f

same_front : (a b x : List ℕ) → a ++ x ≡ b ++ x → length a ≡ length b → a ≡ b
same_front [] [] x e n = refl
same_front [] (d ∷ b) x e n = absurd (omega arith)
same_front (c ∷ a) [] x e n = absurd (omega arith)
same_front (c ∷ a) (d ∷ b) x e n =
    let tails : a ++ x ≡ b ++ x = cc in
    let r = same_front a b x tails (omega arith) in
    let heads : c ≡ d = cc in
    cc

-- one value, and no spelling begins another
pub one-spelled : {A : Type 0} (p : Phrase A) (a b x y : List ℕ) (v w : A) → Spells p a v → Spells p b w
    → a ++ x ≡ b ++ y → (a ≡ b) × (v ≡ w)
one-spelled p a b x y v w h k e =
    let same : got v (0 + length a) x ≡ got w (0 + length b) y = sym (spells-read p 0 a x v h) ∙ ap (read p 0) e
    ∙ spells-read p 0 b y w k in
    let s = got-same v w (0 + length a) (0 + length b) x y same in
    let f : a ++ y ≡ b ++ y = rw s.2 at e in
    (same_front a b y f (omega arith), s.0)

-- what is spelled doesn't stop
pub spelled-or-stopped : {A : Type 0} (p : Phrase A) (o : ℕ) (a x : List ℕ) (v : A) (f : Halt) → Spells p a v
    → Stops p o (a ++ x) f → ⊥
spelled-or-stopped p o a x v f h k =
    let e : got v (o + length a) x ≡ Err f = sym (spells-read p o a x v h) ∙ stops-read p o (a ++ x) f k in
    cc

-- one place and one reason
pub one-stop : {A : Type 0} (p : Phrase A) (o : ℕ) (x : List ℕ) (f g : Halt) → Stops p o x f → Stops p o x g → f ≡ g
one-stop {A} p o x f g h k =
    let e : halted {A = A} f ≡ halted g = sym (stops-read p o x f h) ∙ stops-read p o x g k in
    cc
