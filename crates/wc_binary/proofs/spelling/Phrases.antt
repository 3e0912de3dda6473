-- Ways of building, and the canonical bytes of what they build.
use Rattle.std.proofs.Common.{◌≡◌, ℕ, zero, suc, ◌^◌, ◌<◌, Bool, true, false, nat_eq, List, [], ◌∷◌, ◌++◌, length}
use Rattle.std.proofs.Common.{Option, Some, None, Result, Ok, if◌then◌else◌, refl, sym, ap, subst, ◌∙◌, eq-eqb}
use Rattle.std.specs.List.{AllByRecursion, flat_map}
use Rattle.std.proofs.lemmas.List.{append-nil}
use Rattle.std.proofs.lemmas.Bool.{eqb-true}
use Rattle.wc_binary.specs.declared.fault.BinWhy.{BinWhy}
use Rattle.wc_leb128.specs.Standard.Integers.{U}
use Rattle.wc_leb128.specs.Writing.Bytes.{unsigned_bytes}
use Rattle.wc_leb128.proofs.Writing.UnsignedShortest.{unsigned_bytes-spelled, unsigned_bytes-least}
use Rattle.wc_binary.specs.Standard.Style.{Style, canonical, IsShortest}
use Rattle.wc_binary.specs.Standard.Phrase.{Phrase, gives, byte, ◌>>=◌, SpellsBy}
use Rattle.wc_binary.specs.Standard.Values.{times, u32, vector, only, sized}
use Rattle.wc_body.specs.Standard.ValueBytes.{vector_bytes, Fits32, FitsVector}
use Rattle.wc_binary.specs.Writing.Values.{sized_bytes, FitsSized, Anything}
use Rattle.wc_binary.proofs.spelling.Judging.{Judges, HasBytes}

shortest-is : (n : ℕ) → n < 2 ^ 32 → IsShortest U 32 (unsigned_bytes n) n
shortest-is n lt = (unsigned_bytes-spelled 32 n lt, unsigned_bytes-least 32 n)

abbrev pub of : {A : Type 0} → Phrase A → Style → List ℕ → A → Type 0
of {A} p s b v = SpellsBy s {A = A} p b v

-- the same in other words
pub writes-as : {A : Type 0} (R : Style → List ℕ → A → Type 0) (fit fit2 : A → Type 0) (w w2 : A → List ℕ)
    → HasBytes R fit w
    → ((v : A) → fit v → fit2 v) → ((v : A) → fit2 v → fit v) → ((v : A) → w v ≡ w2 v) → HasBytes R fit2 w2
writes-as R fit fit2 w w2 h to back same = record {
  written = λ v f. subst (λ (b : List ℕ). R canonical b v) (same v) (h.written v (back v f));
  told = λ s V j b v r. let t = h.told s V j b v r in (to v t.0, subst (λ (c : List ℕ). V b c) (same v) t.1);
}

pub u32-writes : HasBytes (of u32) Fits32 unsigned_bytes
unfolding u32
u32-writes = record {
  written = λ n lt. shortest-is n lt;
  told = λ s V j b n h. j.integer b n h;
}

-- a part, and one that may depend on its value, which the whole's value tells
module _ {A B : Type 0} (p : Phrase A) (f : A → Phrase B) (fit : A → Type 0) (w : A → List ℕ) (fits : A → B → Type 0)
    (ws : A → B → List ℕ) (back : B → A)
    (first : HasBytes (of p) fit w) (second : (u : A) → HasBytes (of (f u)) (fits u) (ws u))
    (back-is : (s : Style) (u : A) (b : List ℕ) (v : B) → SpellsBy s (f u) b v → u ≡ back v) where
  pub then-writes : HasBytes (of (p >>= f)) (λ v. fit (back v) × fits (back v) v) (λ v. w (back v) ++ ws (back v) v)
  then-writes = record {
    written =
        λ v h. (w (back v), ws (back v) v, back v, refl, first.written (back v) h.0, (second (back v)).written v h.1);
    told = λ s V j b v h.
        let e = back-is s h.2 h.1 v h.5 in
        let x = first.told s V j h.0 h.2 h.4 in
        let y = (second h.2).told s V j h.1 v h.5 in
        let whole = j.join h.0 h.1 (w h.2) (ws h.2 v) x.1 y.1 in
        let split = h.3 in
        rw (split, ← e) ((x.0, y.0), whole);
  }

module _ {A : Type 0} (p : Phrase A) (fit : A → Type 0) (w : A → List ℕ) (writes : HasBytes (of p) fit w) where
  -- a part, and another way to see its value
  pub seen-writes : {B : Type 0} (make : A → B) (back : B → A) → ((u : A) → back (make u) ≡ u)
      → HasBytes (of (p >>= λ u. gives (make u))) (λ v. fit (back v) × (v ≡ make (back v))) (λ v. w (back v))
  seen-writes {B} make back same = record {
    written = λ v h. (w (back v), [], back v, sym (append-nil (w (back v))), writes.written (back v) h.0, (refl, h.1));
    told = λ s V j b v h.
        let x = writes.told s V j h.0 h.2 h.4 in
        let v-is : v ≡ make h.2 = h.5.1 in
        let u-is : back v ≡ h.2 = ap back v-is ∙ same h.2 in
        let bytes : b ≡ h.0 = rw (h.3, h.5.0, append-nil) refl in
        rw (bytes, u-is) ((x.0, v-is), x.1);
  }

  times-written : (vs : List A) → AllByRecursion fit vs → SpellsBy canonical (times (length vs) p) (flat_map w vs) vs
  times-written [] h = (refl, refl)
  times-written (v ∷ vs) h = (
    w v,
    flat_map w vs,
    v,
    refl,
    writes.written v h.0,
    (flat_map w vs, [], vs, sym (append-nil (flat_map w vs)), times-written vs h.1, (refl, refl)),
  )

  times-told : (s : Style) (V : List ℕ → List ℕ → Type 0) → Judges s V → (n : ℕ) (b : List ℕ) (vs : List A)
      → SpellsBy s (times n p) b vs → (n ≡ length vs) × AllByRecursion fit vs × V b (flat_map w vs)
  times-told s V j zero b vs h = let e = h.1 in rw (e, h.0) (refl, tt, j.same [])
  times-told s V j (suc n) b vs h =
      let first = writes.told s V j h.0 h.2 h.4 in
      let k = h.5 in
      let rest = times-told s V j n k.0 k.2 k.4 in
      let e : vs ≡ h.2 ∷ k.2 = k.5.1 in
      let bytes : b ≡ h.0 ++ k.0 = rw (h.3, k.3, k.5.0, append-nil) refl in
      rw (e, bytes) (ap suc rest.0, (first.0, rest.1), j.join h.0 k.0 (w h.2) (flat_map w k.2) first.1 rest.2)

  pub vector-writes : HasBytes (of (vector p)) (FitsVector fit) (vector_bytes w)
  unfolding vector
  vector-writes = record {
    written =
        λ vs h. (
          unsigned_bytes (length vs),
          flat_map w vs,
          length vs,
          refl,
          u32-writes.written (length vs) h.0,
          times-written vs h.1,
        );
    told = λ s V j b vs h.
        let n = u32-writes.told s V j h.0 h.2 h.4 in
        let t = times-told s V j h.2 h.1 vs h.5 in
        let long = t.0 in
        let whole = j.join h.0 h.1 (unsigned_bytes h.2) (flat_map w vs) n.1 t.2 in
        ((rw long at n.0, t.1), rw h.3 (rw long at whole));
  }

abbrev no_fault : Option (ℕ × BinWhy)
no_fault = None

equal-sizes : (m n : ℕ) (why : BinWhy) → (if nat_eq m n then None else Some (0, why)) ≡ no_fault → m ≡ n
equal-sizes m n why h = go (nat_eq m n) refl
  where
    go : (b : Bool) → nat_eq m n ≡ b → m ≡ n
    go true e = eqb-true m n e
    go false e = let f = rw e at h in absurd cc

-- a size, and content of that size
module _ {A : Type 0} (p : Phrase A) (fit : A → Type 0) (w : A → List ℕ) (writes : HasBytes (of p) fit w)
    (why : BinWhy) where
  pub sized-writes : HasBytes (of (sized why p)) (FitsSized w fit) (λ v. sized_bytes (w v))
  unfolding sized u32
  sized-writes = record {
    written = λ v h.
        let b = w v in
        let size : (if nat_eq (length b) (length b) then None else Some (0, why)) ≡ no_fault =
        rw (eq-eqb (length b) (length b) refl) refl in (
          unsigned_bytes (length b) ++ b,
          [],
          (length b, (length b, v)),
          sym (append-nil (unsigned_bytes (length b) ++ b)),
          (
            (
              unsigned_bytes (length b),
              b,
              length b,
              refl,
              shortest-is (length b) h.0,
              (b, [], (length b, v), sym (append-nil b), (v, writes.written v h.1, refl), (refl, refl)),
            ),
            size,
          ),
          (refl, refl),
        );
    told = λ s V j b v h.
        let inner = h.4.0 in
        let k = inner.5 in
        let m = k.4 in
        let c = writes.told s V j k.0 m.0 m.1 in
        let size = equal-sizes (h.2).1.0 (h.2).0 why h.4.1 in
        let u-is : h.2 ≡ (inner.2, k.2) = k.5.1 in
        let m-is : k.2 ≡ (length k.0, m.0) = m.2 in
        let value : v ≡ m.0 = h.5.1 ∙ ap (λ (u : ℕ × (ℕ × A)). u.1.1) u-is ∙ ap (λ (u : ℕ × A). u.1) m-is in
        let n-is : inner.2 ≡ length k.0 = sym (ap (λ (u : ℕ × (ℕ × A)). u.0) u-is) ∙ sym size
        ∙ ap (λ (u : ℕ × (ℕ × A)). u.1.0) u-is ∙ ap (λ (u : ℕ × A). u.0) m-is in
        let z = j.size inner.0 k.0 (w m.0) (rw n-is at inner.4) c.1 in
        let whole : b ≡ inner.0 ++ k.0 = rw (h.3, h.5.0, append-nil, inner.3, k.3, k.5.0, append-nil) refl in
        rw (value, whole) ((z.0, c.0), z.1);
  }

pub only-is : (b : ℕ) (why : BinWhy) (x : ℕ) (u : Unit {0}) → only b why x ≡ Ok u → x ≡ b
only-is b why x u h = go (nat_eq x b) refl
  where
    go : (c : Bool) → nat_eq x b ≡ c → x ≡ b
    go true e = eqb-true x b e
    go false e = let f = rw e at h in absurd cc

pub only-writes : (x : ℕ) (why : BinWhy) → HasBytes (of (byte (only x why))) Anything (λ _. x ∷ [])
only-writes x why = record {
  written = λ u h. (x, refl, rw (eq-eqb x x refl) refl);
  told = λ s V j b u h. (tt, j.equal b (x ∷ []) (h.1 ∙ ap (λ (y : ℕ). y ∷ []) (only-is x why h.0 u h.2)));
}

-- one byte of a table
pub byte-writes : {A : Type 0} (table : ℕ → Result A BinWhy) (w : A → List ℕ)
    → ((v : A) → SpellsBy canonical (byte table) (w v) v) → ((x : ℕ) (v : A) → table x ≡ Ok v → x ∷ [] ≡ w v)
    → HasBytes (of (byte table)) Anything w
byte-writes table w there back = record {
  written = λ v h. there v;
  told = λ s V j b v h. (tt, j.equal b (w v) (h.1 ∙ back h.0 v h.2));
}

-- a part, and the value that is made of it
module _ {A B : Type 0} (p : Phrase A) (fit : A → Type 0) (w : A → List ℕ) (make : A → B) (Fits : B → Type 0)
    (bytes : B → List ℕ) (writes : HasBytes (of p) fit w) (fits : (u : A) → fit u → Fits (make u))
    (same : (u : A) → bytes (make u) ≡ w u) (back : (v : B) → Fits v → (u : A) × (v ≡ make u) × fit u) where
  pub made-writes : HasBytes (of (p >>= λ u. gives (make u))) Fits bytes
  made-writes = record {
    written = λ v f.
        let t = back v f in
        let is = t.1 in
        rw is (w t.0, [], t.0, same t.0 ∙ sym (append-nil (w t.0)), writes.written t.0 t.2, (refl, refl));
    told = λ s V j b v h.
        let x = writes.told s V j h.0 h.2 h.4 in
        let v-is : v ≡ make h.2 = h.5.1 in
        let bytes-is : b ≡ h.0 = rw (h.3, h.5.0, append-nil) refl in
        rw (bytes-is, v-is, same h.2) (fits h.2 x.0, x.1);
  }
