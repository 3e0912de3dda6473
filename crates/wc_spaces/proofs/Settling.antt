-- A text that takes a slot which no text had.
use Rattle.std.proofs.Common.{◌≡◌, ℕ, zero, suc, Bool, true, false, cond, List, [], ◌∷◌, ◌++◌, length, set}
use Rattle.std.proofs.Common.{Option, Some, None, is_some, is_none, refl, sym, ap, ◌∙◌, subst}
use Rattle.std.proofs.Math.ListN.{length-set}
use Rattle.std.specs.Borrow.{Bor}
use Rattle.std.specs.List.{slice_get}
use Rattle.std.specs.Str.{bytes_eq}
use Rattle.wc_spaces.specs.declared.directory.Directory.{Directory}
use Rattle.wc_spaces.specs.declared.places.Placed.{Placed}
use Rattle.wc_spaces.specs.Kept.Places.{number_in, placed_in, place_in}
use Rattle.wc_spaces.specs.Kept.Directory.{slot_in, first_at, seen_at, held_in, found_in, is_free, AreApart}
use Rattle.wc_spaces.proofs.FirstStays.{kept, same-text, equal-text}

-- ---- one more behind the first texts
last-first : (firsts : List Placed) (p : Placed) → slice_get (firsts ++ p ∷ []) (length firsts) ≡ Some p
last-first [] p = refl
last-first (x ∷ xs) p = last-first xs p

none-last : (firsts : List Placed) → slice_get firsts (length firsts) ≡ None
none-last [] = refl
none-last (x ∷ xs) = none-last xs

was-none : (firsts : List Placed) (p : Placed) (i : ℕ) → is_none (slice_get (firsts ++ p ∷ []) i) ≡ true
    → is_none (slice_get firsts i) ≡ true
was-none [] p i e = refl
was-none (x ∷ xs) p zero e = e
was-none (x ∷ xs) p (suc i) e = was-none xs p i e

was-free : (firsts : List Placed) (p : Placed) (o : Option ℕ) → is_free (firsts ++ p ∷ []) o ≡ true
    → is_free firsts o ≡ true
was-free firsts p None e = e
was-free firsts p (Some i) e = was-none firsts p i e

-- ---- another text is found as before
module _ (p : Placed) (q : List ℕ) (other : Option ℕ) where
  past : bytes_eq p.text.now q ≡ false → (firsts : List Placed) (i : ℕ)
      → placed_in q (slice_get (firsts ++ p ∷ []) i) other ≡ placed_in q (slice_get firsts i) other
  past e [] zero = rw e refl
  past e [] (suc i) = refl
  past e (x ∷ xs) zero = refl
  past e (x ∷ xs) (suc i) = past e xs i

  past-at : bytes_eq p.text.now q ≡ false → (firsts : List Placed) (o : Option ℕ)
      → placed_in q (first_at (firsts ++ p ∷ []) o) other ≡ placed_in q (first_at firsts o) other
  past-at e firsts None = refl
  past-at e firsts (Some i) = past e firsts i

  here : bytes_eq p.text.now q ≡ false → (firsts : List Placed) (x v : ℕ) → Some x ≡ Some v → slice_get firsts v ≡ None
      → placed_in q (slice_get (firsts ++ p ∷ []) (length firsts)) other ≡ placed_in q (slice_get firsts x) other
  here e firsts x v f g =
      let same : x ≡ v = cc in
      past e firsts (length firsts)
      ∙ ap (λ (o : Option Placed). placed_in q o other) (none-last firsts ∙ sym g)
      ∙ ap (λ (i : ℕ). placed_in q (slice_get firsts i) other) (sym same)

  beside : bytes_eq p.text.now q ≡ false → (firsts : List Placed) (v : ℕ) → slice_get firsts v ≡ None
      → (slots : List ℕ) (s j : ℕ) → slice_get slots s ≡ Some v
      → placed_in q (first_at (firsts ++ p ∷ []) (slice_get (set slots s (length firsts)) j)) other
      ≡ placed_in q (first_at firsts (slice_get slots j)) other
  beside e firsts v g [] s j f = absurd cc
  beside e firsts v g (x ∷ xs) zero zero f = here e firsts x v f g
  beside e firsts v g (x ∷ xs) zero (suc j) f = past-at e firsts (slice_get xs j)
  beside e firsts v g (x ∷ xs) (suc s) zero f = past e firsts x
  beside e firsts v g (x ∷ xs) (suc s) (suc j) f = beside e firsts v g xs s j f

-- ---- the slot itself
set-here : (slots : List ℕ) (s v w : ℕ) → slice_get slots s ≡ Some v → slice_get (set slots s w) s ≡ Some w
set-here [] s v w e = absurd cc
set-here (x ∷ xs) zero v w e = refl
set-here (x ∷ xs) (suc s) v w e = set-here xs s v w e

taken : (firsts : List Placed) (p : Placed) → is_none (slice_get (firsts ++ p ∷ []) (length firsts)) ≡ true → ⊥
taken firsts p e =
    let f : is_none (slice_get (firsts ++ p ∷ []) (length firsts)) ≡ false =
    ap (λ (o : Option Placed). is_none o) (last-first firsts p) in
    absurd cc

-- a slot that is free was free before
free-before : (firsts : List Placed) (p : Placed) (slots : List ℕ) (s j : ℕ)
    → is_free (firsts ++ p ∷ []) (slice_get (set slots s (length firsts)) j) ≡ true
    → is_free firsts (slice_get slots j) ≡ true
free-before firsts p [] s j e = e
free-before firsts p (x ∷ xs) zero zero e = absurd (taken firsts p e)
free-before firsts p (x ∷ xs) zero (suc j) e = was-free firsts p (slice_get xs j) e
free-before firsts p (x ∷ xs) (suc s) zero e = was-none firsts p x e
free-before firsts p (x ∷ xs) (suc s) (suc j) e = free-before firsts p xs s j e

-- ---- all texts: `at` tells the slot of each, and `others` its place among the others
module _ (at : List ℕ → ℕ) (slots : List ℕ) (firsts : List Placed) (others : List ℕ
    → Option ℕ) (p : Placed) (v : ℕ) where
  abbrev found : List ℕ → Option ℕ
  found q = placed_in q (first_at firsts (slice_get slots (at q))) (others q)

  abbrev found-now : List ℕ → Option ℕ
  found-now q =
      placed_in q (first_at (firsts ++ p ∷ []) (slice_get (set slots (at p.text.now) (length firsts)) (at q)))
      (others q)

  was-unknown : slice_get slots (at p.text.now) ≡ Some v → slice_get firsts v ≡ None → others p.text.now ≡ None
      → found p.text.now ≡ None
  was-unknown e f g = rw (e, f, g) refl

  is-known : slice_get slots (at p.text.now) ≡ Some v → found-now p.text.now ≡ Some p.place
  is-known e = rw (set-here slots (at p.text.now) v (length firsts) e, last-first firsts p, equal-text p.text.now) refl

  settled-by : (q : List ℕ) (b : Bool) → bytes_eq p.text.now q ≡ b → slice_get slots (at p.text.now) ≡ Some v
      → slice_get firsts v ≡ None → others p.text.now ≡ None
      → found-now q ≡ cond (is_some (found q)) (found q) (cond b (Some p.place) None)
  settled-by q true same e f g =
      subst (λ (r : List ℕ). found-now r ≡ cond (is_some (found r)) (found r) (Some p.place))
      (same-text p.text.now q same)
      (is-known e ∙ ap (λ (o : Option ℕ). cond (is_some o) o (Some p.place)) (sym (was-unknown e f g)))
  settled-by q false other e f g = beside p q (others q) other firsts v f slots (at p.text.now) (at q) e
      ∙ kept (found q)

free-from : (firsts : List Placed) (o : Option ℕ) → Some None ≡ seen_at firsts o
    → (v : ℕ) × (o ≡ Some v) × (slice_get firsts v ≡ None)
free-from firsts None e = absurd cc
free-from firsts (Some i) e = (i, refl, cc)

is-free : (firsts : List Placed) (o : Option ℕ) → Some None ≡ seen_at firsts o → is_free firsts o ≡ true
is-free firsts None e = absurd cc
is-free firsts (Some i) e = let f : slice_get firsts i ≡ None = cc in ap (λ (x : Option Placed). is_none x) f

-- ---- the directory with the text in the free slot of its number
pub record IsSettled (old new : Directory) (text : Bor (List ℕ)) (place number : ℕ) : Type 0 where
  pub numbered : number ≡ number_in text.now
  pub free : Some None ≡ seen_at old.firsts.items (slice_get old.slots.items (slot_in number (length old.slots.items)))
  pub slots : new.slots.items ≡ set old.slots.items (slot_in number (length old.slots.items)) (length old.firsts.items)
  pub firsts : new.firsts.items ≡ old.firsts.items ++ record { text = text; place = place } ∷ []
  pub others : new.others ≡ old.others

module _ (old new : Directory) (text : Bor (List ℕ)) (place number : ℕ) (s : IsSettled old new text place number) where
  abbrev slot_of : List ℕ → ℕ
  slot_of q = slot_in (number_in q) (length old.slots.items)

  free-slot : Some None ≡ seen_at old.firsts.items (slice_get old.slots.items (slot_of text.now))
  free-slot = rw s.numbered at s.free

  pub settled : AreApart old → (q : List ℕ) → found_in new q
      ≡ cond (is_some (found_in old q)) (found_in old q) (cond (bytes_eq text.now q) (Some place) None)
  settled w q =
      let free = free-from old.firsts.items (slice_get old.slots.items (slot_of text.now)) free-slot in
      rw (s.slots, s.firsts, s.others, s.numbered, length-set)
      (settled-by slot_of old.slots.items old.firsts.items (place_in old.others) (record { text = text; place = place })
      free.0 q (bytes_eq text.now q) refl free.1 free.2
      (w.apart text.now (is-free old.firsts.items (held_in old text.now) free-slot)))

  pub still-apart : AreApart old → AreApart new
  still-apart w = record {
    apart = λ q h. rw s.others (w.apart q (free-before old.firsts.items (record { text = text; place = place })
        old.slots.items (slot_of text.now) (slot_of q) (rw (s.slots, s.firsts, s.numbered, length-set) at h)));
  }
