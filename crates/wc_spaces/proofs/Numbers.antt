-- What a change at one text leaves at the others, where texts are told apart by their numbers first.
use Rattle.std.proofs.Common.{◌≡◌, ℕ, Bool, true, false, cond, List, Option, Some, None, refl, sym, ap, ◌∙◌}
use Rattle.std.specs.Prelude.{⊤}
use Rattle.std.specs.Cmp.{unsigned_tied, unsigned_Decides}
use Rattle.std.specs.Ordering.{is_eq, nat_cmp}
use Rattle.std.specs.Str.{bytes_eq}
use Rattle.wc_spaces.specs.declared.places.Placed.{Placed}
use Rattle.wc_spaces.specs.Kept.Places.{number_in, placed_in, IsApart}
use Rattle.wc_spaces.proofs.FirstStays.{same-text}

same-number : (x y : ℕ) → is_eq (nat_cmp x y) ≡ true → x ≡ y
same-number x y e = (unsigned_Decides x y).0 (sym (unsigned_tied x y) ∙ e)

equal-number : (x : ℕ) → is_eq (nat_cmp x x) ≡ true
equal-number x = unsigned_tied x x ∙ (unsigned_Decides x x).1 refl

-- a number stands for no text but this one
abbrev pub IsFree : List ℕ → Option Placed → Type 0
IsFree text None = ⊤
IsFree text (Some p) = bytes_eq p.text.now text ≡ true

-- where the number stands for a text, each other is among the others
beside : (text q : List ℕ) (other : Option ℕ) (o : Option Placed) → IsFree text o → bytes_eq text q ≡ false
    → placed_in q o other ≡ other
beside text q other None free e = refl
beside text q other (Some p) free e =
    let same : p.text.now ≡ text = same-text p.text.now text free in
    let g : bytes_eq p.text.now q ≡ false = ap (λ r. bytes_eq r q) same ∙ e in rw g refl

-- where it doesn't, the text is there itself
apart : (text : List ℕ) (other : Option ℕ) (o : Option Placed) → IsApart text o → placed_in text o other ≡ other
apart text other None f = refl
apart text other (Some p) f = rw f refl

-- `at` tells what each number stood for
module _ (at : ℕ → Option Placed) (text q : List ℕ) (other : Option ℕ) where
  abbrev is_here : Bool
  is_here = is_eq (nat_cmp (number_in text) (number_in q))

  -- the text is told apart by its own number
  here : bytes_eq text q ≡ true → is_here ≡ true
  here e = let same = same-text text q e in
      ap (λ r. is_eq (nat_cmp (number_in text) (number_in r))) (sym same) ∙ equal-number (number_in text)

  unmet : (b : Bool) → is_here ≡ b → IsFree text (at (number_in text)) → bytes_eq text q ≡ false
      → (w : Option Placed) → placed_in q w other ≡ other
      → placed_in q (cond b w (at (number_in q))) other ≡ placed_in q (at (number_in q)) other
  unmet true s free e w h =
      let same : number_in text ≡ number_in q = same-number (number_in text) (number_in q) s in
      h ∙ sym (beside text q other (at (number_in q)) (rw (sym same) free) e)
  unmet false s free e w h = refl

  removed_by : (b : Bool) → bytes_eq text q ≡ b → IsFree text (at (number_in text))
      → placed_in q (cond is_here None (at (number_in q))) (cond b None other)
      ≡ cond b None (placed_in q (at (number_in q)) other)
  removed_by true e free = ap (λ b. placed_in q (cond b None (at (number_in q))) None) (here e)
  removed_by false e free = unmet is_here refl free e None refl

  -- the number stands for no text from now on
  pub removed : (number : ℕ) → number ≡ number_in text → IsFree text (at number) → (now : Option Placed)
      (others : Option ℕ) → now ≡ cond (is_eq (nat_cmp number (number_in q))) None (at (number_in q))
      → others ≡ cond (bytes_eq text q) None other
      → placed_in q now others ≡ cond (bytes_eq text q) None (placed_in q (at (number_in q)) other)
  removed number is free now others h g =
      rw (h, g) (rw is (removed_by (bytes_eq text q) refl (rw (sym is) free)))

  among_by : (b : Bool) → bytes_eq text q ≡ b → IsApart text (at (number_in text)) → (w : Option ℕ)
      → placed_in q (at (number_in q)) (cond b w other) ≡ cond b w (placed_in q (at (number_in q)) other)
  among_by true e f w = rw (sym (same-text text q e)) (apart text w (at (number_in text)) f)
  among_by false e f w = refl

  -- the text is among the others from now on, or isn't
  pub among : IsApart text (at (number_in text)) → (w : Option ℕ) (now : Option Placed) (others : Option ℕ)
      → now ≡ at (number_in q) → others ≡ cond (bytes_eq text q) w other
      → placed_in q now others ≡ cond (bytes_eq text q) w (placed_in q (at (number_in q)) other)
  among f w now others h g = rw (h, g) (among_by (bytes_eq text q) refl f w)

-- ---- what a number stands for
pub free-some : (text : List ℕ) (o : Option Placed) (p : Placed) → o ≡ Some p → bytes_eq p.text.now text ≡ true
    → IsFree text o
free-some text o p e f = rw e f

pub apart-none : (text : List ℕ) (o : Option Placed) → o ≡ None → IsApart text o
apart-none text o e = rw e tt

pub apart-some : (text : List ℕ) (o : Option Placed) (p : Placed) → o ≡ Some p → bytes_eq p.text.now text ≡ false
    → IsApart text o
apart-some text o p e f = rw e f
