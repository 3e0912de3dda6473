-- How printed items follow one another.
use Rattle.std.proofs.Common.{◌≡◌, ℕ, zero, suc, ◌<◌, false, List, [], ◌∷◌, ◌++◌, length, get_or, drop, refl, sym}
use Rattle.std.proofs.Common.{ap, ◌∙◌, append_assoc, arith}
use Rattle.std.specs.Prelude.{Result, Ok, Err, is_ok, is_err, if◌then◌else◌}
use Rattle.std.proofs.lemmas.List.{append-nil}
use Rattle.wc_print.specs.Standard.Printed.{Item, printed, gap_of, spelled, token_of, text as whole_text}
use Rattle.wc_print.specs.Standard.Printable.{AreSpelled, Put}

pub printed-append : (a b : List Item) → printed (a ++ b) ≡ printed a ++ printed b
printed-append [] b = refl
printed-append (i ∷ a) b =
    ap (λ (x : List ℕ). gap_of i ++ (spelled (token_of i) ++ x)) (printed-append a b)
    ∙ simp append_assoc

-- a text is its items, and the end of the last line
pub text-printed : (a : List Item) → whole_text a ≡ printed a ++ (10 ∷ [])
text-printed [] = refl
text-printed (i ∷ a) =
    ap (λ (x : List ℕ). gap_of i ++ (spelled (token_of i) ++ x)) (text-printed a)
    ∙ simp append_assoc

pub spelled-append : (a b : List Item) → AreSpelled a → AreSpelled b → AreSpelled (a ++ b)
spelled-append [] b h k = k
spelled-append (i ∷ a) b h k = (h.0, spelled-append a b h.1 k)

-- items, and then others
pub chain : {a b : List Item} {old mid new : List ℕ} → Put a old mid → Put b mid new → Put (a ++ b) old new
chain {a = a} {b = b} {old = old} h k = record {
  spelled = spelled-append a b h.spelled k.spelled;
  bytes = k.bytes ∙ ap (λ (x : List ℕ). x ++ printed b) h.bytes ∙ append_assoc old (printed a) (printed b)
      ∙ ap (λ (x : List ℕ). old ++ x) (sym (printed-append a b));
}

-- nothing was put
pub nothing : (old : List ℕ) → Put [] old old
nothing old = record { spelled = tt; bytes = sym (append-nil old) }

-- words, parentheses and spaces
pub literal : (items : List Item) {old new : List ℕ} → AreSpelled items → new ≡ old ++ printed items → Put items old new
literal items h e = record { spelled = h; bytes = e }

-- a text that is known to be these items
pub text : (items : List Item) {old new bytes : List ℕ} → AreSpelled items → bytes ≡ printed items → new ≡ old ++ bytes
    → Put items old new
text items h is e = record { spelled = h; bytes = rw (← is) e }

-- the first of a list from an index on
pub drop-first : {A : Type 0} (xs : List A) (i : ℕ) (x d : A) → x ≡ get_or xs i d → i < length xs
    → drop i xs ≡ x ∷ drop (suc i) xs
drop-first [] i x d is lt = absurd (omega arith)
drop-first (y ∷ xs) zero x d is lt = rw is refl
drop-first (y ∷ xs) (suc i) x d is lt = drop-first xs i x d is (omega arith)

-- bytes that were put behind others in memory, where it was enough
pub kept : {R E : Type 0} (r : Result R E) (old new said bytes : List ℕ) → is_err r ≡ false
    → new ≡ (if is_ok r then old ++ bytes else old) → old ≡ said → new ≡ said ++ bytes
kept (Ok v) old new said bytes enough e h = e ∙ ap (λ (x : List ℕ). x ++ bytes) h
kept (Err f) old new said bytes enough e h = absurd cc
