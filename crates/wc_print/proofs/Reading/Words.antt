-- Printed words are runs, in ASCII.
use Rattle.std.proofs.Common.{◌≡◌, ℕ, zero, suc, ◌+◌, ◌%◌, ◌^◌, ◌<◌, ◌==◌, Bool, true, false, not, ◌&&◌, ℤ, pos, negsuc}
use Rattle.std.proofs.Common.{List, [], ◌∷◌, ◌++◌, refl, sym, ap, arith}
use Rattle.std.specs.List.{AllByRecursion, list_all}
use Rattle.std.specs.Fmt.{decimal, signed_decimal}
use Rattle.std.proofs.lemmas.Fmt.{decimal_by_steps}
use lib.Signed.{mag}
use Rattle.wc_tokens.specs.declared.token.TokenKind.TheVariants.{Word}
use Rattle.wc_tokens.specs.Standard.Lexemes.{is_idchar, IsIdchar, IsRun, kind_of_run}
use Rattle.wc_print.specs.Standard.Printable.{is_letter, is_word}

digit-letter : (n : ℕ) → n < 10 → is_letter (48 + n) ≡ true
unfolding is_idchar
digit-letter zero h = refl
digit-letter (suc zero) h = refl
digit-letter (suc (suc zero)) h = refl
digit-letter (suc (suc (suc zero))) h = refl
digit-letter (suc (suc (suc (suc zero)))) h = refl
digit-letter (suc (suc (suc (suc (suc zero))))) h = refl
digit-letter (suc (suc (suc (suc (suc (suc zero)))))) h = refl
digit-letter (suc (suc (suc (suc (suc (suc (suc zero))))))) h = refl
digit-letter (suc (suc (suc (suc (suc (suc (suc (suc zero)))))))) h = refl
digit-letter (suc (suc (suc (suc (suc (suc (suc (suc (suc zero))))))))) h = refl
digit-letter (suc (suc (suc (suc (suc (suc (suc (suc (suc (suc n)))))))))) h = absurd (omega (arith, h))

digit-plain : (n : ℕ) → n < 10 → ((48 + n) == 36) ≡ false
digit-plain zero h = refl
digit-plain (suc zero) h = refl
digit-plain (suc (suc zero)) h = refl
digit-plain (suc (suc (suc zero))) h = refl
digit-plain (suc (suc (suc (suc zero)))) h = refl
digit-plain (suc (suc (suc (suc (suc zero))))) h = refl
digit-plain (suc (suc (suc (suc (suc (suc zero)))))) h = refl
digit-plain (suc (suc (suc (suc (suc (suc (suc zero))))))) h = refl
digit-plain (suc (suc (suc (suc (suc (suc (suc (suc zero)))))))) h = refl
digit-plain (suc (suc (suc (suc (suc (suc (suc (suc (suc zero))))))))) h = refl
digit-plain (suc (suc (suc (suc (suc (suc (suc (suc (suc (suc n)))))))))) h = absurd (omega (arith, h))

both : (a b : Bool) → a ≡ true → b ≡ true → (a && b) ≡ true
both true true e f = refl
both true false e f = f
both false b e f = e

left : (a b : Bool) → (a && b) ≡ true → a ≡ true
left true b e = refl
left false b e = e

right : (a b : Bool) → (a && b) ≡ true → b ≡ true
right true b e = e
right false b e = absurd cc

pub all-append : (v w : List ℕ) → list_all is_letter v ≡ true → list_all is_letter w ≡ true
    → list_all is_letter (v ++ w) ≡ true
all-append [] w e f = f
all-append (c ∷ v) w e f = both (is_letter c) _ (left (is_letter c) _ e) (all-append v w (right (is_letter c) _ e) f)

pub letters : (w : List ℕ) → is_word w ≡ true → list_all is_letter w ≡ true
letters [] e = refl
letters (c ∷ w) e = right (not (c == 36)) _ e

pub word-append : (v w : List ℕ) → is_word v ≡ true → list_all is_letter w ≡ true → is_word (v ++ w) ≡ true
word-append [] w e f = absurd cc
word-append (c ∷ v) w e f = both (not (c == 36)) _ (left (not (c == 36)) _ e) (all-append (c
    ∷ v) w (right (not (c == 36)) _ e) f)

pub word-decimal : (n : ℕ) → n < 2 ^ 64 → is_word (decimal n) ≡ true
word-decimal = decimal_by_steps (λ n ds. is_word ds ≡ true)
    (λ n lt. both _ _ (ap (λ b. not b) (digit-plain n lt)) (both _ _ (digit-letter n lt) refl))
    (λ n ds le e. let lt : n % 10 < 10 = omega arith in word-append ds _ e (both _ _ (digit-letter (n % 10) lt) refl))

pub word-signed : (z : ℤ) → mag z < 2 ^ 63 → is_word (signed_decimal z) ≡ true
unfolding is_idchar
word-signed (pos n) lt = word-decimal n (omega (arith, lt))
word-signed (negsuc n) lt = letters (decimal (suc n)) (word-decimal (suc n) (omega (arith, lt)))

idchars : (w : List ℕ) → list_all is_letter w ≡ true → AllByRecursion IsIdchar w
idchars [] e = tt
idchars (c ∷ w) e = (left (is_idchar c) _ (left (is_letter c) _ e), idchars w (right (is_letter c) _ e))

kind : (c : ℕ) (w : List ℕ) → (c == 36) ≡ false → kind_of_run (c ∷ w) ≡ Word
kind c [] e = refl
kind c (d ∷ w) e = rw e refl

unequal : (b : Bool) → not b ≡ true → b ≡ false
unequal true e = sym e
unequal false e = refl

pub IsRun-word : (w : List ℕ) → is_word w ≡ true → IsRun Word w
IsRun-word [] e = absurd cc
IsRun-word (c ∷ w) e = record {
  some = λ f. absurd cc;
  idchars = idchars (c ∷ w) (right (not (c == 36)) _ e);
  kind_is = kind c w (unequal (c == 36) (left (not (c == 36)) _ e));
}
