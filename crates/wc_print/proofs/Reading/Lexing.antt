-- A printed text has the tokens that it was printed from.
use Rattle.std.proofs.Common.{◌≡◌, ℕ, zero, suc, ◌/◌, ◌%◌, ◌<◌, ◌≤◌, nat_lt, Bool, true, false, ◌&&◌, if◌then◌else◌}
use Rattle.std.proofs.Common.{List, [], ◌∷◌, ◌++◌, length, refl, arith, IsUtf8}
use Rattle.std.specs.List.{AllByRecursion, flat_map, list_all}
use Rattle.std.specs.Fmt.{decimal, signed_decimal}
use Rattle.std.proofs.lemmas.Str.{IsUtf8-from_ascii}
use Rattle.std.proofs.lemmas.Str.Ascii.{IsAscii-from_all}
use Rattle.std.proofs.lemmas.List.Elements.{All-from_recursion}
use Rattle.wc_tokens.specs.Standard.Gaps.{BeginsNot, blank}
use Rattle.wc_tokens.specs.Standard.Lexemes.{is_idchar, HasForm, MayPrecede, BeginsNoIdchar, Lexeme, Lexed, ended, gap}
use Rattle.wc_tokens.specs.Standard.Lexemes.{token, Lexes, longest}
use Rattle.wc_print.specs.Standard.Printed.{Printed, opening, closing, word, number, integer, part, quoted, hex, stands}
use Rattle.wc_print.specs.Standard.Printed.{escaped, spelled, kind_of, Item, next, after, below, spaces, gap_of}
use Rattle.wc_print.specs.Standard.Printed.{token_of, text, lexemes_in, lexemes}
use Rattle.wc_print.specs.Standard.Printable.{IsByte, is_letter, is_word, IsSpelled, AreSpelled, is_run, AreApart}
use Rattle.wc_print.specs.Standard.Printable.{IsPrintable}
use Rattle.wc_print.proofs.Reading.ReadStrings.{IsString-escaped}
use Rattle.wc_print.proofs.Reading.Words.{word-append, letters, word-decimal, word-signed, IsRun-word}

pub form : (p : Printed) → IsSpelled p → HasForm (kind_of p) (spelled p)
form opening h = refl
form closing h = refl
form (word w) h = IsRun-word w h
form (number n) h = IsRun-word (decimal n) (word-decimal n h)
form (integer z) h = IsRun-word (signed_decimal z) (word-signed z h)
form (part w n) h = IsRun-word (w ++ decimal n) (word-append w (decimal n) h.0
    (letters (decimal n) (word-decimal n h.1)))
form (quoted bytes) h = (bytes, IsString-escaped bytes h)

-- what a token, or a gap, lets stand before it
no_semicolon : (w rest : List ℕ) → is_word w ≡ true → BeginsNot 59 (w ++ rest)
unfolding is_idchar
no_semicolon [] rest e = absurd cc
no_semicolon (c ∷ w) rest e = λ f. absurd (let g : is_word (59 ∷ w) ≡ true = rw f at e in cc)

open_before : (p : Printed) (rest : List ℕ) → IsSpelled p → BeginsNot 59 (spelled p ++ rest)
open_before opening rest h = λ f. absurd (omega (arith, f))
open_before closing rest h = λ f. absurd (omega (arith, f))
open_before (word w) rest h = no_semicolon w rest h
open_before (number n) rest h = no_semicolon (decimal n) rest (word-decimal n h)
open_before (integer z) rest h = no_semicolon (signed_decimal z) rest (word-signed z h)
open_before (part w n) rest h = no_semicolon (w ++ decimal n) rest
    (word-append w (decimal n) h.0 (letters (decimal n) (word-decimal n h.1)))
open_before (quoted bytes) rest h = λ f. absurd (omega (arith, f))

run_before : (p : Printed) (rest : List ℕ) → is_run p ≡ false → BeginsNoIdchar (spelled p ++ rest)
unfolding is_idchar
run_before opening rest e = refl
run_before closing rest e = refl
run_before (word w) rest e = absurd cc
run_before (number n) rest e = absurd cc
run_before (integer z) rest e = absurd cc
run_before (part w n) rest e = absurd cc
run_before (quoted bytes) rest e = refl

open_apart : (is : List Item) → AreSpelled is → BeginsNot 59 (text is)
open_apart [] h = λ f. absurd (omega (arith, f))
open_apart (next p ∷ is) h = open_before p (text is) h.0
open_apart (after p ∷ is) h = λ f. absurd (omega (arith, f))
open_apart (below n p ∷ is) h = λ f. absurd (omega (arith, f))

run_apart : (is : List Item) → AreApart true is → BeginsNoIdchar (text is)
unfolding is_idchar
run_apart [] h = refl
run_apart (next p ∷ is) h = run_before p (text is) h.0
run_apart (after p ∷ is) h = refl
run_apart (below n p ∷ is) h = refl

pub apart : (p : Printed) (is : List Item) → AreSpelled is → AreApart (is_run p) is → MayPrecede (kind_of p) (text is)
apart opening is s h = open_apart is s
apart closing is s h = tt
apart (word w) is s h = run_apart is h
apart (number n) is s h = run_apart is h
apart (integer z) is s h = run_apart is h
apart (part w n) is s h = run_apart is h
apart (quoted bytes) is s h = tt

gap_spaces : (size n : ℕ) (rest : List ℕ) (ts : List Lexeme) → Lexed size rest ts → Lexed size (spaces n ++ rest) ts
gap_spaces size zero rest ts k = k
gap_spaces size (suc n) rest ts k = gap (blank 32 refl) (gap_spaces size n rest ts k)

gaps : (size : ℕ) (i : Item) (rest : List ℕ) (ts : List Lexeme) → Lexed size rest ts → Lexed size (gap_of i ++ rest) ts
gaps size (next p) rest ts k = k
gaps size (after p) rest ts k = gap (blank 32 refl) k
gaps size (below n p) rest ts k = gap (blank 10 refl) (gap_spaces size n rest ts k)

pub lexed : (size : ℕ) (behind_run : Bool) (is : List Item) → AreSpelled is → AreApart behind_run is
    → Lexed size (text is) (lexemes_in size is)
lexed size behind_run [] s h = gap (blank 10 refl) ended
lexed size behind_run (i ∷ is) s h =
    gaps size i _ _
    (token (record { form = form (token_of i) s.0; apart = apart (token_of i) is s.1 h.1 })
    (lexed size (is_run (token_of i)) is s.1 h.1))

-- ---- ASCII
abbrev Below : ℕ → Type 0
Below c = c < 128

below-append : (a b : List ℕ) → AllByRecursion Below a → AllByRecursion Below b → AllByRecursion Below (a ++ b)
below-append [] b h k = k
below-append (c ∷ a) b h k = (h.0, below-append a b h.1 k)

below-word : (w : List ℕ) → list_all is_letter w ≡ true → AllByRecursion Below w
below-word [] e = tt
below-word (c ∷ w) e = (
  low (is_idchar c) (list_all is_letter w) c e,
  below-word w (rest (is_idchar c) (nat_lt c 128) (list_all is_letter w) e),
)
  where
    low : (a b : Bool) (c : ℕ) → ((a && nat_lt c 128) && b) ≡ true → c < 128
    low true b c e = grind arith
    low false b c e = absurd cc

    rest : (a d b : Bool) → ((a && d) && b) ≡ true → b ≡ true
    rest true true b e = e
    rest true false b e = absurd cc
    rest false d b e = absurd cc

hex-below : (n : ℕ) → n < 16 → hex n < 128
hex-below n h = grind arith

escaped-below : (b : ℕ) (s : Bool) → stands b ≡ s → b < 256
    → AllByRecursion Below (if s then b ∷ [] else 92 ∷ hex (b / 16) ∷ hex (b % 16) ∷ [])
escaped-below b true e lt = (grind arith, tt)
escaped-below b false e lt = (omega arith, (hex-below (b / 16) (omega arith), (hex-below (b % 16) (omega arith), tt)))

string-below : (bytes : List ℕ) → AllByRecursion IsByte bytes → AllByRecursion Below (flat_map escaped bytes)
string-below [] h = tt
string-below (b ∷ bytes) h = below-append (escaped b) (flat_map escaped bytes) (escaped-below b (stands b) refl h.0)
    (string-below bytes h.1)

spelled-below : (p : Printed) → IsSpelled p → AllByRecursion Below (spelled p)
spelled-below opening h = (omega arith, tt)
spelled-below closing h = (omega arith, tt)
spelled-below (word w) h = below-word w (letters w h)
spelled-below (number n) h = below-word (decimal n) (letters (decimal n) (word-decimal n h))
spelled-below (integer z) h = below-word (signed_decimal z) (letters (signed_decimal z) (word-signed z h))
spelled-below (part w n) h = let e = word-append w (decimal n) h.0 (letters (decimal n) (word-decimal n h.1)) in
    below-word (w ++ decimal n) (letters (w ++ decimal n) e)
spelled-below (quoted bytes) h = (
  omega arith,
  below-append (flat_map escaped bytes) (34
      ∷ []) (string-below bytes h) (omega arith, tt),
)

spaces-below : (n : ℕ) → AllByRecursion Below (spaces n)
spaces-below zero = tt
spaces-below (suc n) = (omega arith, spaces-below n)

gap-below : (i : Item) → AllByRecursion Below (gap_of i)
gap-below (next p) = tt
gap-below (after p) = (omega arith, tt)
gap-below (below n p) = (omega arith, spaces-below n)

pub text-below : (is : List Item) → AreSpelled is → AllByRecursion Below (text is)
text-below [] h = (omega arith, tt)
text-below (i ∷ is) h =
    below-append (gap_of i) _ (gap-below i)
    (below-append (spelled (token_of i)) (text is) (spelled-below (token_of i) h.0) (text-below is h.1))

pub IsUtf8-text : (is : List Item) → AreSpelled is → IsUtf8 (text is)
IsUtf8-text is h = IsUtf8-from_ascii (text is) (IsAscii-from_all (text is)
    (All-from_recursion Below (text is) (text-below is h)))

pub Lexes-text : (items : List Item) → IsPrintable items → length (text items) ≤ longest
    → Lexes (text items) (lexemes items)
Lexes-text items h le = record {
  short = le;
  utf8 = IsUtf8-text items h.spelled;
  lexed = lexed (length (text items)) false items h.spelled h.apart;
}
