-- Simple elements, and where the elements of a string end.
use Rattle.std.proofs.Common.{◌≡◌, ◌≢◌, ℕ, zero, suc, ◌+◌, ◌-◌, ◌*◌, ◌<◌, ◌≤◌, List, [], ◌∷◌, ◌++◌, length, take, drop}
use Rattle.std.proofs.Common.{get_or, set, Some, None, refl, sym, ap, subst, ◌∙◌, append_assoc, length-drop, inl, inr}
use Rattle.std.proofs.Common.{lit≤, arith, Bool, true, false, ◌==◌, if◌then◌else◌, length-set}
use Rattle.std.specs.List.{between}
use Rattle.std.proofs.lemmas.List.Edits.{length-between, get_or-between}
use Rattle.std.proofs.lemmas.Bool.{cases_lt}
use Rattle.std.proofs.lemmas.Bool.Decides.{nat_tests}
use Rattle.std.proofs.lemmas.List.{take_rest, drop_more}
use Rattle.std.proofs.lemmas.Grind.{take-set_at}
use Rattle.std.proofs.Math.Seq.{take-add}
use Rattle.wc_tokens.specs.Standard.Digits.{digit_of, IsDigit}
use Rattle.wc_tokens.specs.Standard.Strings.{IsPlain, Element, plain, byte, Elements, none, more, EndsElements}
use Rattle.wc_tokens.specs.Reading.Elements.{ValueAndRest, read_element}
use Rattle.wc_tokens.specs.Reading.Simple.{IsSimpleAt, simple_len}
use Rattle.wc_tokens.proofs.Escapes.ElementLaws.{Elements-append, Elements-one, read-Element, read-plain}
use Rattle.wc_tokens.proofs.Escapes.ElementLaws.{read_element-is, NoElement-read}

-- ---- one more element in front

EndsElements-cons : {part value text rest : List ℕ} → Element part value → EndsElements text rest
    → EndsElements (part ++ text) rest
EndsElements-cons {part} {value} {text} {rest} f e = record {
  body = part ++ e.body;
  bytes = value ++ e.bytes;
  text_is = ap (λ (t : List ℕ). part ++ t) e.text_is ∙ sym (append_assoc part e.body rest);
  elements = more f e.elements;
  ended = e.ended;
}

pub EndsElements-read : (text value after rest : List ℕ) → read_element text ≡ Some (ValueAndRest value after)
    → EndsElements after rest → EndsElements text rest
EndsElements-read text value after rest r e =
    let i = read_element-is text value after r in
    subst (λ (t : List ℕ). EndsElements t rest) (sym i.text_is) (EndsElements-cons i.element e)

pub EndsElements-here : (rest : List ℕ) → read_element rest ≡ None → EndsElements rest rest
EndsElements-here rest r = record {
  body = [];
  bytes = [];
  text_is = refl;
  elements = none;
  ended =
      NoElement-read rest r;
}

-- ---- one element less in front

EndsElements-behind : (c : ℕ) (text rest : List ℕ) → IsPlain c → EndsElements (c ∷ text) rest → EndsElements text rest
EndsElements-behind c text rest p e = go e.text_is e.elements
  where
    go : {body bytes : List ℕ} → c ∷ text ≡ body ++ rest → Elements body bytes → EndsElements text rest
    go is none = absurd (e.ended (c ∷ []) (c ∷ []) text (plain c p) (sym is))
    go is (more {part = part} {rest = b} {value = value} {values = values} f fs) =
        let both : Some (ValueAndRest (c ∷ []) text) ≡ Some (ValueAndRest value (b ++ rest)) = sym (read-plain c text p)
        ∙ ap read_element (is ∙ append_assoc part b rest) ∙ read-Element f (b ++ rest) in
        let same : text ≡ b ++ rest = cc in
        record { body = b; bytes = values; text_is = same; elements = fs; ended = e.ended }

low-digit : (c : ℕ) → c < 32 → 16 ≤ digit_of c
unfolding digit_of
low-digit c l = grind (arith, nat_tests)

is-no-digit : (c d : ℕ) → IsDigit 16 c → 16 ≤ digit_of d → c ≢ d
is-no-digit c d h k e = absurd (omega (arith, h, k, ap digit_of e))

delete-digit : 16 ≤ digit_of 127
unfolding digit_of
delete-digit = lit≤ tt

quote-digit : 16 ≤ digit_of 34
unfolding digit_of
quote-digit = lit≤ tt

backslash-digit : 16 ≤ digit_of 92
unfolding digit_of
backslash-digit = lit≤ tt

zero-digit : 16 ≤ digit_of 0
unfolding digit_of
zero-digit = lit≤ tt

-- a digit stands for itself where no backslash stands before it
pub IsPlain-digit : (c : ℕ) → IsDigit 16 c → IsPlain c
IsPlain-digit c h = (
  (elim (cases_lt c 32) [ inl l ↦ absurd (omega (arith, h, low-digit c l)) | inr l ↦ l ]),
  is-no-digit c 127 h delete-digit,
  is-no-digit c 34 h quote-digit,
  is-no-digit c 92 h backslash-digit,
)

-- ---- bytes that begin simple elements, or are digits of one

IsSimpleAt-behind : (c : ℕ) (text : List ℕ) (k : ℕ) → IsSimpleAt (c ∷ text) (suc k) → IsSimpleAt text k
IsSimpleAt-behind c text k h =
    let a : suc k + 1 ≡ suc (k + 1) = omega arith in
    let b : suc k + 2 ≡ suc (k + 2) = omega arith in
    rw (a, b) at h

-- behind a backslash stand two digits
EndsElements-digits : (text rest : List ℕ) → IsDigit 16 (get_or text 0 0) → IsDigit 16 (get_or text 1 0)
    → EndsElements text rest → EndsElements (92 ∷ text) rest
EndsElements-digits [] rest h l e = absurd (omega (arith, h, zero-digit))
EndsElements-digits (high ∷ []) rest h l e = absurd (omega (arith, l, zero-digit))
EndsElements-digits (high ∷ low ∷ text) rest h l e =
    let behind = EndsElements-behind low text rest (IsPlain-digit low l)
    (EndsElements-behind high (low ∷ text) rest (IsPlain-digit high h) e) in
    EndsElements-cons (byte high low h l) behind

EndsElements-one : (c : ℕ) (text rest : List ℕ) → IsSimpleAt (c ∷ text) 0 → EndsElements text rest
    → EndsElements (c ∷ text) rest
EndsElements-one c text rest (inl p) e = EndsElements-cons (plain c p) e
EndsElements-one c text rest (inr w) e =
    subst (λ (d : ℕ). EndsElements (d ∷ text) rest) (sym w.0) (EndsElements-digits text rest w.1 w.2 e)

pub EndsElements-simple : (text : List ℕ) (n : ℕ) → ((k : ℕ) → k < n → IsSimpleAt text k) → (rest : List ℕ)
    → EndsElements (drop n text) rest → EndsElements text rest
EndsElements-simple text zero h rest e = e
EndsElements-simple [] (suc n) h rest e = e
EndsElements-simple (c ∷ text) (suc n) h rest e =
    EndsElements-one c text rest (h 0 (omega arith))
    (EndsElements-simple text n (λ k l. IsSimpleAt-behind c text k (h (suc k) (omega (arith, l)))) rest e)

-- ---- a simple element that is read

-- the byte that two digits spell, where what is told of them is below 256
pub Element-digits : (high low h l : ℕ) → (h < 256 → IsDigit 16 high × (h ≡ digit_of high))
    → (l < 256 → IsDigit 16 low × (l ≡ digit_of low)) → 16 * h + l < 256
    → Element (92 ∷ high ∷ low ∷ []) ((16 * h + l) ∷ [])
Element-digits high low h l first second lt =
    let a = first (omega (arith, lt)) in
    let b = second (omega (arith, lt)) in
    rw (a.1, b.1) (byte high low a.0 b.0)

-- the byte that stands for itself, likewise
pub Element-plain : (c value : ℕ) → (value < 256 → IsPlain c × (value ≡ c)) → value < 256
    → Element (c ∷ []) (value ∷ [])
Element-plain c value told lt =
    let p = told lt in
    rw p.1 (plain c p.0)

-- the first bytes are plain, and so are these many more
pub plain-more : (text : List ℕ) (at size : ℕ) → at + size ≤ length text
    → ((k : ℕ) → k < at → IsPlain (get_or text k 0))
    → ((k : ℕ) → k < length (between at (at + size) text) → IsPlain (get_or (between at (at + size) text) k 0))
    → (at + size ≤ length text) × ((k : ℕ) → k < at + size → IsPlain (get_or text k 0))
plain-more text at size fits before here = (
  fits,
  λ k lt. elim (cases_lt k at) [
    | inl below ↦ before k below
    | inr above ↦
        let e : at + (k - at) ≡ k = omega (arith, above) in
        let within : k - at < length (between at (at + size) text) =
        omega (arith, length-between text at (at + size) fits, above, lt) in
        let same : get_or (between at (at + size) text) (k - at) 0 ≡ get_or text k 0 =
        rw e at (get_or-between text at (at + size) (k - at) 0 (omega (arith, above, lt))) in
        rw same at (here (k - at) within)
  ],
)

-- plain bytes stand for themselves
pub Elements-plain : (text : List ℕ) (n : ℕ) → n ≤ length text → ((k : ℕ) → k < n → IsPlain (get_or text k 0))
    → Elements (take n text) (take n text)
Elements-plain text zero le h = none
Elements-plain [] (suc n) le h = absurd (omega arith)
Elements-plain (c ∷ text) (suc n) le h =
    more (plain c (h 0 (omega arith)))
    (Elements-plain text n (omega (arith, le)) (λ k l. h (suc k) (omega (arith, l))))

-- An element is so long, and stands for this byte, whose first byte is the given one, and whose others, if it has them,
-- stand behind a place.
abbrev ReadAt : (text : List ℕ) (at first len value : ℕ) → Type 0
ReadAt text at first len value =
    (rest : List ℕ) → Element (take len (first ∷ get_or text (at + 1) 0 ∷ get_or text (at + 2) 0 ∷ rest)) (value ∷ [])

-- one more behind those that were read
pub Elements-simple : (text bytes : List ℕ) (len one made value : ℕ) → Elements (take len text) (take made bytes)
    → ReadAt text len (get_or text len 0) one value
    → len + 2 < length text → made < length bytes
    → Elements (take (len + one) text) (take (made + 1) (set bytes made value))
Elements-simple text bytes len one made value es e within l =
    let read : Element (take one (drop len text)) (value ∷ []) = rw (three text len within) (e (drop (len + 3) text)) in
    rw (take-add len one text, take-set_at bytes made (made + 1) value refl l) (Elements-append es (Elements-one read))
  where
    three : (text : List ℕ) (at : ℕ) → at + 2 < length text
        → drop at text ≡ get_or text at 0 ∷ get_or text (at + 1) 0 ∷ get_or text (at + 2) 0 ∷ drop (at + 3) text
    three text at within =
        let a = drop_more text at 0 (omega (arith, within)) in
        let b = drop_more text (at + 1) 0 (omega (arith, within)) in
        let c = drop_more text (at + 2) 0 within in
        let same : at + 1 + 1 ≡ at + 2 = omega arith in
        let last : at + 2 + 1 ≡ at + 3 = omega arith in
        let behind = rw same at b ∙ ap (λ (t : List ℕ). get_or text (at + 1) 0 ∷ t) (rw last at c) in
        a ∙ ap (λ (t : List ℕ). get_or text at 0 ∷ t) behind

-- the byte behind a simple element, of the two that it may be
pub behind-is : (text : List ℕ) (at len c b : ℕ) → len ≡ simple_len c
    → b ≡ (if c == 92 then get_or text (at + 3) 0 else get_or text (at + 1) 0) → b ≡ get_or text (at + len) 0
behind-is text at len c b = go (c == 92)
  where
    go : (t : Bool) → len ≡ (if t then 3 else 1) → b ≡ (if t then get_or text (at + 3) 0 else get_or text (at + 1) 0)
        → b ≡ get_or text (at + len) 0
    go true e f = rw e f
    go false e f = rw e f

-- two more behind those that were read
pub Elements-pair : (text bytes : List ℕ) (len one two made value next behind : ℕ)
    → Elements (take len text) (take made bytes) → ReadAt text len (get_or text len 0) one value
    → behind ≡ get_or text (len + one) 0
    → ReadAt text (len + one) behind two next
    → len + one + 2 < length text → made + 1 < length bytes
    → Elements (take (len + one + two) text) (take (made + 2) (set (set bytes made value) (made + 1) next))
Elements-pair text bytes len one two made value next behind es e is f within l =
    let first = Elements-simple text bytes len one made value es e (omega (arith, within)) (omega (arith, l)) in
    let room : made + 1 < length (set bytes made value) = omega (arith, l, length-set bytes made value) in
    let count : made + 1 + 1 ≡ made + 2 = omega arith in
    rw count at
    (Elements-simple text (set bytes made value) (len + one) two (made + 1) next first (rw is at f) within room)

-- a text is as long behind a place as it is without the front
pub length-take_rest : (text : List ℕ) (at : ℕ) → length (take (length text - at) (drop at text)) ≡ length text - at
length-take_rest text at = ap length (take_rest text at) ∙ length-drop at text
