-- What is read of a string's element is an element of the standard, and each one is read.
use Rattle.std.proofs.Common.{◌≡◌, ◌≢◌, ℕ, ◌+◌, ◌*◌, ◌^◌, ◌<◌, ◌≤◌, nat_eq, nat_le, Bool, true, false, List, [], ◌∷◌}
use Rattle.std.proofs.Common.{◌++◌, length, Option, Some, None, refl, sym, ap, subst, ◌∙◌, append_assoc, append-nil}
use Rattle.std.proofs.Common.{length-append, inl, inr, arith, lit≤, if◌then◌else◌}
use Rattle.std.specs.Prelude.{encode_utf8}
use Rattle.std.specs.Char.{IsScalar}
use Rattle.std.proofs.Math.Utf8.{scalar, scalar_fits}
use Rattle.std.proofs.lemmas.Bool.{cases_lt, cases_eq}
use Rattle.std.proofs.lemmas.Bool.Decides.{nat_tests}
use Rattle.wc_tokens.specs.Standard.Digits.{digit_of, IsDigit, Digits}
use Rattle.wc_tokens.specs.Reading.Scans.{fitting, scan}
use Rattle.wc_tokens.specs.Standard.Strings.{IsPlain, escaped, Element, plain, escape, byte, unicode, Elements, none}
use Rattle.wc_tokens.specs.Standard.Strings.{more}
use Rattle.wc_tokens.specs.Standard.Strings.{NoElement, EndsElements}
use Rattle.wc_tokens.specs.Reading.Elements.{FirstElement, ValueAndRest, read_byte, read_closed}
use Rattle.wc_tokens.specs.Reading.Elements.{read_number, read_unicode, read_other, read_escape, is_plain, read_element}
use Rattle.wc_tokens.proofs.Integers.Scans.{lt-true, lt-false, eq-false, scan-other}
use Rattle.wc_tokens.proofs.Integers.DigitLaws.{scan-Digits, Found-scan}
use Rattle.wc_tokens.proofs.Integers.NumberLaws.{fitting-some, fitting-small}

eq-true : (a b : ℕ) → a ≡ b → nat_eq a b ≡ true
eq-true a b h = grind (arith, nat_tests)

le-true : (a b : ℕ) → a ≤ b → nat_le a b ≡ true
le-true a b h = grind (arith, nat_tests)

other-digit : (c d : ℕ) → IsDigit 16 c → 16 ≤ digit_of d → nat_eq c d ≡ false
other-digit c d h k = eq-false c d (λ e. absurd (omega (arith, h, k, ap digit_of e)))

-- a hexadecimal digit is none of the other letters of an escape
escaped-digit : (c : ℕ) → IsDigit 16 c → escaped c ≡ None
unfolding digit_of
escaped-digit c h =
    let a = other-digit c 116 h (lit≤ tt) in
    let b = other-digit c 110 h (lit≤ tt) in
    let d = other-digit c 114 h (lit≤ tt) in
    let e = other-digit c 34 h (lit≤ tt) in
    let f = other-digit c 39 h (lit≤ tt) in
    let g = other-digit c 92 h (lit≤ tt) in
    rw (a, b, d, e, f, g)

-- ---- an element is read

pub read-plain : (c : ℕ) (rest : List ℕ) → IsPlain c → read_element (c ∷ rest) ≡ Some (ValueAndRest (c ∷ []) rest)
unfolding read_element
read-plain c rest p =
    let a = eq-false c 92 p.3 in
    let b = eq-false c 34 p.2 in
    let d = eq-false c 127 p.1 in
    let e = le-true 32 c p.0 in
    rw (a, e, d, b)

read-escape : (c : ℕ) {value : ℕ} (rest : List ℕ) → escaped c ≡ Some value
    → read_element (92 ∷ c ∷ rest) ≡ Some (ValueAndRest (value ∷ []) rest)
unfolding read_element read_escape
read-escape c rest e = rw e

-- bytes that are no hexadecimal digits
u-digit : 16 ≤ digit_of 117
unfolding digit_of
u-digit = lit≤ tt

brace-digit : 16 ≤ digit_of 125
unfolding digit_of
brace-digit = lit≤ tt

read-digits : (high low : ℕ) (rest : List ℕ) → IsDigit 16 high → IsDigit 16 low
    → read_element (92 ∷ high ∷ low ∷ rest) ≡ Some (ValueAndRest ((16 * digit_of high + digit_of low) ∷ []) rest)
unfolding read_element read_escape read_byte
read-digits high low rest h l =
    let a = escaped-digit high h in
    let b = other-digit high 117 h u-digit in
    let c = lt-true (digit_of high) 16 h in
    let d = lt-true (digit_of low) 16 l in
    rw (a, b, c, d)

read-character : (digits : List ℕ) (n : ℕ) (rest : List ℕ) → Digits 16 digits n → IsScalar n
    → read_element (92 ∷ 117 ∷ 123 ∷ (digits ++ 125 ∷ rest)) ≡ Some (ValueAndRest (encode_utf8 n) rest)
unfolding read_element read_escape read_unicode
read-character digits n rest d s =
    let fits : n < 2 ^ 32 = scalar_fits n s in
    let a = scan-Digits 16 (omega arith) (omega arith) d (125 ∷ rest) in
    let b = scan-other 16 (fitting n) 125 rest brace-digit (omega arith) in
    let c = fitting-small n (omega (arith, fits)) in
    rw (a, b, c, s)

-- each element is read, whatever follows it
pub read-Element : {part value : List ℕ} → Element part value → (rest : List ℕ)
    → read_element (part ++ rest) ≡ Some (ValueAndRest value rest)
read-Element (plain c p) rest = read-plain c rest p
read-Element (escape c e) rest = read-escape c rest e
read-Element (byte high low h l) rest = read-digits high low rest h l
read-Element (unicode {digits = digits} {n = n} d s) rest =
    ap (λ (t : List ℕ). read_element (92 ∷ 117 ∷ 123 ∷ t)) (append_assoc digits (125 ∷ []) rest)
    ∙ read-character digits n rest d s

-- ---- what is read is an element

pub record IsRead (text value rest : List ℕ) : Type 0 where
  pub part : List ℕ
  pub text_is : text ≡ part ++ rest
  pub element : Element part value

read_byte-is : (high : ℕ) (text value rest : List ℕ) → read_byte high text ≡ Some (ValueAndRest value rest)
    → IsRead (92 ∷ high ∷ text) value rest
unfolding read_byte
read_byte-is high [] value rest e = absurd cc
read_byte-is high (low ∷ text) value rest e = elim (cases_lt (digit_of high) 16) [
  | inl h ↦ elim (cases_lt (digit_of low) 16) [
    | inl l ↦
        let f : Some (ValueAndRest ((16 * digit_of high + digit_of low) ∷ []) text) ≡ Some (ValueAndRest value rest) =
        rw
        (lt-true (digit_of high) 16 h, lt-true (digit_of low) 16 l) at e in
        let same : text ≡ rest = cc in
        let is : (16 * digit_of high + digit_of low) ∷ [] ≡ value = cc in
        record {
          part = 92 ∷ high ∷ low ∷ [];
          text_is = ap (λ (t : List ℕ). 92 ∷ high ∷ low ∷ t) same;
          element = subst (Element (92 ∷ high ∷ low ∷ [])) is (byte high low h l);
        }
    | inr l ↦ let f : None ≡ Some (ValueAndRest value rest) =
        rw (lt-true (digit_of high) 16 h, lt-false (digit_of low) 16 l) at e in absurd cc
  ]
  | inr h ↦ let f : None ≡ Some (ValueAndRest value rest) = rw (lt-false (digit_of high) 16 h) at e in absurd cc
]

read_closed-is : (text value rest : List ℕ) (number : Option ℕ) (after : List ℕ)
    → scan 16 false (Some 0) text ≡ Some (number, after) → read_closed number after ≡ Some (ValueAndRest value rest)
    → IsRead (92 ∷ 117 ∷ 123 ∷ text) value rest
read_closed-is text value rest None after s e = absurd cc
read_closed-is text value rest (Some n) [] s e = absurd cc
read_closed-is text value rest (Some n) (c ∷ after) s e = elim (cases_eq c 125) [
  | inl b ↦ go (scalar n) refl (rw (eq-true c 125 b) at e) b
  | inr b ↦ let f : None ≡ Some (ValueAndRest value rest) = rw (eq-false c 125 b) at e in absurd cc
]
  where
    go : (t : Bool) → scalar n ≡ t → (if t then Some (ValueAndRest (encode_utf8 n) after) else None) ≡ Some
        (ValueAndRest value rest)
        → c ≡ 125 → IsRead (92 ∷ 117 ∷ 123 ∷ text) value rest
    go true t f b =
        let found = Found-scan 16 (omega arith) (omega arith) text false (Some 0) [] (c ∷ after) (Some n)
        (inl (refl, refl)) s in
        let number : n ≡ found.number = (fitting-some found.number n (sym found.value_is)).0 in
        let digits : Digits 16 found.run n = subst (Digits 16 found.run) (sym number) found.digits in
        let same : after ≡ rest = cc in
        let is : encode_utf8 n ≡ value = cc in
        let whole : text ≡ (found.run ++ 125 ∷ []) ++ rest = found.text_is ∙ cc (b, same)
        ∙ sym (append_assoc found.run (125 ∷ []) rest) in
        record {
          part = 92 ∷ 117 ∷ 123 ∷ (found.run ++ 125 ∷ []);
          text_is = ap (λ (t : List ℕ). 92 ∷ 117 ∷ 123 ∷ t) whole;
          element = subst (Element (92 ∷ 117 ∷ 123 ∷ (found.run ++ 125 ∷ []))) is (unicode digits t);
        }
    go false t f b = absurd cc

read_unicode-is : (text value rest : List ℕ) → read_unicode text ≡ Some (ValueAndRest value rest)
    → IsRead (92 ∷ 117 ∷ text) value rest
unfolding read_unicode
read_unicode-is [] value rest e = absurd cc
read_unicode-is (c ∷ text) value rest e = elim (cases_eq c 123) [
  | inl b ↦ subst (λ (d : ℕ). IsRead (92 ∷ 117 ∷ d
      ∷ text) value rest) (sym b) (go (scan 16 false (Some 0) text) refl (rw (eq-true c 123 b) at e))
  | inr b ↦ let f : None ≡ Some (ValueAndRest value rest) = rw (eq-false c 123 b) at e in absurd cc
]
  where
    go : (s : Option (Option ℕ × List ℕ)) → scan 16 false (Some 0) text ≡ s
        → read_number s ≡ Some (ValueAndRest value rest)
        → IsRead (92 ∷ 117 ∷ 123 ∷ text) value rest
    go None s f = absurd cc
    go (Some p) s f = read_closed-is text value rest p.0 p.1 s f

read_escape-is : (text value rest : List ℕ) → read_escape text ≡ Some (ValueAndRest value rest)
    → IsRead (92 ∷ text) value rest
unfolding read_escape
read_escape-is [] value rest e = absurd cc
read_escape-is (c ∷ text) value rest e = go (escaped c) refl e
  where
    go : (s : Option ℕ) → escaped c ≡ s → read_other s c text ≡ Some (ValueAndRest value rest)
        → IsRead (92 ∷ c ∷ text) value rest
    go (Some v) s f =
        let same : text ≡ rest = cc in
        let is : v ∷ [] ≡ value = cc in
        record {
          part = 92 ∷ c ∷ [];
          text_is = ap (λ (t : List ℕ). 92 ∷ c ∷ t) same;
          element =
              subst (Element (92 ∷ c ∷ [])) is (escape c s);
        }
    go None s f = elim (cases_eq c 117) [
      | inl b ↦ subst (λ (d : ℕ). IsRead (92 ∷ d
          ∷ text) value rest) (sym b) (read_unicode-is text value rest (rw (eq-true c 117 b) at f))
      | inr b ↦ read_byte-is c text value rest (rw (eq-false c 117 b) at f)
    ]

IsPlain-test : (c : ℕ) → c ≢ 92 → is_plain c ≡ true → IsPlain c
IsPlain-test c n h = (grind (arith, nat_tests), grind (arith, nat_tests), grind (arith, nat_tests), n)

pub read_element-is : (text value rest : List ℕ) → read_element text ≡ Some (ValueAndRest value rest)
    → IsRead text value rest
unfolding read_element
read_element-is [] value rest e = absurd cc
read_element-is (c ∷ text) value rest e = elim (cases_eq c 92) [
  | inl b ↦ subst (λ (d : ℕ). IsRead (d ∷ text) value rest) (sym b)
      (read_escape-is text value rest (rw (eq-true c 92 b) at e))
  | inr b ↦ go b (is_plain c) refl (rw (eq-false c 92 b) at e)
]
  where
    go : c ≢ 92 → (t : Bool) → is_plain c ≡ t
        → (if t then Some (ValueAndRest (c ∷ []) text) else None) ≡ Some (ValueAndRest value rest)
        → IsRead (c ∷ text) value rest
    go n true t f =
        let same : text ≡ rest = cc in
        let is : c ∷ [] ≡ value = cc in
        record {
          part = c ∷ [];
          text_is = ap (λ (t : List ℕ). c ∷ t) same;
          element =
              subst (Element (c ∷ [])) is (plain c (IsPlain-test c n t));
        }
    go n false t f = absurd cc

-- ---- no element

pub read_element-none : (text : List ℕ) → NoElement text → read_element text ≡ None
read_element-none text empty = go (read_element text) refl
  where
    go : (r : Option FirstElement) → read_element text ≡ r → read_element text ≡ None
    go None e = e
    go (Some (ValueAndRest value rest)) e =
        let i = read_element-is text value rest e in absurd (empty i.part value rest i.element i.text_is)

pub NoElement-read : (text : List ℕ) → read_element text ≡ None → NoElement text
NoElement-read text unread part value rest element is =
    let e : Some (ValueAndRest value rest) ≡ None = sym (read-Element element rest) ∙ ap read_element (sym is)
    ∙ unread in
    absurd cc

-- ---- elements one after another

pub Elements-one : {part value : List ℕ} → Element part value → Elements part value
Elements-one {part} {value} e = rw (append-nil part, append-nil value) at (more e none)

pub Elements-append : {a b v w : List ℕ} → Elements a v → Elements b w → Elements (a ++ b) (v ++ w)
Elements-append none f = f
Elements-append {b = b} {w = w} (more {part = part} {rest = rest} {value = value} {values = values} e es) f =
    rw (append_assoc part rest b, append_assoc value values w) (more e (Elements-append es f))

-- the elements at the front of a text are those up to where no element begins
pub record SameEnd (r s v w : List ℕ) : Type 0 where
  pub rest_is : r ≡ s
  pub bytes_is : v ≡ w

pub Elements-same : {a b v w : List ℕ} (r s : List ℕ) → Elements a v → Elements b w → a ++ r ≡ b ++ s
    → read_element r ≡ None → read_element s ≡ None → SameEnd r s v w
Elements-same r s none none e m n = record { rest_is = e; bytes_is = refl }
Elements-same r s none (more {part = part} {rest = rest} {value = value} f fs) e m n =
    let whole : r ≡ part ++ (rest ++ s) = e ∙ append_assoc part rest s in
    let g : Some (ValueAndRest value (rest ++ s)) ≡ None = sym (read-Element f (rest ++ s))
    ∙ ap read_element (sym whole)
    ∙ m in
    absurd cc
Elements-same r s (more {part = part} {rest = rest} {value = value} f fs) none e m n =
    let whole : s ≡ part ++ (rest ++ r) = sym e ∙ append_assoc part rest r in
    let g : Some (ValueAndRest value (rest ++ r)) ≡ None = sym (read-Element f (rest ++ r))
    ∙ ap read_element (sym whole)
    ∙ n in
    absurd cc
Elements-same r s (more {part = p} {rest = a} {value = v} {values = vs} f fs)
    (more {part = q} {rest = b} {value = w} {values = ws} g gs) e m n =
    let left : read_element ((p ++ a) ++ r) ≡ Some (ValueAndRest v (a ++ r)) = ap read_element (append_assoc p a r)
    ∙ read-Element f (a ++ r) in
    let right : read_element ((q ++ b) ++ s) ≡ Some (ValueAndRest w (b ++ s)) = ap read_element (append_assoc q b s)
    ∙ read-Element g (b ++ s) in
    let both : Some (ValueAndRest v (a ++ r)) ≡ Some (ValueAndRest w (b ++ s)) = sym left ∙ ap read_element e ∙ right in
    let value : v ≡ w = cc in
    let more' : a ++ r ≡ b ++ s = cc in
    let end = Elements-same r s fs gs more' m n in
    record { rest_is = end.rest_is; bytes_is = cc (value, end.bytes_is) }

-- a quote is no element
pub read_element-quote : (rest : List ℕ) → read_element (34 ∷ rest) ≡ None
unfolding read_element
read_element-quote rest = refl

pub read_element-nil : read_element [] ≡ None
unfolding read_element
read_element-nil = refl

-- ---- how the code goes on

-- one more element
pub EndsElements-step : (text rest : List ℕ) {r : Option FirstElement} (value after : List ℕ)
    → ((body bytes : List ℕ) × (text ≡ body ++ rest) × Elements body bytes) → r ≡ read_element rest
    → r ≡ Some (ValueAndRest value after) → (body bytes : List ℕ) × (text ≡ body ++ after) × Elements body bytes
EndsElements-step text rest value after (body, bytes, is, es) e f =
    let i = read_element-is rest value after (sym e ∙ f) in (
      body ++ i.part,
      bytes ++ value,
      is ∙ ap (λ (t : List ℕ). body ++ t) i.text_is ∙ sym (append_assoc body i.part after),
      Elements-append es (Elements-one i.element),
    )

pub EndsElements-end : (text rest : List ℕ) {r : Option FirstElement}
    → ((body bytes : List ℕ) × (text ≡ body ++ rest) × Elements body bytes) → r ≡ read_element rest → r ≡ None
    → EndsElements text rest
EndsElements-end text rest (body, bytes, is, es) e f =
    record { body = body; bytes = bytes; text_is = is; elements = es; ended = NoElement-read rest (sym e ∙ f) }

-- an element has a byte at least
pub read_element-shorter : (text value rest : List ℕ) → read_element text ≡ Some (ValueAndRest value rest)
    → length rest < length text
read_element-shorter text value rest e =
    let i = read_element-is text value rest e in
    shorter i.element i.text_is
  where
    shorter : {part v : List ℕ} → Element part v → text ≡ part ++ rest → length rest < length text
    shorter (plain c p) is = omega (arith, ap length is)
    shorter (escape c p) is = omega (arith, ap length is)
    shorter (byte high low h l) is = omega (arith, ap length is)
    shorter (unicode {digits = digits} d p) is = omega (arith, ap length is, length-append (digits ++ 125 ∷ []) rest)

pub IsBegun-more : (text rest old new : List ℕ) {r : Option FirstElement} (value after : List ℕ)
    → ((body : List ℕ) × (text ≡ 34 ∷ (body ++ rest)) × Elements body old) → r ≡ read_element rest
    → r ≡ Some (ValueAndRest value after) → new ≡ old ++ value
    → (body : List ℕ) × (text ≡ 34 ∷ (body ++ after)) × Elements body new
IsBegun-more text rest old new value after (body, is, es) e f n =
    let i = read_element-is rest value after (sym e ∙ f) in
    let whole : body ++ rest ≡ (body ++ i.part) ++ after = ap (λ (t : List ℕ). body ++ t) i.text_is
    ∙ sym (append_assoc body i.part after) in (
      body ++ i.part,
      is ∙ ap (λ (t : List ℕ). 34 ∷ t) whole,
      subst (Elements (body ++ i.part)) (sym n) (Elements-append es (Elements-one i.element)),
    )
