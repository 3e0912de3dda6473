-- Strings whose bytes are UTF-8.
use Rattle.std.proofs.Common.{◌≡◌, ℕ, ◌==◌, ◌||◌, Bool, true, false, ◌↔◌, IsTrue, IsUtf8, List}
use Rattle.std.proofs.Common.{Some, None, [], ◌∷◌, ◌++◌, ◌-◌, length, take, drop, get_or}
use Rattle.std.proofs.Common.{refl, sym, ap, subst, ◌∙◌, arith, length-append, lit<, append_assoc}
use Rattle.std.specs.List.{list_any}
use Rattle.std.proofs.lemmas.Str.{IsUtf8-drop, IsUtf8-take, IsCharBoundary-after_ascii, IsCharBoundary-before_ascii}
use Rattle.wc_tokens.specs.Standard.Strings.{Element, plain, escape, byte, unicode, Elements, none, more, IsString}
use Rattle.wc_tokens.specs.Reading.Elements.{ValueAndRest, read_element}
use Rattle.wc_tokens.proofs.Escapes.ElementLaws.{Elements-same, read-Element, read_element-quote}
use Rattle.wc_tokens.proofs.Escapes.StringLaws.{IsBegun}
use Rattle.wc_syntax.specs.declared.kind.Kind.TheVariants as kind
use Rattle.wc_symbols.specs.declared.symbol.Symbol.{Symbol}
use Rattle.wc_symbols.specs.Standard.Symbols.{bare}
use Rattle.wc_symbols.specs.Standard.Tokens.{StringIs, name, no_name}
use Rattle.wc_symbols.proofs.Spelling.Utf8Lemmas.{front-none}
use Rattle.simdutf8.specs.Steps.{Steps}

abbrev any_backslash : List ℕ → Bool
any_backslash text = list_any (λ c. c == 92) text

or-both : (a b : Bool) → (a || b) ≡ false → (a ≡ false) × (b ≡ false)
or-both true b e = absurd cc
or-both false b e = (refl, e)

any-append : (xs ys : List ℕ) → any_backslash (xs ++ ys) ≡ false → (any_backslash xs ≡ false)
    × (any_backslash ys ≡ false)
any-append [] ys e = (refl, e)
any-append (x ∷ xs) ys e =
    let p = or-both (x == 92) (any_backslash (xs ++ ys)) e in
    let q = any-append xs ys p.1 in
    (rw (p.0) q.0, q.1)

-- an element without a backslash stands for itself
same-part : {part value : List ℕ} → Element part value → any_backslash part ≡ false → value ≡ part
same-part (plain c p) e = refl
same-part (escape c v) e = absurd cc
same-part (byte h l p q) e = absurd cc
same-part (unicode d p) e = absurd cc

same-body : {body bytes : List ℕ} → Elements body bytes → any_backslash body ≡ false → bytes ≡ body
same-body none e = refl
same-body (more {part = part} {rest = rest} {value = value} {values = values} f fs) e =
    let p = any-append part rest e in
    let a : value ≡ part = same-part f p.0 in
    let b : values ≡ rest = same-body fs p.1 in
    cc

inside : (body : List ℕ) → IsUtf8 (34 ∷ (body ++ 34 ∷ [])) → IsUtf8 body
inside body u =
    let text = 34 ∷ (body ++ 34 ∷ []) in
    let first = IsCharBoundary-after_ascii text 0 u (omega arith) (lit< tt) in
    let v : IsUtf8 (body ++ 34 ∷ []) = IsUtf8-drop text 1 u first in
    let quote : get_or (body ++ 34 ∷ []) (length body) 0 ≡ 34 = get_or-append_seam body in
    let last = IsCharBoundary-before_ascii (body ++ 34 ∷ []) (length body)
    (omega (arith, length-append body (34 ∷ []))) (omega (arith, quote)) in
    subst IsUtf8 (take-append_seam body (34 ∷ [])) (IsUtf8-take (body ++ 34 ∷ []) (length body) v last)
  where
    get_or-append_seam : (xs : List ℕ) → get_or (xs ++ 34 ∷ []) (length xs) 0 ≡ 34
    get_or-append_seam [] = refl
    get_or-append_seam (x ∷ xs) = get_or-append_seam xs

    take-append_seam : (xs ys : List ℕ) → take (length xs) (xs ++ ys) ≡ xs
    take-append_seam [] ys = refl
    take-append_seam (x ∷ xs) ys = ap (λ (t : List ℕ). x ∷ t) (take-append_seam xs ys)

-- a string without escapes in a text is a name
pub plain-name : (text bytes : List ℕ) → IsUtf8 text → list_any (λ c. c == 92) text ≡ false → IsString text bytes
    → IsUtf8 bytes
plain-name text bytes u e s =
    let whole : any_backslash (34 ∷ (s.body ++ 34 ∷ [])) ≡ false =
    subst (λ (t : List ℕ). any_backslash t ≡ false) s.text_is e in
    let body = (any-append s.body (34 ∷ []) whole).0 in
    let same : bytes ≡ s.body = same-body s.elements body in
    subst IsUtf8 (sym same) (inside s.body (subst IsUtf8 s.text_is u))

take-body : (xs ys : List ℕ) → take (length xs) (xs ++ ys) ≡ xs
take-body [] ys = refl
take-body (x ∷ xs) ys = ap (λ (t : List ℕ). x ∷ t) (take-body xs ys)

-- what is between the quotes of a string
between : (body : List ℕ) (last : ℕ) → last ≡ length (34 ∷ (body ++ 34 ∷ [])) - 1
    → take (last - 1) (drop 1 (34 ∷ (body ++ 34 ∷ []))) ≡ body
between body last e =
    let n : last - 1 ≡ length body = omega (arith, e, length-append body (34 ∷ [])) in
    rw n (take-body body (34 ∷ []))

-- a string without escapes stands for what is between its quotes
pub plain-string : (text bytes part : List ℕ) (last : ℕ) → list_any (λ c. c == 92) text ≡ false → IsString text bytes
    → last ≡ length text - 1 → part ≡ take (last - 1) (drop 1 text) → IsString text part
plain-string text bytes part last e s is_last is_part =
    let whole : any_backslash (34 ∷ (s.body ++ 34 ∷ [])) ≡ false =
    subst (λ (t : List ℕ). any_backslash t ≡ false) s.text_is e in
    let body = (any-append s.body (34 ∷ []) whole).0 in
    let same : bytes ≡ s.body = same-body s.elements body in
    let inner : take (last - 1) (drop 1 text) ≡ s.body =
    rw s.text_is (between s.body last (subst (λ (t : List ℕ). last ≡ length t - 1) s.text_is is_last)) in
    record {
      body = s.body;
      text_is = s.text_is;
      elements = subst (λ (t : List ℕ). Elements s.body t) (same ∙ sym inner ∙ sym is_part) s.elements;
    }

pub string-name : (text bytes : List ℕ) (r : Bool) (s : Symbol) → IsString text bytes → IsTrue r ↔ IsUtf8 bytes
    → r ≡ true → s ≡ bare kind.Name → StringIs text s
string-name text bytes r s i u e is = rw is (name i (u.0 e))

pub string-text : (text bytes : List ℕ) (r : Bool) (s : Symbol) → IsString text bytes → IsTrue r ↔ IsUtf8 bytes
    → r ≡ false → s ≡ bare kind.Text → StringIs text s
string-text text bytes r s i u e is = rw is (no_name i (λ v. let t : r ≡ true = u.1 v in absurd cc))

-- a string stands for one list of bytes
pub IsString-same : {text v w : List ℕ} → IsString text v → IsString text w → v ≡ w
IsString-same {text} {v} {w} a b =
    let e : 34 ∷ (a.body ++ 34 ∷ []) ≡ 34 ∷ (b.body ++ 34 ∷ []) = sym a.text_is ∙ b.text_is in
    let f : a.body ++ 34 ∷ [] ≡ b.body ++ 34 ∷ [] = cc in
    (Elements-same (34 ∷ []) (34 ∷ []) a.elements b.elements f (read_element-quote []) (read_element-quote [])).bytes_is

pub StringIs-same : {text : List ℕ} {s o : Symbol} → StringIs text s → StringIs text o → s ≡ o
StringIs-same (name i u) (name j v) = refl
StringIs-same (no_name i u) (no_name j v) = refl
StringIs-same (name i u) (no_name j v) = absurd (v (subst IsUtf8 (IsString-same i j) u))
StringIs-same (no_name i u) (name j v) = absurd (u (subst IsUtf8 (IsString-same j i) v))

-- ---- strings of which the front was read

-- the bytes of elements at the front begin those of the whole
Elements-begin : {a b v w : List ℕ} (r s : List ℕ) → Elements a v → Elements b w → a ++ r ≡ b ++ s
    → read_element s ≡ None → (behind : List ℕ) × (w ≡ v ++ behind)
Elements-begin {w = w} r s none g e n = (w, refl)
Elements-begin r s (more {part = part} {rest = rest} {value = value} f fs) none e n =
    let whole : s ≡ part ++ (rest ++ r) = sym e ∙ append_assoc part rest r in
    let k : Some (ValueAndRest value (rest ++ r)) ≡ None = sym (read-Element f (rest ++ r))
    ∙ ap read_element (sym whole)
    ∙ n in
    absurd cc
Elements-begin r s (more {part = p} {rest = a} {value = v} {values = vs} f fs)
    (more {part = q} {rest = b} {value = w} {values = ws} g gs) e n =
    let left : read_element ((p ++ a) ++ r) ≡ Some (ValueAndRest v (a ++ r)) = ap read_element (append_assoc p a r)
    ∙ read-Element f (a ++ r) in
    let right : read_element ((q ++ b) ++ s) ≡ Some (ValueAndRest w (b ++ s)) = ap read_element (append_assoc q b s)
    ∙ read-Element g (b ++ s) in
    let both : Some (ValueAndRest v (a ++ r)) ≡ Some (ValueAndRest w (b ++ s)) = sym left ∙ ap read_element e ∙ right in
    let value : v ≡ w = cc in
    let others : a ++ r ≡ b ++ s = cc in
    let i = Elements-begin r s fs gs others n in (
      i.0,
      ap (λ (x : List ℕ). w ++ x) i.1 ∙ ap (λ (x : List ℕ). x ++ (vs ++ i.0)) (sym value)
          ∙ sym (append_assoc v vs i.0),
    )

-- where these are the front of no UTF-8, the string is no name
pub broken-front : (text rest read bytes : List ℕ) → IsBegun text rest read → ¬ (Steps 0 0 0 read) → IsString text bytes
    → ¬ (IsUtf8 bytes)
broken-front text rest read bytes (body, is, es) broken s u =
    let whole : 34 ∷ (body ++ rest) ≡ 34 ∷ (s.body ++ 34 ∷ []) = sym is ∙ s.text_is in
    let same : body ++ rest ≡ s.body ++ 34 ∷ [] = cc in
    let i = Elements-begin rest (34 ∷ []) es s.elements same (read_element-quote []) in
    front-none read i.0 broken (subst IsUtf8 i.1 u)
