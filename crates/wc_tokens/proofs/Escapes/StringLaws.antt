-- How a string's bytes are read.
use Rattle.std.proofs.Common.{◌≡◌, ℕ, ◌-◌, List, [], ◌∷◌, ◌++◌, length, take, drop, Option, None, sym, subst, ◌∙◌}
use Rattle.std.proofs.Common.{ap, append_assoc, arith}
use Rattle.std.proofs.lemmas.List.{take_all, take-append-drop}
use Rattle.wc_tokens.specs.Standard.Strings.{Elements, none, IsString}
use Rattle.wc_tokens.specs.Reading.Elements.{FirstElement, read_element}
use Rattle.wc_tokens.proofs.Escapes.ElementLaws.{Elements-append, Elements-same, read_element-quote}

-- elements of the bytes so far stand behind the quote, and then what is left
abbrev pub IsBegun : List ℕ → List ℕ → List ℕ → Type 0
IsBegun text rest bytes = (body : List ℕ) × (text ≡ 34 ∷ (body ++ rest)) × Elements body bytes

pub IsBegun-quote : (text bytes : List ℕ) → (value : List ℕ) × IsString text value → bytes ≡ text → (bytes' : List ℕ)
    → bytes' ≡ [] → IsBegun text (take (length bytes - 1) (drop 1 bytes)) bytes'
IsBegun-quote text bytes (value, s) same bytes' empty =
    let start : text ≡ 34 ∷ take (length text - 1) (drop 1 text) = behind text (s.body ++ 34 ∷ []) s.text_is in (
      [],
      subst (λ (t : List ℕ). text ≡ 34 ∷ take (length t - 1) (drop 1 t)) (sym same) start,
      subst (Elements []) (sym empty) none,
    )
  where
    behind : (text tail : List ℕ) → text ≡ 34 ∷ tail → text ≡ 34 ∷ take (length text - 1) (drop 1 text)
    behind [] tail e = absurd cc
    behind (c ∷ text) tail e =
        let first : c ≡ 34 = cc in
        let all = take_all (length (c ∷ text) - 1) text (omega arith) in
        cc (first, all)

-- where no element stands the string's bytes are complete
pub IsBegun-end : (text rest bytes : List ℕ) {r : Option FirstElement} → IsBegun text rest bytes → r ≡ read_element rest
    → r ≡ None → (value : List ℕ) → IsString text value → bytes ≡ value
IsBegun-end text rest bytes (body, is, es) e f value s =
    let whole : 34 ∷ (body ++ rest) ≡ 34 ∷ (s.body ++ 34 ∷ []) = sym is ∙ s.text_is in
    let same : body ++ rest ≡ s.body ++ 34 ∷ [] = cc in
    (Elements-same rest (34 ∷ []) es s.elements same (sym e ∙ f) (read_element-quote [])).bytes_is

-- a run of elements more
pub IsBegun-run : (text rest old new values : List ℕ) (len : ℕ) → IsBegun text rest old
    → Elements (take len rest) values
    → new ≡ old ++ values → IsBegun text (drop len rest) new
IsBegun-run text rest old new values len (body, is, es) fs n =
    let whole : body ++ rest ≡ (body ++ take len rest) ++ drop len rest = ap (λ (t : List ℕ). body ++ t)
    (sym (take-append-drop len rest)) ∙ sym (append_assoc body (take len rest) (drop len rest)) in (
      body ++ take len rest,
      is ∙ ap (λ (t : List ℕ). 34 ∷ t) whole,
      subst (Elements (body ++ take len rest)) (sym n) (Elements-append es fs),
    )
