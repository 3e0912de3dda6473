-- What a kept token says by itself, to the code and to the grammar.
use Rattle.std.proofs.Common.{◌≡◌, ℕ, ◌^◌, ◌<◌, Bool, true, false, List, ◌++◌, length}
use Rattle.std.proofs.Common.{Option, Some, None, inl, inr, refl, sym, ap, ◌∙◌, subst, append-nil, arith}
use Rattle.std.specs.Prelude.{◌%◌, if◌then◌else◌}
use Rattle.std.proofs.lemmas.Bool.{lt-ltb}
use Rattle.std.proofs.Math.Nat.{mod-eq_of_lt}
use Rattle.wc_tokens.specs.declared.token.TokenKind.{TokenKind}
use Rattle.wc_tokens.specs.declared.token.TokenKind.TheVariants as token
use Rattle.wc_tokens.specs.Standard.Numbers.{Signed, Literal, FitsBits, bits_of}
use Rattle.wc_syntax.specs.declared.kind.Kind.{Kind}
use Rattle.wc_syntax.specs.declared.kind.Kind.TheVariants as kind
use Rattle.wc_symbols.specs.declared.symbol.Symbol.{Symbol}
use Rattle.wc_symbols.specs.declared.symbol.Value.{Value}
use Rattle.wc_symbols.specs.declared.symbol.Value.TheVariants.{Number, Exponent}
use Rattle.wc_symbols.specs.Standard.Tokens.{TokenIs, StringIs}
use Rattle.wc_symbols.specs.Standard.Ranges.{FitsKind}
use Rattle.wc_symbols.proofs.RangeLemmas.{has-32, has-64}
use Rattle.wc_surface.specs.declared.instr.Operand.TheVariants as operand
use Rattle.wc_surface.specs.Standard.Identifiers.{Identifier}
use Rattle.wc_surface.specs.Standard.Written.Indices.{Index, number, named}
use Rattle.wc_parse_code.specs.Standard.Tokens.{KeptToken}
use Rattle.wc_parse_code.specs.Drafting.Words.{place_behind, number_in, index_by, index_of, operand_by, operand_of}
use Rattle.wc_parse_code.specs.Drafting.Words.{ids_by, ids_with}
use Rattle.wc_parse_code.specs.Standard.Productions.Tokens.{IsIndex, u32, id, bytes, IsLiteral, spelled}
use Rattle.wc_parse_code.specs.Standard.Productions.Kept.{IsSpoken}
use Rattle.wc_parse_code.specs.Stored.TypeUses.{index_as}
use Rattle.wc_parse_code.specs.Stored.Rows.{id_in}
use Rattle.wc_parse_code.specs.Stored.Bodies.{Places, operand_as}
use Rattle.wc_parse_code.proofs.SomeValue.Spoken.{is_wide, spoken-fits}
use Rattle.wc_parse_code.proofs.Storing.Ordered.Placing.{Placed}

-- the number that an index is
abbrev pub number_of : Index → Option ℕ
number_of (number token n) = Some n
number_of (named i) = None

-- the number that a value is
abbrev value_of : Value → ℕ
value_of (Number n) = n
value_of _ = 0

-- a row of fewer than 2^32 has its length as the place behind it
pub behind : {X : Type 0} (xs : List X) → length xs < 2 ^ 32 → place_behind xs ≡ length xs
behind xs h = mod-eq_of_lt h

pub number-is : {w : KeptToken} {x : Index} → IsSpoken w → IsIndex w x → number_in w.symbol.value ≡ number_of x
number-is {w = w} s (u32 {n = n} h) =
    let fits : FitsKind kind.Natural32 w.symbol.value =
    subst (λ (k : Kind). FitsKind k w.symbol.value) h.kind_is (spoken-fits s) in
    let same : n ≡ fits.0 = ap value_of (sym h.value_is ∙ fits.1) in
    let less : n < 2 ^ 32 = rw same fits.2 in
    ap number_in h.value_is ∙ ap (λ b. if b then Some n else None) (lt-ltb n (2 ^ 32) less)
number-is {w = w} s (id (bytes e)) =
    let fits : FitsKind kind.Id w.symbol.value = subst (λ (k : Kind). FitsKind k w.symbol.value) e (spoken-fits s) in
    ap number_in fits

pub stored-index : {w : KeptToken} {x : Index} → IsSpoken w → IsIndex w x → index_of w ≡ index_as x
stored-index {w = w} s (u32 h) = ap (λ (n : Option ℕ). index_by n w) (number-is s (u32 h))
stored-index {w = w} s (id (bytes e)) = ap (λ (n : Option ℕ). index_by n w) (number-is s (id (bytes e)))

pub stored-id : {w : KeptToken} {x : Index} (ids : List Identifier) → IsSpoken w → IsIndex w x
    → ids_with w ids ≡ ids ++ id_in x
stored-id {w = w} ids s (u32 h) =
    ap (λ (n : Option ℕ). ids_by n w ids) (number-is s (u32 h)) ∙ sym (append-nil ids)
stored-id {w = w} ids s (id (bytes e)) = ap (λ (n : Option ℕ). ids_by n w ids) (number-is s (id (bytes e)))

pub stored-operand : (places : Places) {w : KeptToken} {x : Index} (ids : List Identifier) → IsSpoken w → IsIndex w x
    → Placed places.id_at (λ i. i.token) (length ids) (id_in x) → operand_of w ids ≡ operand_as places x
stored-operand places {w = w} ids s (u32 h) p = ap (λ (n : Option ℕ). operand_by n ids) (number-is s (u32 h))
stored-operand places {w = w} ids s (id (bytes e)) p =
    ap (λ (n : Option ℕ). operand_by n ids) (number-is s (id (bytes e)))
    ∙ ap (λ (n : ℕ). operand.Named n) (behind ids p.1 ∙ sym p.0)

-- ---- the exponent of an alignment

abbrev is_exponent : Value → Bool
is_exponent (Exponent e) = true
is_exponent _ = false

abbrev exponent_in : Value → ℕ
exponent_in (Exponent e) = e
exponent_in _ = 0

no-exponent : {e : ℕ} {v : Value} {A : Type 0} → Exponent e ≡ v → is_exponent v ≡ false → A
no-exponent h f = absurd (differ (sym f ∙ ap is_exponent (sym h)))
  where
    differ : false ≡ true → ⊥
    differ e = cc

small-exponent : (k : Kind) (e : ℕ) → FitsKind k (Exponent e) → e < 256
small-exponent kind.Natural32 e f = no-exponent f.1 refl
small-exponent kind.Natural64 e f = no-exponent f.1 refl
small-exponent kind.Signed32 e f = no-exponent f.1 refl
small-exponent kind.Signed64 e f = no-exponent f.1 refl
small-exponent kind.MemOffset e f = no-exponent f.1 refl
small-exponent kind.MemAlign e f = let same : e ≡ f.0 = ap exponent_in f.1 in omega (arith, same, f.2)
small-exponent kind.Simple e f = no-exponent f.1 refl
small-exponent kind.Indexed e f = no-exponent f.1 refl
small-exponent kind.Access e f = no-exponent f.1 refl
small-exponent kind.BrTable e f = no-exponent f refl
small-exponent kind.CallIndirect e f = no-exponent f refl
small-exponent kind.Const32 e f = no-exponent f refl
small-exponent kind.Const64 e f = no-exponent f refl
small-exponent kind.Region e (inl f) = no-exponent f refl
small-exponent kind.Region e (inr f) = no-exponent f refl
small-exponent kind.If e f = no-exponent f refl
small-exponent kind.ValType e f = no-exponent f.1 refl
small-exponent _ e f = no-exponent f refl

pub exponent-fits : {w : KeptToken} {e : ℕ} → IsSpoken w → w.symbol.value ≡ Exponent e → e < 256
exponent-fits {w = w} {e = e} s h =
    small-exponent w.symbol.kind e (subst (λ (v : Value). FitsKind w.symbol.kind v) h (spoken-fits s))

-- ---- the bits of a constant

never : {A : Type 0} {s t : Symbol} → s ≡ t → is_wide t.kind ≡ false → is_wide s.kind ≡ true → A
never e f g = absurd (differ (sym f ∙ ap (λ (o : Symbol). is_wide o.kind) (sym e) ∙ g))
  where
    differ : false ≡ true → ⊥
    differ e = cc

no-string : {A : Type 0} {text : List ℕ} {s : Symbol} → StringIs text s → is_wide s.kind ≡ true → A
no-string (StringIs.name i u) e = absurd (differ e)
  where
    differ : false ≡ true → ⊥
    differ e = cc
no-string (StringIs.no_name i u) e = absurd (differ e)
  where
    differ : false ≡ true → ⊥
    differ e = cc

-- the value is a number with these lower bits
abbrev pub HasBits32 : Value → ℕ → Type 0
HasBits32 v b = (n : ℕ) × (v ≡ Number n) × (n % 2 ^ 32 ≡ b)

token-32 : (form : TokenKind) (text : List ℕ) (s : Symbol) (l : Signed) → TokenIs form text s → is_wide s.kind ≡ true
    → Literal text l → FitsBits 32 l → HasBits32 s.value (bits_of 32 l)
token-32 token.Open text s l t e d f = never t refl e
token-32 token.Close text s l t e d f = never t refl e
token-32 token.Id text s l t e d f = never t refl e
token-32 token.Str text s l t e d f = no-string t e
token-32 token.Word text s l t e d f = let h = has-32 text s l t d f in (h.bits, h.value_is, h.lower)

token-64 : (form : TokenKind) (text : List ℕ) (s : Symbol) (l : Signed) → TokenIs form text s → is_wide s.kind ≡ true
    → Literal text l → FitsBits 64 l → s.value ≡ Number (bits_of 64 l)
token-64 token.Open text s l t e d f = never t refl e
token-64 token.Close text s l t e d f = never t refl e
token-64 token.Id text s l t e d f = never t refl e
token-64 token.Str text s l t e d f = no-string t e
token-64 token.Word text s l t e d f = (has-64 text s l t d f).value_is

pub bits-32 : {w : KeptToken} {b : ℕ} → IsSpoken w → is_wide w.symbol.kind ≡ true → IsLiteral 32 w b
    → HasBits32 w.symbol.value b
bits-32 {w = w} s e (spelled {l = l} d f) = token-32 s.form w.text w.symbol l s.says e d f

pub bits-64 : {w : KeptToken} {b : ℕ} → IsSpoken w → is_wide w.symbol.kind ≡ true → IsLiteral 64 w b
    → w.symbol.value ≡ Number b
bits-64 {w = w} s e (spelled {l = l} d f) = token-64 s.form w.text w.symbol l s.says e d f
