-- A literal has one value.
use Rattle.std.proofs.Common.{◌≡◌, ℕ, ◌^◌, ◌<◌, List, ◌∷◌, refl, sym, ap, ◌∙◌, arith}
use Rattle.wc_tokens.specs.Standard.Numbers.{Signed, Unsigned, Plus, Minus, Literal, unsigned, plus, minus}
use Rattle.wc_tokens.specs.Standard.Numbers.{FitsBits, bits_of}
use Rattle.wc_tokens.proofs.Integers.Literals.{same-Natural, HasSign-plus, HasSign-minus}
use Rattle.wc_parse_code.specs.Standard.Tokens.{KeptToken}
use Rattle.wc_parse_code.specs.Standard.Productions.Tokens.{IsLiteral, spelled}

-- the number behind the sign
abbrev size : Signed → ℕ
size (Unsigned n) = n
size (Plus n) = n
size (Minus n) = n

unsigned-or-plus : {n k : ℕ} → Unsigned n ≡ Plus k → ⊥
unsigned-or-plus e = cc

unsigned-or-minus : {n k : ℕ} → Unsigned n ≡ Minus k → ⊥
unsigned-or-minus e = cc

same-literal : {text : List ℕ} {l m : Signed} → Literal text l → Literal text m → size l < 2 ^ 64 → l ≡ m
same-literal (unsigned d) (unsigned e) f = ap Unsigned (same-Natural d e f)
same-literal (unsigned d) (plus {text = t} e) f =
    absurd (unsigned-or-plus ((HasSign-plus (43 ∷ t) t refl).only _ (unsigned d)).2)
same-literal (unsigned d) (minus {text = t} e) f =
    absurd (unsigned-or-minus ((HasSign-minus (45 ∷ t) t refl).only _ (unsigned d)).2)
same-literal (plus {text = t} d) e f =
    let o = (HasSign-plus (43 ∷ t) t refl).only _ e in ap Plus (same-Natural d o.1 f) ∙ sym o.2
same-literal (minus {text = t} d) e f =
    let o = (HasSign-minus (45 ∷ t) t refl).only _ e in ap Minus (same-Natural d o.1 f) ∙ sym o.2

small-32 : (l : Signed) → FitsBits 32 l → size l < 2 ^ 64
small-32 (Unsigned n) f = omega (arith, f)
small-32 (Plus n) f = omega (arith, f)
small-32 (Minus n) f = omega (arith, f)

small-64 : (l : Signed) → FitsBits 64 l → size l < 2 ^ 64
small-64 (Unsigned n) f = omega (arith, f)
small-64 (Plus n) f = omega (arith, f)
small-64 (Minus n) f = omega (arith, f)

pub same-literal-32 : {w : KeptToken} {b c : ℕ} → IsLiteral 32 w b → IsLiteral 32 w c → b ≡ c
same-literal-32 (spelled {l = l} d f) (spelled e g) = ap (bits_of 32) (same-literal d e (small-32 l f))

pub same-literal-64 : {w : KeptToken} {b c : ℕ} → IsLiteral 64 w b → IsLiteral 64 w c → b ≡ c
same-literal-64 (spelled {l = l} d f) (spelled e g) = ap (bits_of 64) (same-literal d e (small-64 l f))
