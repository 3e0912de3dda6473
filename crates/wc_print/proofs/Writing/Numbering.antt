-- Numbers as they are put.
use Rattle.std.proofs.Common.{◌≡◌, ℕ, ◌+◌, ◌<◌, ◌^◌, ℤ, pos, negsuc, List, [], ◌∷◌, ◌++◌, refl, sym, ap, ◌∙◌, arith}
use Rattle.std.proofs.Common.{append_assoc}
use Rattle.std.proofs.lemmas.List.{append-nil}
use Rattle.std.proofs.lemmas.Fmt.{decimal_digit}
use Rattle.std.specs.Fmt.{decimal, signed_decimal}
use Rattle.std.specs.Int.RustNames.{unsigned_abs}
use lib.Signed.{mag}
use Rattle.wc_print.specs.Standard.Printed.{number, integer, after}
use Rattle.wc_print.specs.Standard.Printable.{Put}
use Rattle.wc_print.specs.Standard.Going.{Says, Puts}
use Rattle.wc_print.specs.Writing.Numbers.{sign}
use Rattle.wc_print.proofs.Writing.Going.{text}

behind : (old ds new : List ℕ) → new ≡ old ++ (32 ∷ ds) → new ≡ old ++ (32 ∷ (ds ++ []))
behind old ds new e = e ∙ ap (λ (x : List ℕ). old ++ (32 ∷ x)) (sym (append-nil ds))

pub number-put : (n : ℕ) (old new : List ℕ) → n < 2 ^ 32 → new ≡ old ++ (32 ∷ decimal n)
    → Put (after (number n) ∷ []) old new
number-put n old new lt e = record { spelled = (omega (arith, lt), tt); bytes = behind old (decimal n) new e }

-- the sign, and the digits behind it
signed : (z : ℤ) → signed_decimal z ≡ sign z ++ decimal (unsigned_abs z)
signed (pos n) = refl
signed (negsuc n) = refl

pub integer-put : (z : ℤ) (old mid new : List ℕ) → mag z < 2 ^ 63 → mid ≡ old ++ (32 ∷ sign z)
    → new ≡ mid ++ decimal (unsigned_abs z) → Put (after (integer z) ∷ []) old new
integer-put z old mid new lt m e = record {
  spelled = (lt, tt);
  bytes = behind old (signed_decimal z) new (rw (e, m, signed z) (simp append_assoc));
}

module _ {F S : Type 0} {Has : F → S → List ℕ → Type 0} where
  -- a number of one digit
  pub digit-put : (n : ℕ) {old new : S} → n < 10 → Says Has (32 ∷ (48 + n) ∷ []) old new
      → Puts Has (after (number n) ∷ []) old new
  digit-put n lt k =
      text (after (number n) ∷ []) (
        omega (arith, lt),
        tt,
      ) (ap (λ (x : List ℕ). 32 ∷ (x ++ [])) (sym (decimal_digit n lt))) k
