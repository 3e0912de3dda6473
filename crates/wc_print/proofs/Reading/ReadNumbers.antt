-- A printed number is a literal of that number.
use Rattle.std.proofs.Common.{◌≡◌, ℕ, zero, suc, ◌+◌, ◌/◌, ◌%◌, ◌^◌, ◌<◌, ℤ, pos, negsuc, List, [], ◌∷◌, ◌++◌, refl}
use Rattle.std.proofs.Common.{subst, arith}
use Rattle.std.specs.Fmt.{decimal, signed_decimal}
use Rattle.std.proofs.lemmas.Fmt.{decimal_by_steps}
use lib.Signed.{mag}
use Rattle.wc_tokens.specs.Standard.Digits.{digit_of, Digits, one, more}
use Rattle.wc_print.specs.Standard.ReadAs.{read_as}
use Rattle.wc_tokens.specs.Standard.Numbers.{decimal as is_decimal, Literal, unsigned, minus}

digit-is : (n : ℕ) → n < 10 → digit_of (48 + n) ≡ n
unfolding digit_of
digit-is zero h = refl
digit-is (suc zero) h = refl
digit-is (suc (suc zero)) h = refl
digit-is (suc (suc (suc zero))) h = refl
digit-is (suc (suc (suc (suc zero)))) h = refl
digit-is (suc (suc (suc (suc (suc zero))))) h = refl
digit-is (suc (suc (suc (suc (suc (suc zero)))))) h = refl
digit-is (suc (suc (suc (suc (suc (suc (suc zero))))))) h = refl
digit-is (suc (suc (suc (suc (suc (suc (suc (suc zero)))))))) h = refl
digit-is (suc (suc (suc (suc (suc (suc (suc (suc (suc zero))))))))) h = refl
digit-is (suc (suc (suc (suc (suc (suc (suc (suc (suc (suc n)))))))))) h = absurd (omega (arith, h))

first-digit : (n : ℕ) → n < 10 → Digits 10 ((48 + n) ∷ []) n
first-digit n lt =
    let e = digit-is n lt in
    let P : ℕ → Type 0 = λ v. Digits 10 ((48 + n) ∷ []) v in
    subst P e (one (48 + n) (omega (arith, e, lt)))

next-digit : (n : ℕ) (ds : List ℕ) → Digits 10 ds (n / 10) → Digits 10 (ds ++ ((48 + n % 10) ∷ [])) n
next-digit n ds front =
    let lt : n % 10 < 10 = omega arith in
    let e = digit-is (n % 10) lt in
    let P : ℕ → Type 0 = λ v. Digits 10 (ds ++ ((48 + n % 10) ∷ [])) v in
    subst P (omega (arith, e)) (more (48 + n % 10) front (omega (arith, e, lt)))

pub Digits-decimal : (n : ℕ) → n < 2 ^ 64 → Digits 10 (decimal n) n
Digits-decimal = decimal_by_steps (λ n ds. Digits 10 ds n) first-digit (λ n ds le front. next-digit n ds front)

pub Literal-signed : (z : ℤ) → mag z < 2 ^ 63 → Literal (signed_decimal z) (read_as z)
Literal-signed (pos n) lt = unsigned (is_decimal (Digits-decimal n (omega (arith, lt))))
Literal-signed (negsuc n) lt = minus (is_decimal (Digits-decimal (suc n) (omega (arith, lt))))
