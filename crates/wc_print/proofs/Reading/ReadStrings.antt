-- A printed string stands for its bytes.
use Rattle.std.proofs.Common.{◌≡◌, ℕ, zero, suc, ◌/◌, ◌%◌, ◌<◌, Bool, true, false, if◌then◌else◌, List, [], ◌∷◌, ◌++◌}
use Rattle.std.proofs.Common.{refl, subst, arith}
use Rattle.std.proofs.lemmas.Grind.{common_steps}
use Rattle.std.specs.List.{AllByRecursion, flat_map}
use Rattle.wc_tokens.specs.Standard.Digits.{digit_of}
use Rattle.wc_tokens.specs.Standard.Strings.{IsPlain, Element, plain, byte, Elements, none, more, IsString}
use Rattle.wc_print.specs.Standard.Printed.{hex, stands, escaped}
use Rattle.wc_print.specs.Standard.Printable.{IsByte}

digit-hex : (n : ℕ) → n < 16 → digit_of (hex n) ≡ n
unfolding digit_of
digit-hex zero h = refl
digit-hex (suc zero) h = refl
digit-hex (suc (suc zero)) h = refl
digit-hex (suc (suc (suc zero))) h = refl
digit-hex (suc (suc (suc (suc zero)))) h = refl
digit-hex (suc (suc (suc (suc (suc zero))))) h = refl
digit-hex (suc (suc (suc (suc (suc (suc zero)))))) h = refl
digit-hex (suc (suc (suc (suc (suc (suc (suc zero))))))) h = refl
digit-hex (suc (suc (suc (suc (suc (suc (suc (suc zero)))))))) h = refl
digit-hex (suc (suc (suc (suc (suc (suc (suc (suc (suc zero))))))))) h = refl
digit-hex (suc (suc (suc (suc (suc (suc (suc (suc (suc (suc zero)))))))))) h = refl
digit-hex (suc (suc (suc (suc (suc (suc (suc (suc (suc (suc (suc zero))))))))))) h = refl
digit-hex (suc (suc (suc (suc (suc (suc (suc (suc (suc (suc (suc (suc zero)))))))))))) h = refl
digit-hex (suc (suc (suc (suc (suc (suc (suc (suc (suc (suc (suc (suc (suc zero))))))))))))) h = refl
digit-hex (suc (suc (suc (suc (suc (suc (suc (suc (suc (suc (suc (suc (suc (suc zero)))))))))))))) h = refl
digit-hex (suc (suc (suc (suc (suc (suc (suc (suc (suc (suc (suc (suc (suc (suc (suc zero))))))))))))))) h = refl
digit-hex (suc (suc (suc (suc (suc (suc (suc (suc (suc (suc (suc (suc (suc (suc (suc (suc n)))))))))))))))) h =
    absurd (omega (arith, h))

IsPlain-stands : (b : ℕ) → stands b ≡ true → IsPlain b
IsPlain-stands b e = grind (arith, common_steps)

element : (b : ℕ) (s : Bool) → stands b ≡ s → b < 256
    → Element (if s then b ∷ [] else 92 ∷ hex (b / 16) ∷ hex (b % 16) ∷ []) (b ∷ [])
element b true e lt = plain b (IsPlain-stands b e)
element b false e lt =
    let high : b / 16 < 16 = omega arith in
    let low : b % 16 < 16 = omega arith in
    let h = digit-hex (b / 16) high in
    let l = digit-hex (b % 16) low in
    let P : ℕ → Type 0 = λ v. Element (92 ∷ hex (b / 16) ∷ hex (b % 16) ∷ []) (v ∷ []) in
    subst P (omega (arith, h, l)) (byte (hex (b / 16)) (hex (b % 16)) (omega (arith, h, high)) (omega (arith, l, low)))

pub elements : (bytes : List ℕ) → AllByRecursion IsByte bytes → Elements (flat_map escaped bytes) bytes
elements [] h = none
elements (b ∷ bytes) h = more (element b (stands b) refl h.0) (elements bytes h.1)

pub IsString-escaped : (bytes : List ℕ) → AllByRecursion IsByte bytes
    → IsString (34 ∷ (flat_map escaped bytes ++ 34 ∷ [])) bytes
IsString-escaped bytes h = record { body = flat_map escaped bytes; text_is = refl; elements = elements bytes h }
