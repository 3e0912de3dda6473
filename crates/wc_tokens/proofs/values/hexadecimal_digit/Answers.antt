-- The table is held against the digits at each of the 256 bytes, by computing.
use Rattle.std.proofs.Common.{◌≡◌, ◌<◌, ◌||◌, ◌&&◌, ℕ, nat_eq, nat_le, nat_lt, true, get_or, refl, arith}
use Rattle.std.proofs.lemmas.Bool.{agree_below_at}
use Rattle.std.proofs.lemmas.Bool.Decides.{nat_tests}
use Rattle.wc_tokens.specs.declared.values.TheConstants.{HEXADECIMAL}
use Rattle.wc_tokens.specs.Standard.Digits.{digit_of}
use Rattle.wc_tokens.proofs.values.hexadecimal_digit.Goals as goal

-- what the test of an entry tells
told : (entry digit : ℕ) → (nat_le 256 entry || (nat_eq entry digit && nat_lt digit 16)) ≡ true → entry < 256
    → (digit < 16) × (entry ≡ digit)
told entry digit test lt = (grind (arith, nat_tests), grind (arith, nat_tests))

pub returns-clause-within : goal.returns-clause-within
returns-clause-within c =
    let byte = c.args.byte in
    let test = agree_below_at (λ k. nat_le (get_or HEXADECIMAL k 0) 256) (λ _. true) 256 byte refl (omega arith) in
    grind (arith, nat_tests, c.from.ensures)

pub returns-clause-digit : goal.returns-clause-digit
unfolding digit_of
returns-clause-digit c = λ lt.
    let byte = c.args.byte in
    let test = agree_below_at
    (λ k. nat_le 256 (get_or HEXADECIMAL k 0)
    || (nat_eq (get_or HEXADECIMAL k 0) (digit_of k) && nat_lt (digit_of k) 16))
    (λ _. true) 256 byte refl (omega arith) in
    let same = c.from.ensures in
    rw same (told (get_or HEXADECIMAL byte 0) (digit_of byte) test (rw same at lt))
