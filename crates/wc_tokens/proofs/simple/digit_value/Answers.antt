-- What is computed is held against the digits at each of the 256 bytes.
use Rattle.std.proofs.Common.{◌≡◌, ◌+◌, ◌%◌, ◌<◌, ◌||◌, ℕ, nat_eq, nat_lt, not, true, false, if◌then◌else◌, refl, arith}
use Rattle.std.proofs.lemmas.Bool.{agree_below_at}
use Rattle.std.proofs.lemmas.Bool.Decides.{nat_tests}
use Rattle.wc_tokens.specs.Standard.Digits.{digit_of}
use Rattle.wc_tokens.proofs.Integers.Scans.{lt-true, lt-false}
use Rattle.wc_tokens.proofs.simple.digit_value.Goals as goal
use Rattle.wc_tokens.proofs.simple.digit_value.Goals.{then-byte-ge64, else-byte-ge64}

told : (value digit : ℕ) → (not (nat_lt digit 16) || nat_eq value digit) ≡ true → digit < 16 → value ≡ digit
told value digit test lt = grind (arith, nat_tests)

abbrev computed : ℕ → ℕ
computed k = (k % 16 + (if nat_lt k 64 then 0 else 9)) % 16

is-digit : (byte : ℕ) → byte < 256 → digit_of byte < 16 → computed byte ≡ digit_of byte
unfolding digit_of
is-digit byte fits digit =
    let test = agree_below_at (λ k. not (nat_lt (digit_of k) 16) || nat_eq (computed k) (digit_of k)) (λ _.
    true) 256 byte refl fits in
    told (computed byte) (digit_of byte) test digit

pub returns-clause-digit : goal.returns-clause-digit
returns-clause-digit c = λ digit. elim c.if-byte-ge64.branch [
  | then-byte-ge64 w ↦
      let test : nat_lt c.args.byte 64 ≡ false = lt-false c.args.byte 64 w.if-byte-ge64.true in
      rw w.letter-is (rw test at (is-digit c.args.byte (omega arith) digit))
  | else-byte-ge64 w ↦
      let test : nat_lt c.args.byte 64 ≡ true = lt-true c.args.byte 64 w.if-byte-ge64.false in
      rw w.letter-is (rw test at (is-digit c.args.byte (omega arith) digit))
]
