-- The table is held against the plain bytes at each of the 256 bytes, by computing.
use Rattle.std.proofs.Common.{◌≡◌, ◌<◌, ◌||◌, ◌&&◌, ℕ, nat_eq, nat_le, not, true, get_or, refl, arith}
use Rattle.std.proofs.lemmas.Bool.{agree_below_at}
use Rattle.std.proofs.lemmas.Bool.Decides.{nat_tests}
use Rattle.wc_tokens.specs.declared.values.TheConstants.{PLAIN}
use Rattle.wc_tokens.specs.Standard.Strings.{IsPlain}
use Rattle.wc_tokens.specs.Reading.Elements.{is_plain}
use Rattle.wc_tokens.proofs.values.plain_byte.Goals as goal

-- what the test of an entry tells
told : (entry byte : ℕ)
    → (nat_le 256 entry || (nat_eq entry byte && is_plain byte && not (nat_eq byte 92))) ≡ true → entry < 256
    → IsPlain byte × (entry ≡ byte)
told entry byte test lt = (
  (grind (arith, nat_tests), grind (arith, nat_tests), grind (arith, nat_tests), grind (arith, nat_tests)),
  grind (arith, nat_tests),
)

pub returns : goal.returns
returns c = λ lt.
    let byte = c.args.byte in
    let test = agree_below_at
    (λ k. nat_le 256 (get_or PLAIN k 0) || (nat_eq (get_or PLAIN k 0) k && is_plain k && not (nat_eq k 92)))
    (λ _. true) 256 byte refl (omega arith) in
    let same = c.from.ensures in
    rw same (told (get_or PLAIN byte 0) byte test (rw same at lt))
