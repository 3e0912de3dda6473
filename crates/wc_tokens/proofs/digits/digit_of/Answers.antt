-- The table is held against the definition at each of the 256 bytes, by computing.
use Rattle.std.proofs.Common.{nat_eq, true, get_or, refl, ◌∙◌, arith}
use Rattle.std.proofs.lemmas.Bool.{agree_below_at, eqb-true}
use Rattle.wc_tokens.specs.declared.digits.TheConstants.{DIGITS}
use Rattle.wc_tokens.specs.Standard.Digits.{digit_of}
use Rattle.wc_tokens.proofs.digits.digit_of.Goals as goal

pub returns : goal.returns
unfolding digit_of
returns c =
    let byte = c.args.byte in
    let same = agree_below_at (λ k. nat_eq (get_or DIGITS k 0) (digit_of k)) (λ _. true) 256 byte refl (omega arith) in
    c.from.ensures ∙ eqb-true (get_or DIGITS byte 0) (digit_of byte) same
