use Rattle.std.proofs.Common.{ℕ, ◌≤◌, ltb, eqb, cond, length, bit_or, refl, arith, w8}
use Rattle.std.proofs.lemmas.Simd.{length-chunk, chunk-fits, zip2_splat, zip2_of_maps}
use lib.Lanes.{chunk}
use Rattle.wc_tokens.specs.Reading.Simple.{is_special}
use Rattle.wc_tokens.proofs.Lexing.MaskLaws.{mask-of}
use Rattle.wc_tokens.proofs.plain.SpecialEnding.in_chunk.Goals as goal

-- the lanes of each comparison, and of those before it
abbrev below : ℕ → ℕ → ℕ
below a b = cond (ltb a b) 255 0

abbrev hit : ℕ → ℕ → ℕ
hit a b = cond (eqb a b) 255 0

abbrev delete : ℕ → ℕ
delete x = bit_or (below x 32) (hit x 127)

abbrev quote : ℕ → ℕ
quote x = bit_or (delete x) (hit x 34)

pub returns : goal.returns
returns c =
    let v = chunk c.args.at 16 c.args.text.now in
    let long = length-chunk c.args.at 16 c.args.text.now c.requires in
    let fits = chunk-fits w8 c.args.at 16 c.args.text.now c.type_inv.text in
    let few : length v ≤ 64 = omega (arith, long) in
    let one = zip2_of_maps bit_or (λ x. below x 32) (λ x. hit x 127) v (zip2_splat below v 16 32 long)
    (zip2_splat hit v 16 127 long) in
    let two = zip2_of_maps bit_or delete (λ x. hit x 34) v one (zip2_splat hit v 16 34 long) in
    let three = zip2_of_maps bit_or quote (λ x. hit x 92) v two (zip2_splat hit v 16 92 long) in
    mask-of (λ x. bit_or (quote x) (hit x 92)) is_special v few fits three refl
