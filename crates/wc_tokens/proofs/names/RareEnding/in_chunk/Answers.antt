use Rattle.std.proofs.Common.{ℕ, ◌≤◌, ltb, eqb, cond, length, bit_or, refl, arith, w8}
use Rattle.std.proofs.lemmas.Simd.{length-chunk, chunk-fits, zip2_splat, zip2_splat_left, zip2_of_maps}
use lib.Lanes.{chunk}
use Rattle.wc_tokens.specs.Reading.Heads.{is_rare}
use Rattle.wc_tokens.proofs.Lexing.MaskLaws.{mask-of}
use Rattle.wc_tokens.proofs.names.RareEnding.in_chunk.Goals as goal

-- the lanes of each comparison, and of those before it
abbrev below : ℕ → ℕ → ℕ
below a b = cond (ltb a b) 255 0

abbrev hit : ℕ → ℕ → ℕ
hit a b = cond (eqb a b) 255 0

abbrev apart : ℕ → ℕ
apart x = bit_or (below x 45) (below 122 x)

abbrev semicolon : ℕ → ℕ
semicolon x = bit_or (apart x) (hit x 59)

abbrev bracket : ℕ → ℕ
bracket x = bit_or (semicolon x) (hit x 91)

pub returns : goal.returns
returns c =
    let v = chunk c.args.at 16 c.args.text.now in
    let long = length-chunk c.args.at 16 c.args.text.now c.requires in
    let fits = chunk-fits w8 c.args.at 16 c.args.text.now c.type_inv.text in
    let few : length v ≤ 64 = omega (arith, long) in
    let one = zip2_of_maps bit_or (λ x. below x 45) (λ x. below 122 x) v (zip2_splat below v 16 45 long)
    (zip2_splat_left below 122 16 v long) in
    let two = zip2_of_maps bit_or apart (λ x. hit x 59) v one (zip2_splat hit v 16 59 long) in
    let three = zip2_of_maps bit_or semicolon (λ x. hit x 91) v two (zip2_splat hit v 16 91 long) in
    let four = zip2_of_maps bit_or bracket (λ x. hit x 93) v three (zip2_splat hit v 16 93 long) in
    mask-of (λ x. bit_or (bracket x) (hit x 93)) is_rare v few fits four refl
