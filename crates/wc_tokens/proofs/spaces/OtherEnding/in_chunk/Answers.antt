use Rattle.std.proofs.Common.{ℕ, ◌≤◌, eqb, not, cond, length, bit_and, refl, arith, w8}
use Rattle.std.proofs.lemmas.Simd.{length-chunk, chunk-fits, zip2_splat, zip2_of_maps}
use lib.Lanes.{chunk}
use Rattle.wc_tokens.specs.Standard.Gaps.{is_blank}
use Rattle.wc_tokens.proofs.Lexing.MaskLaws.{mask-of}
use Rattle.wc_tokens.proofs.spaces.OtherEnding.in_chunk.Goals as goal

-- the lanes of each comparison, and of those before it
abbrev miss : ℕ → ℕ → ℕ
miss a b = cond (not (eqb a b)) 255 0

abbrev tab : ℕ → ℕ
tab x = bit_and (miss x 32) (miss x 9)

abbrev feed : ℕ → ℕ
feed x = bit_and (tab x) (miss x 10)

pub returns : goal.returns
returns c =
    let v = chunk c.args.at 16 c.args.text.now in
    let long = length-chunk c.args.at 16 c.args.text.now c.requires in
    let fits = chunk-fits w8 c.args.at 16 c.args.text.now c.type_inv.text in
    let few : length v ≤ 64 = omega (arith, long) in
    let one = zip2_of_maps bit_and (λ x. miss x 32) (λ x. miss x 9) v (zip2_splat miss v 16 32 long)
    (zip2_splat miss v 16 9 long) in
    let two = zip2_of_maps bit_and tab (λ x. miss x 10) v one (zip2_splat miss v 16 10 long) in
    let three = zip2_of_maps bit_and feed (λ x. miss x 13) v two (zip2_splat miss v 16 13 long) in
    mask-of (λ x. bit_and (feed x) (miss x 13)) (λ c. not (is_blank c)) v few fits three refl
