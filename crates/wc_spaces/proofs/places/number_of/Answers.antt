use Rattle.std.proofs.Common.{◌≡◌, ℕ, List, ap, ◌∙◌, fold, take, length, arith}
use Rattle.std.proofs.Math.Seq.{take-length}
use Rattle.wc_spaces.specs.Kept.Places.{number_with, number_in}
use Rattle.wc_spaces.proofs.places.number_of.Goals as goal

pub returns : goal.returns
unfolding number_in
returns c =
    let end : c.loop-byte.byte-index ≡ length c.args.text.now =
    omega (arith, c.loop-byte-test.false, c.loop-byte.auto.byte-index-end) in
    c.loop-byte.invariant
    ∙ ap (λ (bs : List ℕ). fold number_with 0 bs) (ap (λ n. take n c.args.text.now) end ∙ take-length c.args.text.now)
