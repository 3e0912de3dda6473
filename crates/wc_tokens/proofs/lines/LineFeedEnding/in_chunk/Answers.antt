use Rattle.std.proofs.Common.{eqb, arith, w8}
use lib.Lanes.{chunk}
use Rattle.std.proofs.lemmas.Simd.{length-chunk, bitmask_splat}
use Rattle.wc_tokens.proofs.lines.LineFeedEnding.in_chunk.Goals as goal

pub returns : goal.returns
returns c =
    let long = length-chunk c.args.at 16 c.args.text.now c.requires in
    bitmask_splat w8 eqb (chunk c.args.at 16 c.args.text.now) 16 10 long (omega arith)
