use Rattle.std.proofs.Common.{◌≡◌, take, ap, ◌∙◌, w64}
use Rattle.std.specs.Simd.Lanes.{number_l}
use Rattle.std.specs.Int.{from_le_bytes}
use Rattle.std.proofs.lemmas.List.{length-take-le}
use Rattle.wc_leb128.specs.Reading.Eight.{AreBytes}
use Rattle.wc_leb128.proofs.Reading.Front.{bytes-taken, take-taken, word-of}
use Rattle.wc_leb128.proofs.eight.eight_at.Goals as goal

pub returns-clause-some : goal.returns-clause-some
returns-clause-some c =
    let xs = c.args.bytes.now in
    let chunk = c.in_ok-chunk.ensures.cases in
    let long = length-take-le 8 xs chunk.enough in
    let bytes : AreBytes (take 8 xs) = bytes-taken 8 xs (λ i. (c.type_inv.bytes i).fits) in
    let word : c.from_le_bytes-word.result ≡ number_l 256 (take 8 xs) =
    word-of _ (take 8 xs) long (c.from_le_bytes-word.ensures ∙ ap (from_le_bytes w64) chunk.same) in
    let count = c.in_ok-count.ensures.some (take 8 xs) long bytes word in
    record {
      enough = chunk.enough;
      few = count.0;
      whole = rw (take-taken c.in_ok-count.count 8 xs count.0) at count.1;
      all_groups = c.groups_of.ensures (take 8 xs) long bytes word;
    }
