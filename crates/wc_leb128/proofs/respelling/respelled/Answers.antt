use Rattle.std.proofs.Common.{◌≡◌, take, sym, ap, ◌∙◌, arith, rules, SFits, w64}
use Rattle.std.specs.Int.{from_le_bytes}
use Rattle.std.specs.Simd.Lanes.{number_l}
use Rattle.std.proofs.lemmas.Int.{to_z-of_z}
use Rattle.std.proofs.lemmas.List.{length-take-le}
use Rattle.wc_leb128.specs.Reading.Eight.{AreBytes}
use Rattle.wc_leb128.specs.Reading.Respelled.{again, turned}
use Rattle.wc_leb128.proofs.Reading.Front.{bytes-taken, take-taken, word-of}
use Rattle.wc_leb128.proofs.Anew.Respells.{known}
use Rattle.wc_leb128.proofs.respelling.respelled.Goals as goal

pub marked-requires : goal.marked-requires
marked-requires c =
    let fits : SFits w64 c.value_of-value.result = search rules in
    let same = to_z-of_z w64 c.value_of-value.result fits in
    let bits : c.bits_of.result ≡ turned c.value_of-value.result = rw same at c.bits_of.ensures in
    let k =
    known c.args.signed c.args.bytes.now c.in_ok-all.all c.in_ok-all.count c.value_of-value.result c.bits_of.result
    c.length_of-length.result c.in_ok-all.ensures.some c.value_of-value.ensures bits c.length_of-length.ensures.unsigned
    c.length_of-length.ensures.signed in
    (k.some, omega (arith, k.fewer, k.few))

pub returns-clause-some : goal.returns-clause-some
returns-clause-some c =
    let xs = c.args.bytes.now in
    let n = c.in_ok-all.count in
    let l = c.length_of-length.result in
    let fits : SFits w64 c.value_of-value.result = search rules in
    let same = to_z-of_z w64 c.value_of-value.result fits in
    let bits : c.bits_of.result ≡ turned c.value_of-value.result = rw same at c.bits_of.ensures in
    let k =
    known c.args.signed xs c.in_ok-all.all n c.value_of-value.result c.bits_of.result l c.in_ok-all.ensures.some
    c.value_of-value.ensures bits c.length_of-length.ensures.unsigned c.length_of-length.ensures.signed in
    let chunk = c.in_ok-chunk.ensures.cases in
    let eight = length-take-le 8 xs chunk.enough in
    let bytes : AreBytes (take 8 xs) = bytes-taken 8 xs (λ i. (c.type_inv.bytes i).fits) in
    let word : c.from_le_bytes.result ≡ number_l 256 (take 8 xs) =
    word-of _ (take 8 xs) eight (c.from_le_bytes.ensures ∙ ap (from_le_bytes w64) chunk.same) in
    let first : take l (take 8 xs) ≡ take l (take n xs) =
    take-taken l 8 xs (omega (arith, k.fewer, k.few)) ∙ sym (take-taken l n xs k.fewer) in
    rw same (record {
      enough = omega (arith, chunk.enough, k.few);
      few = k.few;
      whole = k.whole;
      is = k.is;
      short = omega (arith, k.fewer, k.few);
      shortest = c.marked.ensures (take 8 xs) eight bytes word ∙ ap again first ∙ k.spelled;
    })
