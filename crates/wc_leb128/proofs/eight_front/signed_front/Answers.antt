use Rattle.std.proofs.Common.{◌≡◌, take, drop, arith, refl, sym, rules, SFits, w64}
use Rattle.std.proofs.lemmas.Int.{to_z-of_z}
use Rattle.std.proofs.lemmas.List.{take-append-drop}
use Rattle.wc_leb128.specs.Standard.Shortest.{HoldsSigned}
use Rattle.wc_leb128.specs.Reading.Eight.{signed_groups}
use Rattle.wc_leb128.proofs.Words.EightFront.{signed-spelled, only-signed, rest-is, parts-of}
use Rattle.wc_leb128.proofs.eight_front.signed_front.Goals as goal

pub returns : goal.returns
returns g c =
    let xs = c.args.bytes.now in
    let n = c.in-Some.count in
    let p = parts-of xs c.in-Some.all n c.in-Some.ensures.some in
    let value : c.signed_of-n.result ≡ signed_groups (take n xs) =
    c.signed_of-n.ensures (take n xs) _ p.whole p.long p.split in
    let fits : SFits w64 c.signed_of-n.result = search rules in
    let same = to_z-of_z w64 c.signed_of-n.result fits in
    let holds : HoldsSigned g.row.N (signed_groups (take n xs)) =
    rw (same, value) at (c.if-not-holds_signed.ensures refl) in
    let spelled = signed-spelled g.row.N (take n xs) p.whole (omega (arith, p.long, c.if-count.false)) holds in
    rw (rest-is n xs, same)
    (only-signed g.row.N _ _ xs (drop n xs) (take n xs, sym (take-append-drop n xs), spelled) value)
