use Rattle.std.proofs.Common.{◌≡◌, ◌+◌, suc, ◌∙◌, length-set, arith, get_or}
use Rattle.wc_tokens.specs.Standard.Strings.{none}
use Rattle.wc_tokens.proofs.Escapes.PlaceLaws.{put-one, start-one}
use Rattle.wc_tokens.proofs.simple.put_begun.Goals as goal

pub loop-k-init : goal.loop-k-init
loop-k-init c = record { made = omega arith; room = c.told-bytes; elements = none }

pub loop-k-preserved : goal.loop-k-preserved
loop-k-preserved c =
    let text = c.args.text.now in
    let values = c.args.values.now in
    let starts = c.args.starts.now in
    let k = c.loop-k.k in
    let one = start-one text values starts c.args.places k c.requires.simple c.requires.noted c.loop-k-test.true in
    let same : k + 1 ≡ suc k = omega arith in record {
      made = omega (arith, c.loop-k.invariant.made, one);
      room = length-set c.loop-k.bytes c.loop-k.made (get_or values k 0) ∙ c.loop-k.invariant.room;
      elements =
          rw same
          (put-one text values starts c.loop-k.bytes c.args.places k c.loop-k.made c.requires.simple c.requires.noted
          c.loop-k-test.true c.requires.within c.loop-k.invariant.elements
          (omega (arith, c.loop-k.invariant.made, c.loop-k.invariant.room, c.loop-k-test.true, c.requires.room)));
    }
