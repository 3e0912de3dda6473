use Rattle.std.proofs.Common.{length-set, set, ◌+◌, ◌∙◌, arith}
use Rattle.wc_tokens.specs.Standard.Strings.{none}
use Rattle.wc_tokens.proofs.Escapes.SimpleLaws.{Elements-pair, behind-is}
use Rattle.wc_tokens.proofs.simple.read_pairs.Goals as goal

pub loop-made-init : goal.loop-made-init
loop-made-init c = record { made = omega arith; within = omega arith; room = omega arith; elements = none }

pub loop-made-preserved : goal.loop-made-preserved
loop-made-preserved c =
    let text = c.args.text.now in
    let bytes = c.loop-made.bytes in
    let len = c.loop-made.len in
    let made = c.loop-made.made in
    let one = c.in-Some.first in
    let two = c.in-Some-simple_of.second in
    let first = c.in-Some.ensures {u = tt} in
    let second = c.in-Some-simple_of.ensures {u = tt} in
    let behind = behind-is text len one.len _ _ first.len c.behind_simple-behind.ensures in record {
      made = omega arith;
      within = omega (arith, first.within, second.within, c.saturating_sub-limit.ensures, c.if-len-limit.true);
      room =
          length-set (set bytes made one.value) (made + 1) two.value ∙ length-set bytes made one.value
          ∙ c.loop-made.invariant.room;
      elements =
          Elements-pair text bytes len one.len two.len made one.value two.value _ c.loop-made.invariant.elements
          first.element behind second.element
          (omega (arith, first.within, c.saturating_sub-limit.ensures, c.if-len-limit.true))
          (omega (arith, c.loop-made.invariant.room));
    }
