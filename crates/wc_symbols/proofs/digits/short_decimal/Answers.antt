use Rattle.std.proofs.Common.{get_or, arith, refl}
use Rattle.wc_symbols.proofs.Spelling.DigitLemmas.{Short-more, Short-whole}
use Rattle.wc_symbols.proofs.digits.short_decimal.Goals as goal

pub loop-byte-preserved : goal.loop-byte-preserved
loop-byte-preserved c = record {
  some = omega arith;
  few = omega arith;
  so_far =
      Short-more c.args.text.now c.loop-byte.byte-index c.loop-byte.value _
      (get_or c.args.text.now c.loop-byte.byte-index 0) c.loop-byte.invariant.so_far (omega arith) refl (omega arith)
      (omega arith) (omega arith);
}

pub returns : goal.returns
returns c =
    Short-whole c.args.text.now c.loop-byte.byte-index c.loop-byte.value c.loop-byte.invariant.so_far (omega arith)
    (omega arith) (omega arith) (omega arith)
