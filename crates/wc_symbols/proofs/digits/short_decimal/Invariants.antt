use Rattle.std.proofs.Common.{length, ◌≤◌, ◌<◌}
use Rattle.wc_symbols.proofs.Spelling.DigitLemmas.{Short}
use Rattle.wc_symbols.proofs.digits.short_decimal.Given as goal

-- the digits so far spell the value
abbrev pub invariant-loop-byte : goal.invariant-loop-byte
invariant-loop-byte l = record {
  some : 0 < length l.text;
  few : length l.text ≤ 9;
  so_far : Short l.text l.byte-index l.value;
}
