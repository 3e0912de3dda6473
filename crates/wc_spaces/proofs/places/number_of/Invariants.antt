use Rattle.std.proofs.Common.{◌≡◌, fold, take}
use Rattle.wc_spaces.specs.Kept.Places.{number_with}
use Rattle.wc_spaces.proofs.places.number_of.Given as goal

abbrev pub invariant-loop-byte : goal.invariant-loop-byte
invariant-loop-byte l = l.number ≡ fold number_with 0 (take l.byte-index l.text)
