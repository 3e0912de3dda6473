use Rattle.std.proofs.Common.{◌≡◌, ◌++◌, ◌-◌, ◌^◌, length}
use Rattle.std.specs.Prelude.{min}
use Rattle.std.specs.List.{flat_map, AllByRecursion}
use Rattle.wc_leb128.specs.Writing.Bytes.{unsigned_bytes}
use Rattle.wc_binary.specs.Writing.Contents.{code_bytes, FitsCode}
use Rattle.wc_binary.proofs.encoder.funcs.codes_size.Given as goal

abbrev pub invariant-loop-code : goal.invariant-loop-code
invariant-loop-code l = record {
  left : l.yielded ++ l.code-iterator ≡ l.codes;
  counted : l.size ≡ min (length (unsigned_bytes (length l.codes) ++ flat_map code_bytes l.yielded)) (2 ^ 64 - 1);
  fits : AllByRecursion FitsCode l.yielded;
}
