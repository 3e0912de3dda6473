use Rattle.std.proofs.Common.{◌≡◌, ◌++◌, length}
use Rattle.std.specs.List.{flat_map, AllByRecursion}
use Rattle.wc_leb128.specs.Writing.Bytes.{unsigned_bytes}
use Rattle.wc_binary.specs.Writing.Contents.{code_bytes, FitsCode}
use Rattle.wc_binary.proofs.encoder.funcs.write_codes.Given as goal

abbrev pub invariant-loop-code : goal.invariant-loop-code
invariant-loop-code l = record {
  left : l.yielded ++ l.code-iterator ≡ l.codes;
  written : l.out.items ≡ l.fn.out.items ++ (unsigned_bytes (length l.codes) ++ flat_map code_bytes l.yielded);
  fits : AllByRecursion FitsCode l.yielded;
}
