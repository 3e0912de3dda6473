-- What a word means where an instruction's name may stand.
use Rattle.std.specs.Prelude.{ℕ, ◌≡◌, ◌↔◌, Bool, ◌||◌, IsTrue, List, codes, nat_eq, Option, Some}
use Rattle.std.specs.Str.{bytes_eq}
use Rattle.std.specs.List.{starts_with}
use Rattle.wc_ops.specs.declared.op.Op.{Op}
use Rattle.wc_ops.specs.declared.op.OpName.{OpName}
use Rattle.wc_ops.specs.declared.op.OpName.TheVariants.{Known, Float}
use Rattle.wc_ops.specs.Standard.Opcodes.{row}

-- the words that are taken for names of float instructions
abbrev pub is_float_name : List ℕ → Bool
is_float_name word =
    starts_with nat_eq word (codes "f32.")
    || starts_with nat_eq word (codes "f64.")
    || bytes_eq word (codes "i32.trunc_f32_s")
    || bytes_eq word (codes "i32.trunc_f32_u")
    || bytes_eq word (codes "i32.trunc_f64_s")
    || bytes_eq word (codes "i32.trunc_f64_u")
    || bytes_eq word (codes "i64.trunc_f32_s")
    || bytes_eq word (codes "i64.trunc_f32_u")
    || bytes_eq word (codes "i64.trunc_f64_s")
    || bytes_eq word (codes "i64.trunc_f64_u")
    || bytes_eq word (codes "i32.reinterpret_f32")
    || bytes_eq word (codes "i64.reinterpret_f64")

-- the instruction whose name it is, or none
abbrev pub IsNamed : List ℕ → Option Op → Type 0
IsNamed word found = (op : Op) → (found ≡ Some op) ↔ ((row op).name ≡ word)

-- an instruction whose name it is, or a float's name, or neither
pub record IsOpName (word : List ℕ) (found : OpName) : Type 0 where
  pub known : (op : Op) → (found ≡ Known op) ↔ ((row op).name ≡ word)
  pub float : (found ≡ Float) ↔ IsTrue (is_float_name word)
