-- Keywords and names of types.
use Rattle.std.proofs.Common.{◌≡◌, ℕ, List, Some, codes}
use Rattle.wc_ops.specs.declared.val_type.ValType.TheVariants as type
use Rattle.wc_syntax.specs.declared.kind.Kind.{Kind}
use Rattle.wc_syntax.specs.declared.kind.Kind.TheVariants as kind
use Rattle.wc_symbols.specs.declared.symbol.Value.TheVariants.{ValType}
use Rattle.wc_symbols.specs.Standard.Symbols.{bare, valued}
use Rattle.wc_symbols.specs.Standard.Names.{keyword, KeywordIs, word, i32, i64, f32, f64}

pub is_keyword : (k : Kind) (text v : List ℕ) → keyword k ≡ Some v → text ≡ v → KeywordIs text (bare k)
is_keyword k text v e t = rw t (word k e)

pub is_i32 : (text : List ℕ) → text ≡ codes "i32" → KeywordIs text (valued kind.ValType (ValType type.I32))
is_i32 text t = rw t i32

pub is_i64 : (text : List ℕ) → text ≡ codes "i64" → KeywordIs text (valued kind.ValType (ValType type.I64))
is_i64 text t = rw t i64

pub is_f32 : (text : List ℕ) → text ≡ codes "f32" → KeywordIs text (bare kind.FloatType)
is_f32 text t = rw t f32

pub is_f64 : (text : List ℕ) → text ≡ codes "f64" → KeywordIs text (bare kind.FloatType)
is_f64 text t = rw t f64
