-- Instructions in which none is nested (Core 1.0, 6.5.2 to 6.5.6).
use Rattle.std.specs.Prelude.{◌≡◌, ℕ, List, [], ◌∷◌, ◌++◌, Option, Some, None}
use Rattle.wc_ops.specs.declared.op.Op.TheVariants as op
use Rattle.wc_ops.specs.declared.op.SimpleOp.{SimpleOp}
use Rattle.wc_ops.specs.declared.op.IndexOp.{IndexOp}
use Rattle.wc_ops.specs.declared.op.MemOp.{MemOp}
use Rattle.wc_syntax.specs.declared.role.Role.{Role}
use Rattle.wc_syntax.specs.declared.role.Role.TheVariants as role
use Rattle.wc_symbols.specs.declared.symbol.Value.TheVariants.{Offset, Exponent}
use Rattle.wc_surface.specs.Standard.Written.Indices.{Index}
use Rattle.wc_surface.specs.Standard.Written.TypeUses.{TypeUse}
use Rattle.wc_surface.specs.Standard.Written.Instructions.{MemArg, Plain, simple, indexed, br_table, call_indirect}
use Rattle.wc_surface.specs.Standard.Written.Instructions.{access, i32_const, i64_const}
use Rattle.wc_parse_code.specs.Standard.Tokens.{KeptToken}
use Rattle.wc_parse_code.specs.Standard.Productions.Tokens.{Said, ◌⊳◌, NamesInstruction, IsIndex, IsLiteral}
use Rattle.wc_parse_code.specs.Standard.Productions.TypeUses.{IsTypeUse}

-- index index*: labels, and last the default (6.5.2)
pub data AreLabels : List Said → List Index → Index → Type 0 where
  default : {w : KeptToken} {x : Index} → IsIndex w x → AreLabels (role.Index ⊳ w ∷ []) [] x
  label : {w : KeptToken} {us : List Said} {x last : Index} {xs : List Index} → IsIndex w x → AreLabels us xs last
      → AreLabels (role.Index ⊳ w ∷ us) (x ∷ xs) last

-- ( "offset=" u32 )?, in one word (6.5.5)
pub data IsMemOffset : List Said → Option ℕ → Type 0 where
  absent : IsMemOffset [] None
  there : {w : KeptToken} {n : ℕ} → w.symbol.value ≡ Offset n → IsMemOffset (role.MemOffset ⊳ w ∷ []) (Some n)

-- ( "align=" u32 )?, in one word: a power of two, which denotes its exponent (6.5.5)
pub data IsMemAlign : List Said → Option ℕ → Type 0 where
  absent : IsMemAlign [] None
  there : {w : KeptToken} {e : ℕ} → w.symbol.value ≡ Exponent e → IsMemAlign (role.MemAlign ⊳ w ∷ []) (Some e)

-- memarg: the offset, and then the alignment (6.5.5)
pub data IsMemArg : List Said → MemArg → Type 0 where
  both : {us vs : List Said} {n e : Option ℕ} → IsMemOffset us n → IsMemAlign vs e
      → IsMemArg (us ++ vs) (record { offset = n; align = e })

-- plaininstr, by what follows its name (6.5.2 to 6.5.6); the role of the name says whether operands follow
pub data IsPlain (r : Role) : List Said → Plain → Type 0 where
  -- `nop`, `drop`, `memory.size`, `i32.add` and their like
  simple_name : {w : KeptToken} {o : SimpleOp} → NamesInstruction w (op.Simple o) → IsPlain r (r ⊳ w ∷ []) (simple o)
  -- ("br" | "br_if" | "call" | "local.*" | "global.*") index
  index_name : {w v : KeptToken} {o : IndexOp} {x : Index} → NamesInstruction w (op.Index o) → IsIndex v x
      → IsPlain r (r ⊳ w ∷ role.Index ⊳ v ∷ []) (indexed o x)
  -- "br_table" index index*
  br_table_name : {w : KeptToken} {us : List Said} {xs : List Index} {last : Index} → NamesInstruction w op.BrTable
      → AreLabels us xs last → IsPlain r (r ⊳ w ∷ us) (br_table xs last)
  -- "call_indirect" typeuse
  call_indirect_name : {w : KeptToken} {us : List Said} {u : TypeUse} → NamesInstruction w op.CallIndirect
      → IsTypeUse us u → IsPlain r (r ⊳ w ∷ us) (call_indirect w.token u)
  -- a load or a store, and its memarg
  access_name : {w : KeptToken} {o : MemOp} {us : List Said} {m : MemArg} → NamesInstruction w (op.Mem o)
      → IsMemArg us m → IsPlain r (r ⊳ w ∷ us) (access o m)
  -- "i32.const" i32
  i32_const_name : {w v : KeptToken} {bits : ℕ} → NamesInstruction w op.I32Const → IsLiteral 32 v bits
      → IsPlain r (r ⊳ w ∷ role.Literal ⊳ v ∷ []) (i32_const bits)
  -- "i64.const" i64
  i64_const_name : {w v : KeptToken} {bits : ℕ} → NamesInstruction w op.I64Const → IsLiteral 64 v bits
      → IsPlain r (r ⊳ w ∷ role.Literal ⊳ v ∷ []) (i64_const bits)
