-- What a word says as a name.
use Rattle.std.proofs.Common.{◌≡◌, ℕ, List, refl, inl, inr}
use Rattle.wc_ops.specs.declared.op.Op.{Op}
use Rattle.wc_ops.specs.declared.op.OpName.TheVariants.{Known, Float, Unknown}
use Rattle.wc_ops.specs.Standard.NameMeaning.{IsOpName}
use Rattle.wc_syntax.specs.declared.kind.Kind.TheVariants as kind
use Rattle.wc_symbols.specs.declared.symbol.Symbol.{Symbol}
use Rattle.wc_symbols.specs.declared.symbol.Value.TheVariants.{Instruction}
use Rattle.wc_symbols.specs.Standard.Symbols.{bare, valued, OrOther}
use Rattle.wc_symbols.specs.Standard.Names.{op_kind, KeywordIs, NameIs, keyword_is, instruction, float}

pub name-known : (text : List ℕ) (op : Op) (s : Symbol) → IsOpName text (Known op)
    → s ≡ valued (op_kind op) (Instruction op) → OrOther (NameIs text) s
name-known text op s n e = inl (rw e (instruction op ((n.known op).0 refl)))

pub name-float : (text : List ℕ) (s : Symbol) → IsOpName text Float → s ≡ bare kind.FloatName → OrOther (NameIs text) s
name-float text s n e = inl (rw e (float (n.float.0 refl)))

pub name-none : (text : List ℕ) (s : Symbol) → ((o : Symbol) → ¬ (KeywordIs text o)) → IsOpName text Unknown
    → s ≡ bare kind.OtherWord → OrOther (NameIs text) s
name-none text s absent n e = inr ((λ o h. none h), e)
  where
    none : {o : Symbol} → NameIs text o → ⊥
    none (keyword_is {s = o} k) = absent o k
    none (instruction op is) = let f = (n.known op).1 is in cc
    none (float t) = let f = n.float.1 t in cc
