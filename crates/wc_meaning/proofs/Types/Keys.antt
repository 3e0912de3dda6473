-- Function types are the same exactly where their keys are.
use Rattle.std.proofs.Common.{◌≡◌, ℕ, ◌+◌, Bool, cond, ◌&&◌, List, [], ◌∷◌, ◌++◌, map, Option, Some}
use Rattle.std.proofs.Common.{bytes_eq, refl, ap₂}
use Rattle.std.specs.List.{position_from}
use lib.Pointwise.{pointwise}
use Rattle.wc_ops.specs.declared.val_type.ValType.{ValType}
use Rattle.wc_ops.specs.declared.val_type.ValType.TheVariants.{I32, I64}
use Rattle.wc_ast.specs.declared.func_type.FuncType.{FuncType}
use Rattle.wc_surface.specs.Standard.Keys.{type_bytes, result_bytes, key_of}
use Rattle.wc_meaning.specs.Standard.Types.{same, same_type}

types-same : (rs ss : List ValType) → bytes_eq (type_bytes rs) (type_bytes ss) ≡ pointwise same rs ss
types-same [] [] = refl
types-same [] (s ∷ ss) = refl
types-same (r ∷ rs) [] = refl
types-same (I32 ∷ rs) (I32 ∷ ss) = types-same rs ss
types-same (I32 ∷ rs) (I64 ∷ ss) = refl
types-same (I64 ∷ rs) (I32 ∷ ss) = refl
types-same (I64 ∷ rs) (I64 ∷ ss) = types-same rs ss

results-same : (rs ss : List ValType) → bytes_eq (result_bytes rs) (result_bytes ss) ≡ pointwise same rs ss
results-same [] [] = refl
results-same [] (s ∷ ss) = refl
results-same (r ∷ rs) [] = refl
results-same (r ∷ rs) (s ∷ ss) = types-same (r ∷ rs) (s ∷ ss)

-- parameters have no zero among their bytes, and results have one in front
both-same : (ps qs rs ss : List ValType)
    → bytes_eq (type_bytes ps ++ result_bytes rs) (type_bytes qs ++ result_bytes ss)
    ≡ (pointwise same ps qs && pointwise same rs ss)
both-same [] [] rs ss = results-same rs ss
both-same [] (q ∷ qs) [] ss = refl
both-same [] (I32 ∷ qs) (r ∷ rs) ss = refl
both-same [] (I64 ∷ qs) (r ∷ rs) ss = refl
both-same (p ∷ ps) [] rs [] = refl
both-same (I32 ∷ ps) [] rs (s ∷ ss) = refl
both-same (I64 ∷ ps) [] rs (s ∷ ss) = refl
both-same (I32 ∷ ps) (I32 ∷ qs) rs ss = both-same ps qs rs ss
both-same (I32 ∷ ps) (I64 ∷ qs) rs ss = refl
both-same (I64 ∷ ps) (I32 ∷ qs) rs ss = refl
both-same (I64 ∷ ps) (I64 ∷ qs) rs ss = both-same ps qs rs ss

pub key-same : (f g : FuncType) → bytes_eq (key_of f) (key_of g) ≡ same_type f g
key-same f g = both-same f.params g.params f.results g.results

-- so a type has one index, found by keys or by types
pub index-same : (f : FuncType) (i : ℕ) (ts : List FuncType)
    → position_from (λ u. bytes_eq u (key_of f)) i (map key_of ts) ≡ position_from (λ g. same_type g f) i ts
index-same f i [] = refl
index-same f i (t ∷ ts) =
    ap₂ (λ (b : Bool) (o : Option ℕ). cond b (Some i) o) (key-same t f) (index-same f (i + 1) ts)
