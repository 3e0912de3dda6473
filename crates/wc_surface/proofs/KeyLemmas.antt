-- Keys read back.
use Rattle.std.proofs.Common.{◌≡◌, List, [], ◌∷◌, ◌++◌, map, refl, sym, ap, ◌∙◌}
use Rattle.wc_ops.specs.declared.val_type.ValType.{ValType}
use Rattle.wc_ops.specs.declared.val_type.ValType.TheVariants.{I32, I64}
use Rattle.wc_ast.specs.declared.func_type.FuncType.{FuncType}
use Rattle.wc_surface.specs.Standard.Keys.{type_bytes, result_bytes, key_of}
use Rattle.wc_surface.specs.Kept.Keyed.{byte_type, params_in, results_in, keyed, IsKey}

types-back : (ts : List ValType) → map byte_type (type_bytes ts) ≡ ts
types-back [] = refl
types-back (I32 ∷ ts) = ap (λ (us : List ValType). I32 ∷ us) (types-back ts)
types-back (I64 ∷ ts) = ap (λ (us : List ValType). I64 ∷ us) (types-back ts)

params-back : (ts us : List ValType) → params_in (type_bytes ts ++ result_bytes us) ≡ ts
params-back [] [] = refl
params-back [] (u ∷ us) = refl
params-back (I32 ∷ ts) us = ap (λ (vs : List ValType). I32 ∷ vs) (params-back ts us)
params-back (I64 ∷ ts) us = ap (λ (vs : List ValType). I64 ∷ vs) (params-back ts us)

results-back : (ts us : List ValType) → results_in (type_bytes ts ++ result_bytes us) ≡ us
results-back [] [] = refl
results-back [] (u ∷ us) = types-back (u ∷ us)
results-back (I32 ∷ ts) us = results-back ts us
results-back (I64 ∷ ts) us = results-back ts us

-- a key gives its function type back
pub key-back : (f : FuncType) → keyed (key_of f) ≡ f
key-back f = let p = params-back f.params f.results in let r = results-back f.params f.results in rw (p, r) refl

pub key-is : (f : FuncType) → IsKey (key_of f)
key-is f = ap key_of (key-back f)

-- function types with one key are equal
pub one-key : (f g : FuncType) → key_of f ≡ key_of g → f ≡ g
one-key f g e = sym (key-back f) ∙ ap keyed e ∙ key-back g
