-- Functions by the indices of their types and by their codes.
use Rattle.std.proofs.Common.{◌≡◌, ℕ, suc, List, [], ◌∷◌, ◌++◌, length, map, refl, ap, arith}
use Rattle.wc_body.specs.declared.instr.BlockType.{BlockType}
use Rattle.wc_body.specs.declared.instr.Instr.{Instr}
use Rattle.wc_body.specs.Standard.Nested.{Code}
use Rattle.wc_ast.specs.declared.codes.FuncCode.{FuncCode}
use Rattle.wc_ast.specs.declared.func.Func.{Func}
use Rattle.wc_ast.specs.Standard.Codes.{body_of, type_of, code_of, func, funcs_of}

-- the types of as many functions
pub types-back : (ts : List ℕ) (cs : List FuncCode) → length ts ≡ length cs → map type_of (funcs_of ts cs) ≡ ts
types-back [] cs e = refl
types-back (t ∷ ts) [] e = absurd (omega arith)
types-back (t ∷ ts) (c ∷ cs) e = ap (λ (xs : List ℕ). t ∷ xs) (types-back ts cs (omega arith))

-- the codes of as many functions
pub codes-back : (ts : List ℕ) (cs : List FuncCode) → length ts ≡ length cs → map code_of (funcs_of ts cs) ≡ cs
codes-back [] [] e = refl
codes-back [] (c ∷ cs) e = absurd (omega arith)
codes-back (t ∷ ts) [] e = absurd (omega arith)
codes-back (t ∷ ts) (c ∷ cs) e = ap (λ (xs : List FuncCode). c ∷ xs) (codes-back ts cs (omega arith))

-- the bodies of as many functions
pub bodies-same : (ts : List ℕ) (cs : List FuncCode) → length ts ≡ length cs
    → map (λ f. f.body) (funcs_of ts cs) ≡ map body_of cs
bodies-same [] [] e = refl
bodies-same [] (c ∷ cs) e = absurd (omega arith)
bodies-same (t ∷ ts) [] e = absurd (omega arith)
bodies-same (t ∷ ts) (c ∷ cs) e =
    ap (λ (xs : List (Code Instr BlockType)). c.body ∷ xs) (bodies-same ts cs (omega arith))

-- there are as many functions as types
pub funcs-count : (ts : List ℕ) (cs : List FuncCode) → length ts ≡ length cs → length (funcs_of ts cs) ≡ length ts
funcs-count [] cs e = refl
funcs-count (t ∷ ts) [] e = absurd (omega arith)
funcs-count (t ∷ ts) (c ∷ cs) e = ap (λ n. suc n) (funcs-count ts cs (omega arith))

-- one more function
pub func-pushed : (ts : List ℕ) (cs : List FuncCode) (t : ℕ) (c : FuncCode) → length ts ≡ length cs
    → funcs_of (ts ++ t ∷ []) (cs ++ c ∷ []) ≡ funcs_of ts cs ++ func t c ∷ []
func-pushed [] [] t c e = refl
func-pushed [] (d ∷ cs) t c e = absurd (omega arith)
func-pushed (u ∷ ts) [] t c e = absurd (omega arith)
func-pushed (u ∷ ts) (d ∷ cs) t c e =
    ap (λ (fs : List Func). func u d ∷ fs) (func-pushed ts cs t c (omega arith))
