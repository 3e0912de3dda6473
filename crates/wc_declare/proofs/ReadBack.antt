-- Types read back from their keys.
use Rattle.std.proofs.Common.{◌≡◌, ℕ, ◌≤◌, List, [], ◌∷◌, length, take, map, refl, ap, ◌∙◌}
use Rattle.std.proofs.lemmas.List.{take_all}
use Rattle.std.specs.Borrow.{Bor}
use Rattle.wc_ast.specs.declared.func_type.FuncType.{FuncType}
use Rattle.wc_surface.specs.Standard.Keys.{key_of}
use Rattle.wc_surface.specs.Kept.Keyed.{keyed}
use Rattle.wc_surface.proofs.KeyLemmas.{key-back}

-- what the keys of types give
pub types-back : (ks : List (Bor (List ℕ))) (ts : List FuncType) → map (λ (k : Bor (List ℕ)). k.now) ks ≡ map key_of ts
    → map (λ (k : Bor (List ℕ)). keyed k.now) ks ≡ ts
types-back [] [] e = refl
types-back [] (t ∷ ts) e = absurd cc
types-back (k ∷ ks) [] e = absurd cc
types-back (k ∷ ks) (t ∷ ts) e =
    let same : k.now ≡ key_of t = cc in
    let rest : map (λ (k : Bor (List ℕ)). k.now) ks ≡ map key_of ts = cc in
    ap (λ (x : List ℕ). keyed x ∷ map (λ (k : Bor (List ℕ)). keyed k.now) ks) same
    ∙ ap (λ (x : FuncType). x ∷ map (λ (k : Bor (List ℕ)). keyed k.now) ks) (key-back t)
    ∙ ap (λ (x : List FuncType). t ∷ x) (types-back ks ts rest)

pub all-back : (ks : List (Bor (List ℕ))) (ts : List FuncType) (n : ℕ) (out : List FuncType) → length ks ≤ n
    → out ≡ map (λ (k : Bor (List ℕ)). keyed k.now) (take n ks)
    → map (λ (k : Bor (List ℕ)). k.now) ks ≡ map key_of ts → out ≡ ts
all-back ks ts n out le e h =
    e ∙ ap (λ (x : List (Bor (List ℕ))). map (λ (k : Bor (List ℕ)). keyed k.now) x) (take_all n ks le)
    ∙ types-back ks ts h
