-- Parameters counted in the keys of types.
use Rattle.std.proofs.Common.{◌≡◌, ℕ, ◌≤◌, List, [], ◌∷◌, length, take, map, refl, ap, ◌∙◌}
use Rattle.std.proofs.lemmas.List.{take_all}
use Rattle.std.specs.Borrow.{Bor}
use Rattle.wc_ast.specs.declared.func_type.FuncType.{FuncType}
use Rattle.wc_surface.specs.Standard.Keys.{key_of}
use Rattle.wc_surface.specs.Kept.Keyed.{params_in}
use Rattle.wc_surface.proofs.KeyLemmas.{key-back}

counts-back : (ks : List (Bor (List ℕ))) (ts : List FuncType) → map (λ (k : Bor (List ℕ)). k.now) ks ≡ map key_of ts
    → map (λ (k : Bor (List ℕ)). length (params_in k.now)) ks ≡ map (λ (t : FuncType). length t.params) ts
counts-back [] [] e = refl
counts-back [] (t ∷ ts) e = absurd cc
counts-back (k ∷ ks) [] e = absurd cc
counts-back (k ∷ ks) (t ∷ ts) e =
    let same : k.now ≡ key_of t = cc in
    let rest : map (λ (k : Bor (List ℕ)). k.now) ks ≡ map key_of ts = cc in
    ap (λ (x : List ℕ). length (params_in x) ∷ map (λ (k : Bor (List ℕ)). length (params_in k.now)) ks) same
    ∙ ap (λ (x : FuncType). length x.params ∷ map (λ (k : Bor (List ℕ)). length (params_in k.now)) ks) (key-back t)
    ∙ ap (λ (x : List ℕ). length t.params ∷ x) (counts-back ks ts rest)

pub all-counts : (ks : List (Bor (List ℕ))) (ts : List FuncType) (n : ℕ) (out : List ℕ) → length ks ≤ n
    → out ≡ map (λ (k : Bor (List ℕ)). length (params_in k.now)) (take n ks)
    → map (λ (k : Bor (List ℕ)). k.now) ks ≡ map key_of ts → out ≡ map (λ (t : FuncType). length t.params) ts
all-counts ks ts n out le e h =
    e ∙ ap (λ (x : List (Bor (List ℕ))). map (λ (k : Bor (List ℕ)). length (params_in k.now)) x) (take_all n ks le)
    ∙ counts-back ks ts h
