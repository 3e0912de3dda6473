-- Lists that stand for one another, pair by pair.
use Rattle.std.proofs.Common.{◌≡◌, suc, List, [], ◌∷◌, ◌++◌, length, refl, ap}
use Rattle.wc_parse.specs.Standard.Kinds.{Each, none, more}

pub each-append : {A B : Type 0} {R : A → B → Type 0} {xs us : List A} {ys vs : List B}
    → Each R xs ys → Each R us vs → Each R (xs ++ us) (ys ++ vs)
each-append none e = e
each-append (more r d) e = more r (each-append d e)

pub each-one : {A B : Type 0} {R : A → B → Type 0} {xs : List A} {ys : List B} {a : A} {b : B}
    → Each R xs ys → R a b → Each R (xs ++ a ∷ []) (ys ++ b ∷ [])
each-one d r = each-append d (more r none)

pub each-length : {A B : Type 0} {R : A → B → Type 0} {xs : List A} {ys : List B} → Each R xs ys
    → length xs ≡ length ys
each-length none = refl
each-length (more r d) = ap suc (each-length d)

-- where each one stands for one alone, so do all
pub each-same : {A B : Type 0} {R : A → B → Type 0} → ((a : A) (b c : B) → R a b → R a c → b ≡ c)
    → {xs : List A} {ys zs : List B} → Each R xs ys → Each R xs zs → ys ≡ zs
each-same f none none = refl
each-same f (more {a = a} {b = b} r d) (more {b = c} s e) = let h = f a b c r s in let t = each-same f d e in cc
