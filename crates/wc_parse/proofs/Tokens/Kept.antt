-- The tokens that are kept stand in the text.
use Rattle.std.proofs.Common.{◌≡◌, ℕ, zero, suc, List, [], ◌∷◌, drop, refl}
use Rattle.std.specs.Prelude.{sum_by}
use Rattle.std.specs.List.{AllByRecursion}
use Rattle.std.proofs.lemmas.List.Sums.{sum_by-cons}
use Rattle.wc_tokens.specs.Standard.Lexemes.{Lexeme, HasForm}
use Rattle.wc_tokens.specs.Standard.Tokens.{InOrder}
use Rattle.wc_syntax.specs.declared.kind.Kind.{Kind}
use Rattle.wc_syntax.specs.Standard.Phrases.{word, mark}
use Rattle.wc_syntax.specs.Standard.Deriving.{Item, at, numbered}
use Rattle.wc_parse.specs.Standard.Kinds.{Each, none, more, HasKind}
use Rattle.wc_parse.proofs.Tokens.Forms.{text_size}

-- the token of this number stands in the text, and has this kind and its form
pub record Stands (ts : List Lexeme) (n : ℕ) (k : Kind) : Type 0 where
  pub lexeme : Lexeme
  pub rest : List Lexeme
  pub stands : drop n ts ≡ lexeme ∷ rest
  pub kind : HasKind lexeme k
  pub form : HasForm lexeme.kind lexeme.text

abbrev pub IsThere : List Lexeme → Item → Type 0
IsThere ts (at n (word k)) = Stands ts n k
IsThere ts (at n mark) = ⊥

drop-more : (n : ℕ) (ts : List Lexeme) (t : Lexeme) (us : List Lexeme) → drop n ts ≡ t ∷ us → drop (suc n) ts ≡ us
drop-more zero (x ∷ ts) t us e = cc
drop-more zero [] t us e = absurd cc
drop-more (suc n) [] t us e = absurd cc
drop-more (suc n) (x ∷ ts) t us e = drop-more n ts t us e

there : (ts us : List Lexeme) (ks : List Kind) (n from : ℕ) → drop n ts ≡ us → InOrder from us → Each HasKind us ks
    → AllByRecursion (IsThere ts) (numbered n ks)
there ts [] [] n from e o none = tt
there ts [] (k ∷ ks) n from e o d = elim d [ ]
there ts (t ∷ us) [] n from e o d = elim d [ ]
there ts (t ∷ us) (k ∷ ks) n from e o (more h d) = (
  record { lexeme = t; rest = us; stands = e; kind = h; form = o.0.form },
  there ts us ks (suc n) t.stop
      (drop-more n ts t us e) o.1 d,
)

pub all-there : (ts : List Lexeme) (ks : List Kind) → InOrder 0 ts → Each HasKind ts ks
    → AllByRecursion (IsThere ts) (numbered 0 ks)
all-there ts ks o d = there ts ts ks 0 0 refl o d

-- the length of the first text
abbrev pub first_size : List Lexeme → ℕ
first_size [] = 0
first_size (t ∷ ts) = text_size t

-- the length of the text of the token of this number
abbrev pub weight : List Lexeme → Item → ℕ
weight ts (at n t) = first_size (drop n ts)

weights : (ts us : List Lexeme) (ks : List Kind) (n : ℕ) → drop n ts ≡ us → Each HasKind us ks
    → sum_by (weight ts) (numbered n ks) ≡ sum_by text_size us
weights ts [] [] n e none = refl
weights ts [] (k ∷ ks) n e d = elim d [ ]
weights ts (t ∷ us) [] n e d = elim d [ ]
weights ts (t ∷ us) (k ∷ ks) n e (more h d) =
    let r = weights ts us ks (suc n) (drop-more n ts t us e) d in
    let f : first_size (drop n ts) ≡ text_size t = rw e refl in
    rw (sum_by-cons (weight ts) (at n (word k)) (numbered (suc n) ks), sum_by-cons text_size t us, f, r) refl

pub all-weigh : (ts : List Lexeme) (ks : List Kind) → Each HasKind ts ks
    → sum_by (weight ts) (numbered 0 ks) ≡ sum_by text_size ts
all-weigh ts ks d = weights ts ts ks 0 refl d
