-- The bytes to come, all of them or those up to a place, which are read alike as far as that.
use Rattle.std.proofs.Common.{◌≡◌, ℕ, suc, ◌+◌, ◌-◌, ◌≤◌, List, [], ◌∷◌, ◌++◌, length, take, Option, Some, None}
use Rattle.std.proofs.Common.{sym, ap, ◌∙◌, arith}
use Rattle.std.specs.Prelude.{⊤}
use Rattle.wc_binary.specs.Standard.Phrase.{Phrase}
use Rattle.wc_binary.specs.Reading.Reading.{got, read}
use Rattle.wc_binary.specs.Reading.Source.{Input, up_to}
use Rattle.wc_binary.proofs.phrases.Laws.{read-told, spells-read}

-- all bytes to come, or those up to a place
abbrev pub bytes_to : Option ℕ → Input → List ℕ
bytes_to None i = i.left
bytes_to (Some c) i = up_to c i

-- a place that isn't behind that
abbrev pub IsWithin : ℕ → Option ℕ → Type 0
IsWithin p None = ⊤
IsWithin p (Some c) = p ≤ c

pub within-before : (p q : ℕ) (c : Option ℕ) → p ≤ q → IsWithin q c → IsWithin p c
within-before p q None le h = tt
within-before p q (Some c) le h = omega arith

-- bytes in front of others, up to a place behind them
pub front : (a y : List ℕ) (o c q : ℕ) → q ≡ o + length a → q ≤ c → take (c - o) (a ++ y) ≡ a ++ take (c - q) y
front [] y o c q e le = let same : c - o ≡ c - q = omega arith in ap (λ n. take n y) same
front (b ∷ a) y o c q e le =
    let more : c - o ≡ suc (c - (o + 1)) = omega arith in
    rw more (ap (λ (l : List ℕ). b ∷ l) (front a y (o + 1) c q (omega arith) le))

-- bytes that were taken stand in front of those behind
pub bytes-split : (old new : Input) (a : List ℕ) → old.left ≡ a ++ new.left → new.place ≡ old.place + length a
    → (c : Option ℕ) → IsWithin new.place c → bytes_to c old ≡ a ++ bytes_to c new
bytes-split old new a e p None le = e
bytes-split old new a e p (Some c) le =
    ap (λ l. take (c - old.place) l) e ∙ front a new.left old.place c new.place p le

-- a phrase that was read is read alike of the bytes up to any place behind it
pub phrase-to : {A : Type 0} (p : Phrase A) (old new : Input) (v : A)
    → read p old.place old.left ≡ got v new.place new.left → (c : Option ℕ) → IsWithin new.place c
    → read p old.place (bytes_to c old) ≡ got v new.place (bytes_to c new)
phrase-to {A} p old new v e c le =
    let t = rw e at (read-told {A = A} p old.place old.left) in
    let spelled = spells-read p old.place t.0 (bytes_to c new) v t.2 in
    ap (λ z. read p old.place z) (bytes-split old new t.0 t.1 t.3 c le) ∙ spelled
    ∙ ap (λ q. got v q (bytes_to c new)) (sym t.3)
