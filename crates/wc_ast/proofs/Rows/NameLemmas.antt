-- Rows of names.
use Rattle.std.proofs.Common.{◌≡◌, ℕ, List, [], ◌∷◌, ◌++◌, length, take, drop, refl, ap, ◌∙◌, arith, append_assoc}
use Rattle.std.proofs.lemmas.List.{take-append-le, drop-append-le, length-append}
use Rattle.std.proofs.Math.Seq.{take-length, drop-length}
use Rattle.std.specs.Str.{IsUtf8}
use Rattle.wc_ast.specs.Kept.NameRow.{names_at, AreNames}

-- one more name
pub record Pushed (ns : List ℕ) (x y : List ℕ) : Type 0 where
  pub kept : AreNames (ns ++ length y ∷ []) (x ++ y)
  pub seen : names_at (ns ++ length y ∷ []) (x ++ y) ≡ names_at ns x ++ y ∷ []

pub name-pushed : (ns : List ℕ) (x y : List ℕ) → AreNames ns x → IsUtf8 y → Pushed ns x y
name-pushed [] x y are is = rw are (record {
  kept = (omega arith, rw (take-length y) is, drop-length y);
  seen = rw (take-length y) refl;
})
name-pushed (n ∷ ns) x y are is =
    let rest = name-pushed ns (drop n x) y are.2 is in
    let first = take-append-le n x y are.0 in
    let behind = drop-append-le n x y are.0 in
    record {
      kept = (omega (arith, are.0, length-append x y), rw first are.1, rw behind rest.kept);
      seen = rw (first, behind) (ap (λ (xs : List (List ℕ)). take n x ∷ xs) rest.seen);
    }

-- two more names
pub record PushedTwo (ns : List ℕ) (x y z : List ℕ) : Type 0 where
  pub kept : AreNames (ns ++ length y ∷ length z ∷ []) ((x ++ y) ++ z)
  pub seen : names_at (ns ++ length y ∷ length z ∷ []) ((x ++ y) ++ z) ≡ names_at ns x ++ y ∷ z ∷ []

pub names-pushed : (ns : List ℕ) (x y z : List ℕ) → AreNames ns x → IsUtf8 y → IsUtf8 z → PushedTwo ns x y z
names-pushed ns x y z are is too =
    let first = name-pushed ns x y are is in
    let second = name-pushed (ns ++ length y ∷ []) (x ++ y) z first.kept too in
    let sizes = append_assoc ns (length y ∷ []) (length z ∷ []) in
    record {
      kept = rw sizes at second.kept;
      seen =
          (rw sizes at second.seen)
          ∙ ap (λ (xs : List (List ℕ)). xs ++ z ∷ []) first.seen
          ∙ append_assoc (names_at ns x) (y ∷ []) (z ∷ []);
    }
