-- The table of what stands for each byte in a string.
use Rattle.std.proofs.Common.{◌≡◌, ℕ, suc, ◌+◌, ◌<◌, ◌≤◌, ◌==◌, true, List, [], ◌∷◌, ◌++◌}
use Rattle.std.proofs.Common.{length, get_or, take, drop, set, nat_le}
use Rattle.std.proofs.Common.{refl, ap, ◌∙◌, arith, zero-add}
use Rattle.std.specs.Str.{bytes_eq}
use Rattle.std.proofs.Math.Seq.{take-append-add}
use Rattle.std.proofs.lemmas.Bool.Decides.{nat_tests}
use Rattle.std.proofs.lemmas.List.Edits.{sets, sets-eq}
use Rattle.std.proofs.lemmas.List.{length-take-le, length-append, take-append-le}
use Rattle.std.proofs.lemmas.Slice.Eq.{bytes_eq-Decides}
use Rattle.wc_print.specs.declared.escapes.TheConstants.{ESCAPES}
use Rattle.wc_print.specs.Standard.Printed.{escaped}
use Rattle.wc_print.proofs.Tables.RowTests.{each_row, row-passes, row-test}

-- so many bytes of a row as its last byte says
abbrev pub told : List ℕ → List ℕ
told row = take (get_or row 3 0) row

table-told : each_row (λ b r. bytes_eq (told r) (escaped b)) 0 ESCAPES ≡ true
unfolding each_row
table-told = refl

pub escape-told : (b : ℕ) → b < 256 → told (get_or ESCAPES b []) ≡ escaped b
escape-told b lt =
    let passes : bytes_eq (told (get_or ESCAPES b [])) (escaped b) ≡ true =
    rw zero-add at (row-passes (λ b r. bytes_eq (told r) (escaped b)) [] ESCAPES 0 b table-told lt) in
    (bytes_eq-Decides (told (get_or ESCAPES b [])) (escaped b)).0 passes

-- three bytes of a row at most are told
pub escape-short : (b : ℕ) → b < 256 → get_or (get_or ESCAPES b []) 3 0 ≤ 3
escape-short b lt = grind (arith, nat_tests, row-test (λ r. nat_le (get_or r 3 0) 3) [] ESCAPES b refl lt)

pub escape-sized : (b : ℕ) → b < 256 → length (get_or ESCAPES b []) ≡ 4
escape-sized b lt = grind (arith, nat_tests, row-test (λ r. length r == 4) [] ESCAPES b refl lt)

row-kept : (room : List ℕ) (a b c d at i j k n : ℕ) → i ≡ suc at → j ≡ suc (suc at) → k ≡ suc (suc (suc at))
    → at + 4 ≤ length room → n ≤ 3
    → take (at + n) (set (set (set (set room at a) i b) j c) k d) ≡ take at room ++ take n (a ∷ b ∷ c ∷ d ∷ [])
row-kept room a b c d at i j k n ei ej ek fits short =
    let row : List ℕ = a ∷ b ∷ c ∷ d ∷ [] in
    let front : length (take at room) ≡ at = length-take-le at room (omega (arith, fits)) in
    let within : at + n ≤ length (take at room ++ row) =
    omega (arith, length-append (take at room) row, front, short) in
    let all : sets room at row ≡ take at room ++ row ++ drop (at + 4) room = sets-eq row room at fits in
    let cut : take (at + n) (sets room at row) ≡ take at room ++ take n row =
    ap (λ (x : List ℕ). take (at + n) x) all ∙ take-append-le (at + n) (take at room ++ row) (drop (at + 4) room) within
    ∙ rw front at (take-append-add (take at room) row n) in
    rw (ei, ej, ek) cut

-- a whole row is written from a place on, and so much of it is kept
pub row-written : (room row new : List ℕ) (at n : ℕ) → length row ≡ 4 → at + 4 ≤ length room → n ≤ 3
    → new ≡ set (set (set (set room at (get_or row 0 0)) (at + 1) (get_or row 1 0)) (at + 2) (get_or row 2 0)) (at + 3)
    (get_or row 3 0)
    → take (at + n) new ≡ take at room ++ take n row
row-written room [] new at n four fits short e = absurd (omega arith)
row-written room (a ∷ []) new at n four fits short e = absurd (omega arith)
row-written room (a ∷ b ∷ []) new at n four fits short e = absurd (omega arith)
row-written room (a ∷ b ∷ c ∷ []) new at n four fits short e = absurd (omega arith)
row-written room (a ∷ b ∷ c ∷ d ∷ []) new at n four fits short e =
    rw e (row-kept room a b c d at (at + 1) (at + 2) (at + 3) n (omega arith) (omega arith) (omega arith) fits short)
row-written room (a ∷ b ∷ c ∷ d ∷ x ∷ xs) new at n four fits short e = absurd (omega arith)
