-- The tables of the digits of numbers below a thousand.
use Rattle.std.proofs.Common.{◌≡◌, ℕ, ◌<◌, ◌≤◌, Bool, true, List, [], length, get_or, take}
use Rattle.std.proofs.Common.{nat_le, refl, arith, zero-add, ◌∙◌}
use Rattle.std.specs.Prelude.{slice_index}
use Rattle.std.specs.Fmt.{decimal}
use Rattle.std.specs.Str.{bytes_eq}
use Rattle.std.proofs.lemmas.Bool.Decides.{nat_tests}
use Rattle.std.proofs.lemmas.Slice.Eq.{bytes_eq-Decides}
use Rattle.wc_print.specs.declared.thousands.TheConstants.{FEW, THREE}
use Rattle.wc_print.specs.Writing.Numbers.{three_digits}
use Rattle.wc_print.proofs.Tables.BriefTables.{few, few-is}
use Rattle.wc_print.proofs.Tables.RowTests.{each_row, row-passes, row-test}

-- the row tells these digits
has_digits : (ℕ → List ℕ) → (List ℕ → List ℕ) → ℕ → List ℕ → Bool
has_digits digits told n r = bytes_eq (told r) (digits n)

row-told : (digits : ℕ → List ℕ) (told : List ℕ → List ℕ) (rs : List (List ℕ)) (n : ℕ)
    → each_row (has_digits digits told) 0 rs ≡ true → n < length rs → told (get_or rs n []) ≡ digits n
unfolding has_digits
row-told digits told rs n e lt =
    let passes : bytes_eq (told (get_or rs n [])) (digits n) ≡ true =
    rw zero-add at (row-passes (has_digits digits told) [] rs 0 n e lt) in
    (bytes_eq-Decides (told (get_or rs n [])) (digits n)).0 passes

few-told : each_row (has_digits few (λ r. take (slice_index r 3) r)) 0 FEW ≡ true
unfolding each_row has_digits few
few-told = refl

three-told : each_row (has_digits three_digits (λ r. take 3 r)) 0 THREE ≡ true
unfolding each_row has_digits
three-told = refl

pub few-digits : (n : ℕ) → n < 1000
    → take (slice_index (get_or FEW n []) 3) (get_or FEW n []) ≡ decimal n
few-digits n lt = row-told few (λ r. take (slice_index r 3) r) FEW n few-told lt ∙ few-is n lt

at-most-three : (n : ℕ) → nat_le n 3 ≡ true → n ≤ 3
at-most-three n e = grind (arith, nat_tests, e)

-- three bytes of a row at most are digits
pub few-short : (n : ℕ) → n < 1000 → slice_index (get_or FEW n []) 3 ≤ 3
few-short n lt =
    at-most-three (slice_index (get_or FEW n []) 3) (row-test (λ r. nat_le (slice_index r 3) 3) [] FEW n refl lt)

pub three-digits : (n : ℕ) → n < 1000 → take 3 (get_or THREE n []) ≡ three_digits n
three-digits n lt = row-told three_digits (λ r. take 3 r) THREE n three-told lt
