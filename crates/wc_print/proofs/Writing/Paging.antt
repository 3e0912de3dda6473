-- Lines as they are written on a page.
use Rattle.std.proofs.Common.{◌≡◌, ◌≢◌, ℕ, zero, suc, ◌+◌, ◌/◌, ◌%◌, ◌<◌, ◌≤◌, ◌^◌, List, [], ◌∷◌, ◌++◌, length, set}
use Rattle.std.proofs.Common.{take, drop, refl, sym, ap, ◌∙◌, arith, append_assoc, codes}
use Rattle.std.specs.Fmt.{decimal}
use Rattle.std.proofs.lemmas.Fmt.{decimal_step}
use Rattle.std.proofs.lemmas.List.{append-nil, length-append, length-take-le, take_at}
use Rattle.std.proofs.lemmas.List.Edits.{sets, sets-eq}
use Rattle.std.proofs.Math.Seq.{take-append-add}
use Rattle.wc_tokens.specs.Standard.Lexemes.{is_idchar}
use Rattle.wc_print.specs.Standard.Printed.{Printed, below, printed}
use Rattle.wc_print.specs.Standard.Printable.{IsSpelled, Put}
use Rattle.wc_print.specs.Standard.Lines.{offset_items, align_items, bytes_of}
use Rattle.wc_print.specs.Writing.Numbers.{three_digits, front_digits, last_digits}
use Rattle.wc_print.proofs.Writing.Putting.{text}
use Rattle.wc_print.proofs.Writing.Instructions.{unequal, bytes-few}

-- bytes that are written one behind another, from a place on
sets-kept : (page vs : List ℕ) (at n : ℕ) → n ≡ at + length vs → n ≤ length page
    → take n (sets page at vs) ≡ take at page ++ vs
sets-kept page vs at n is fits =
    let within : at + length vs ≤ length page = omega (arith, fits, is) in
    let front : length (take at page) ≡ at = length-take-le at page (omega (arith, within)) in
    let all : length (take at page ++ vs) ≡ n = omega (arith, length-append (take at page) vs, front, is) in
    ap (λ (x : List ℕ). take n x) (sets-eq vs page at within)
    ∙ take_at (take at page ++ vs) (drop (at + length vs) page) n all

pub one-written : (page : List ℕ) (at a : ℕ) → at + 1 ≤ length page → take (at + 1) (set page at a) ≡ take at page ++ a
    ∷ []
one-written page at a fits = sets-kept page (a ∷ []) at (at + 1) (omega arith) fits

-- the last three digits of a number
last-three : (n : ℕ) → three_digits (n % 1000) ≡ (48 + n / 100 % 10) ∷ (48 + n / 10 % 10) ∷ (48 + n % 10) ∷ []
last-three n =
    let first : n % 1000 / 100 ≡ n / 100 % 10 = omega arith in
    let second : n % 1000 / 10 % 10 ≡ n / 10 % 10 = omega arith in
    let third : n % 1000 % 10 ≡ n % 10 = omega arith in
    rw (first, second, third) refl

hundreds : (n : ℕ) → n / 10 / 10 ≡ n / 100
hundreds n = omega arith

thousands : (n : ℕ) → n / 100 / 10 ≡ n / 1000
thousands n = omega arith

-- three more digits, behind those that are written
pub three-more : (page front old : List ℕ) (n : ℕ) → 1000 ≤ n → n < 2 ^ 64 → old ≡ front ++ decimal (n / 1000)
    → page ≡ old ++ three_digits (n % 1000) → page ≡ front ++ decimal n
three-more page front old n ge low written more =
    let first : decimal (n / 100) ≡ decimal (n / 1000) ++ (48 + n / 100 % 10) ∷ [] =
    rw (thousands n) at (decimal_step (n / 100) (omega (arith, ge)) (omega (arith, low))) in
    let second : decimal (n / 10) ≡ decimal (n / 100) ++ (48 + n / 10 % 10) ∷ [] =
    rw (hundreds n) at (decimal_step (n / 10) (omega (arith, ge)) (omega (arith, low))) in
    let third : decimal n ≡ decimal (n / 10) ++ (48 + n % 10) ∷ [] =
    decimal_step n (omega (arith, ge)) (omega (arith, low)) in
    more ∙ rw (last-three n, written, third, second, first) (simp append_assoc)

-- a number is its digits before the last three, and the last three behind them
pub digits-apart : (n k : ℕ) → k ≡ n / 1000 → n < 2 ^ 64 → front_digits k ++ last_digits k n ≡ decimal n
digits-apart n zero e lt = refl
digits-apart n (suc k) e lt =
    let more : decimal (suc k) ≡ [] ++ decimal (n / 1000) = ap decimal e in
    three-more (decimal (suc k) ++ three_digits (n % 1000)) [] (decimal (suc k)) n (omega (arith, e)) lt more refl

-- the numbers before the last six digits, and before the last nine
pub millions : (n : ℕ) → n / 1000 / 1000 ≡ n / 1000000
millions n = omega arith

pub billions : (n : ℕ) → n / 1000000 / 1000 ≡ n / 1000000000
billions n = omega arith

-- what is behind a space
pub behind-space : (page new ds : List ℕ) (at end : ℕ) → at + 1 ≤ length page
    → take end new ≡ take (at + 1) (set page at 32) ++ ds → take end new ≡ take at page ++ (32 ∷ ds)
behind-space page new ds at end fits e =
    e ∙ ap (λ (x : List ℕ). x ++ ds) (one-written page at 32 fits) ∙ append_assoc (take at page) (32 ∷ []) ds

take-less : (m n : ℕ) (xs : List ℕ) → m ≤ n → take m (take n xs) ≡ take m xs
take-less zero n xs le = refl
take-less (suc m) zero xs le = absurd (omega arith)
take-less (suc m) (suc n) [] le = refl
take-less (suc m) (suc n) (x ∷ xs) le = ap (λ (l : List ℕ). x ∷ l) (take-less m n xs (omega arith))

-- a whole row is copied to a place, and so much of it is kept
pub row-kept : (old new row : List ℕ) (at n size : ℕ) → at + size ≤ length old → n ≤ size
    → take (at + size) new ≡ take at old ++ row → take (at + n) new ≡ take at old ++ take n row
row-kept old new row at n size fits short e =
    let front : length (take at old) ≡ at = length-take-le at old (omega (arith, fits)) in
    let cut : take (at + n) (take at old ++ row) ≡ take at old ++ take n row =
    rw front at (take-append-add (take at old) row n) in
    sym (take-less (at + n) (at + size) new (omega (arith, short))) ∙ ap (λ (x : List ℕ). take (at + n) x) e ∙ cut

-- bytes are copied to a place
pub all-kept : (page bytes copied rest : List ℕ) (at n : ℕ) → n ≡ at + length bytes → at ≤ length page → copied ≡ bytes
    → take n (take at page ++ (copied ++ rest)) ≡ take at page ++ bytes
all-kept page bytes copied rest at n is fits same =
    let front : length (take at page) ≡ at = length-take-le at page fits in
    let all : List ℕ = bytes ++ rest in
    let cut : take (at + length bytes) (take at page ++ all) ≡ take at page ++ take (length bytes) all =
    rw front at (take-append-add (take at page) all (length bytes)) in
    rw (is, same) cut ∙ ap (λ (x : List ℕ). take at page ++ x) (take_at bytes rest (length bytes) refl)

-- a line that is written
pub line-put : (p : Printed) {old new line : List ℕ} → IsSpelled p → line ≡ printed (below 4 p ∷ []) → new ≡ old ++ line
    → Put (below 4 p ∷ []) old new
line-put p h is e = text (below 4 p ∷ []) (h, tt) is e

-- an offset that isn't zero is printed
pub offset-some : (n : ℕ) (old mid new : List ℕ) → n ≢ 0 → n < 2 ^ 32 → mid ≡ old ++ (32 ∷ codes "offset=")
    → new ≡ mid ++ decimal n → Put (offset_items n) old new
unfolding is_idchar
offset-some n old mid new h lt e f =
    rw (unequal n 0 h) (record {
      spelled = ((refl, omega (arith, lt)), tt);
      bytes = f ∙ rw e (simp (append_assoc, append-nil));
    })

-- an alignment that isn't the natural one is printed
pub align-some : (natural a v : ℕ) (old mid new : List ℕ) → a ≢ natural → v ≡ bytes_of a
    → mid ≡ old ++ (32 ∷ codes "align=") → new ≡ mid ++ decimal v → Put (align_items natural a) old new
unfolding is_idchar
align-some natural a v old mid new h is e f =
    rw (unequal a natural h) (record {
      spelled = ((refl, omega (arith, bytes-few a)), tt);
      bytes = f ∙ rw (e, is) (simp (append_assoc, append-nil));
    })
