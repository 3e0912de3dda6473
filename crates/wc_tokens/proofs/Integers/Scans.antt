-- One step of a scan of digits.
use Rattle.std.proofs.Common.{◌≡◌, ℕ, ◌+◌, ◌<◌, ◌≤◌, ◌≢◌, nat_lt, nat_eq, Bool, true, false, List, [], ◌∷◌, Option}
use Rattle.std.proofs.Common.{Some, None, length, drop, get_or, option_map, refl, sym, ap, subst, if◌then◌else◌, ◌∙◌}
use Rattle.std.proofs.Common.{arith}
use Rattle.std.proofs.lemmas.List.{at_drop_more, drop_more, drop_all}
use Rattle.std.proofs.lemmas.Bool.Decides.{nat_tests, Decides-ltb}
use Rattle.wc_tokens.specs.Standard.Digits.{digit_of}
use Rattle.wc_tokens.specs.Reading.Scans.{scan, extended}
use Rattle.wc_tokens.specs.declared.digits.DigitRun.{DigitRun}

pub lt-true : (a b : ℕ) → a < b → nat_lt a b ≡ true
lt-true a b h = (Decides-ltb a b).1 h

pub lt-false : (a b : ℕ) → b ≤ a → nat_lt a b ≡ false
lt-false a b h = grind (arith, nat_tests)

pub eq-false : (a b : ℕ) → a ≢ b → nat_eq a b ≡ false
eq-false a b h = grind (arith, nat_tests)

pub scan-digit : (base : ℕ) (after_digit : Bool) (value : Option ℕ) (c : ℕ) (rest : List ℕ) → digit_of c < base
    → scan base after_digit value (c ∷ rest) ≡ scan base true (extended base value (digit_of c)) rest
unfolding scan
scan-digit base after_digit value c rest h = let e = lt-true (digit_of c) base h in rw e

pub scan-apart : (base : ℕ) (value : Option ℕ) (rest : List ℕ) → base ≤ digit_of 95
    → scan base true value (95 ∷ rest) ≡ scan base false value rest
unfolding scan
scan-apart base value rest h = let e = lt-false (digit_of 95) base h in rw e

pub scan-other : (base : ℕ) (value : Option ℕ) (c : ℕ) (rest : List ℕ) → base ≤ digit_of c → c ≢ 95
    → scan base true value (c ∷ rest) ≡ Some (value, c ∷ rest)
unfolding scan
scan-other base value c rest h n = let e = lt-false (digit_of c) base h in let f = eq-false c 95 n in rw (e, f)

pub scan-nothing : (base : ℕ) (value : Option ℕ) (c : ℕ) (rest : List ℕ) → base ≤ digit_of c
    → scan base false value (c ∷ rest) ≡ None
unfolding scan
scan-nothing base value c rest h = let e = lt-false (digit_of c) base h in rw e

pub scan-end : (base : ℕ) (value : Option ℕ) → scan base true value [] ≡ Some (value, [])
unfolding scan
scan-end base value = refl

pub scan-none : (base : ℕ) (value : Option ℕ) → scan base false value [] ≡ None
unfolding scan
scan-none base value = refl

-- ---- the same at a place of a text, as the code goes on: read is what is read from there, whole what is read from the
-- start

abbrev Scanned : Type 0
Scanned = Option (Option ℕ × List ℕ)

pub keeps-digit : (base : ℕ) (after_digit : Bool) (value : Option ℕ) {after : Bool} {next : Option ℕ} (text : List ℕ)
    (at : ℕ) {digit : ℕ} {whole : Scanned}
    → scan base after_digit value (drop at text) ≡ whole → at < length text → digit ≡ digit_of (get_or text at 0)
    → digit < base → next ≡ extended base value digit → after ≡ true → scan base after next (drop (at + 1) text) ≡ whole
keeps-digit base after_digit value {after} {next} text at {digit} {whole} read within is small n a =
    let here = at_drop_more (scan base after_digit value) text at 0 within in
    let small' : digit_of (get_or text at 0) < base = subst (λ (d : ℕ). d < base) is small in
    let step = scan-digit base after_digit value (get_or text at 0) (drop (at + 1) text) small' in
    rw (a, n, is) (sym step ∙ sym here ∙ read)

pub keeps-apart : (base : ℕ) (after_digit : Bool) (value : Option ℕ) {after : Bool} {next : Option ℕ} (text : List ℕ)
    (at : ℕ) {digit : ℕ} {whole : Scanned}
    → scan base after_digit value (drop at text) ≡ whole → at < length text → digit ≡ digit_of (get_or text at 0)
    → base ≤ digit → after_digit ≡ true → get_or text at 0 ≡ 95 → next ≡ value → after ≡ false
    → scan base after next (drop (at + 1) text) ≡ whole
keeps-apart base after_digit value {after} {next} text at {digit} {whole} read within is large b e n a =
    let here = at_drop_more (scan base true value) text at 0 within in
    let large' : base ≤ digit_of 95 = subst (λ (d : ℕ). base ≤ digit_of d) e (subst (λ (d : ℕ). base ≤ d) is large) in
    let step = scan-apart base value (drop (at + 1) text) large' in
    let read' : scan base true value (drop at text) ≡ whole = subst
    (λ (d : Bool). scan base d value (drop at text) ≡ whole) b read in
    let there : scan base true value (drop at text) ≡ scan base true value (95 ∷ drop (at + 1) text) = subst
    (λ (d : ℕ). scan base true value (drop at text) ≡ scan base true value (d ∷ drop (at + 1) text)) e here in
    rw (a, n) (sym step ∙ sym there ∙ read')

-- the run that ends at a place
abbrev run_to : Bool → Option ℕ → List ℕ → Scanned
run_to after_digit value rest = if after_digit then Some (value, rest) else None

pub ends-other : (base : ℕ) (after_digit : Bool) (value : Option ℕ) (text : List ℕ)
    (at : ℕ) {digit : ℕ} {whole : Scanned}
    → scan base after_digit value (drop at text) ≡ whole → at < length text → digit ≡ digit_of (get_or text at 0)
    → base ≤ digit → (after_digit ≡ true → get_or text at 0 ≢ 95) → run_to after_digit value (drop at text) ≡ whole
ends-other base true value text at {digit} {whole} read within is large n =
    let large' : base ≤ digit_of (get_or text at 0) = subst (λ (d : ℕ). base ≤ d) is large in
    let more = drop_more text at 0 within in
    let step = scan-other base value (get_or text at 0) (drop (at + 1) text) large' (n refl) in
    ap (λ (t : List ℕ). Some (value, t)) more ∙ sym step ∙ sym (ap (scan base true value) more) ∙ read
ends-other base false value text at {digit} {whole} read within is large n =
    let large' : base ≤ digit_of (get_or text at 0) = subst (λ (d : ℕ). base ≤ d) is large in
    let more = drop_more text at 0 within in
    let step = scan-nothing base value (get_or text at 0) (drop (at + 1) text) large' in
    sym step ∙ sym (ap (scan base false value) more) ∙ read

pub ends-all : (base : ℕ) (after_digit : Bool) (value : Option ℕ) (text : List ℕ) (at : ℕ) {whole : Scanned}
    → scan base after_digit value (drop at text) ≡ whole → length text ≤ at
    → run_to after_digit value (drop at text) ≡ whole
ends-all base true value text at {whole} read past =
    let none = drop_all at text past in
    ap (λ (t : List ℕ). Some (value, t)) none ∙ sym (scan-end base value) ∙ sym (ap (scan base true value) none) ∙ read
ends-all base false value text at {whole} read past =
    let none = drop_all at text past in
    sym (scan-none base value) ∙ sym (ap (scan base false value) none) ∙ read

-- what the code answers of a run that ends at a place
pub run_to-is : (after_digit : Bool) (value : Option ℕ) (text : List ℕ)
    (at : ℕ) {run : Option DigitRun} {whole : Scanned}
    → run ≡ (if after_digit then Some (record { value = value; len = at }) else None)
    → run_to after_digit value (drop at text) ≡ whole
    → option_map (λ (d : DigitRun). (d.value, drop d.len text)) run ≡ whole
run_to-is true value text at e h = ap (option_map (λ (d : DigitRun). (d.value, drop d.len text))) e ∙ h
run_to-is false value text at e h = ap (option_map (λ (d : DigitRun). (d.value, drop d.len text))) e ∙ h
