-- Brief entries as lines: the tables of lines and of operands.
use Rattle.std.proofs.Common.{◌≡◌, ℕ, zero, suc, ◌+◌, ◌-◌, ◌/◌, ◌%◌, ◌<◌, ◌≤◌, ◌==◌, ℤ, pos, negsuc, ◌-ℤ◌}
use Rattle.std.proofs.Common.{Bool, true, false, ◌&&◌, List, [], ◌∷◌, ◌++◌, length, get_or, nat_lt, nat_le, codes}
use Rattle.std.proofs.Common.{inl, inr, refl, sym, ap, ◌∙◌, arith, zero-add}
use Rattle.std.specs.Prelude.{slice_index, if◌then◌else◌}
use Rattle.std.specs.Fmt.{decimal, signed_decimal}
use Rattle.std.specs.Str.{bytes_eq}
use Rattle.std.specs.List.{list_all}
use Rattle.std.proofs.lemmas.Bool.{cases_lt, lt-ltb, le-ltb}
use Rattle.std.proofs.lemmas.Bool.Decides.{nat_tests}
use Rattle.std.proofs.lemmas.Fmt.{decimal_digit, decimal_step}
use Rattle.std.proofs.lemmas.Int.{ints}
use Rattle.std.proofs.lemmas.List.{append-nil}
use Rattle.std.proofs.lemmas.Slice.Eq.{bytes_eq-Decides}
use Rattle.wc_ops.specs.declared.op.Op.{Op}
use Rattle.wc_ops.specs.declared.op.OpByte.{OpByte}
use Rattle.wc_ops.specs.declared.op.OpByte.TheVariants.{Known, Float, Unknown}
use Rattle.wc_ops.specs.Standard.Opcodes.{row}
use Rattle.wc_ops.specs.Reading.OpcodeMeaning.{meaning}
use Rattle.wc_ops.proofs.Meanings.OfBytes.{row-meaning}
use Rattle.wc_body.specs.Standard.Walks.Brief.{signed_byte}
use Rattle.wc_print.specs.declared.lines.TheConstants.{LINES}
use Rattle.wc_print.specs.declared.operands.TheConstants.{TEXTS}
use Rattle.wc_print.specs.Standard.Printed.{word, part, after, below, printed}
use Rattle.wc_print.specs.Standard.Lines.{told}
use Rattle.wc_print.specs.Writing.Briefly.{told_text, operand_items, operand_kind, Tells, TellsMeant, IsLine}
use Rattle.wc_print.proofs.Tables.RowTests.{both-first, both-second, each_row, row-passes, row-test}

-- ---- lines

-- the row tells this word, and this operand follows
tells : List ℕ → ℕ → List ℕ → Bool
tells w kind r = bytes_eq (told r) (printed (below 4 (word w) ∷ [])) && (slice_index r 22 == kind)

tells-is : (w : List ℕ) (kind : ℕ) (r : List ℕ) → tells w kind r ≡ true → Tells w kind r
unfolding tells
tells-is w kind r e =
    let line : Bool = bytes_eq (told r) (printed (below 4 (word w) ∷ [])) in
    let operand : (slice_index r 22 == kind) ≡ true = both-second line (slice_index r 22 == kind) e in
    record {
      line = (bytes_eq-Decides (told r) (printed (below 4 (word w)
          ∷ []))).0 (both-first line (slice_index r 22 == kind) e);
      operand = grind (arith, nat_tests, operand);
    }

-- the row tells what its byte means
meant : OpByte → ℕ → List ℕ → Bool
meant (Known op) b r = tells (row op).name (operand_kind op) r
meant Float b r = true
meant Unknown b r =
    if b == 0x05 then tells (codes "else") 0 r else (if b == 0x0B then tells (codes "end") 0 r else true)

meant-is : (m : OpByte) (b : ℕ) (r : List ℕ) → meant m b r ≡ true → TellsMeant m b r
unfolding meant
meant-is (Known op) b r e = tells-is (row op).name (operand_kind op) r e
meant-is Float b r e = tt
meant-is Unknown b r e =
    ((λ is. tells-is (codes "else") 0 r (rw is at e)), (λ is. tells-is (codes "end") 0 r (rw is at e)))

lines-meant : each_row (λ b r. meant (meaning b) b r) 0 LINES ≡ true
unfolding meaning each_row meant tells
lines-meant = refl

row-meant : (b : ℕ) → b < 256 → meant (meaning b) b (get_or LINES b []) ≡ true
row-meant b lt = rw zero-add at (row-passes (λ b r. meant (meaning b) b r) [] LINES 0 b lines-meant lt)

pub line-is : (b : ℕ) → b < 256 → IsLine b (get_or LINES b [])
line-is b lt = record {
  meant = meant-is (meaning b) b (get_or LINES b []) (row-meant b lt);
  short = grind (arith, nat_tests, row-test (λ r. nat_le (slice_index r 23) 22) [] LINES b refl lt);
  kind = grind (arith, nat_tests, row-test (λ r. nat_lt (slice_index r 22) 4) [] LINES b refl lt);
}

-- the row at an instruction's opcode
pub op-told : (op : Op) (r : List ℕ) → IsLine (row op).byte r → told r ≡ printed (below 4 (word (row op).name) ∷ [])
op-told op r h =
    let k : TellsMeant (Known op) (row op).byte r = rw (row-meaning op) at h.meant in
    k.line

-- ---- operands, computed

-- the digits of a number of at most three
unfoldable pub few : ℕ → List ℕ
few n =
    if nat_lt n 10 then (48 + n) ∷ []
    else (if nat_lt n 100 then (48 + n / 10) ∷ (48 + n % 10) ∷ []
    else (48 + n / 10 / 10) ∷ (48 + n / 10 % 10) ∷ (48 + n % 10) ∷ [])

two : (n : ℕ) → 10 ≤ n → n < 100 → decimal n ≡ (48 + n / 10) ∷ (48 + n % 10) ∷ []
two n ge lt =
    decimal_step n ge (omega (arith, lt))
    ∙ ap (λ (x : List ℕ). x ++ (48 + n % 10) ∷ []) (decimal_digit (n / 10) (omega (arith, lt)))

three : (n : ℕ) → 100 ≤ n → n < 1000 → decimal n ≡ (48 + n / 10 / 10) ∷ (48 + n / 10 % 10) ∷ (48 + n % 10) ∷ []
three n ge lt =
    decimal_step n (omega (arith, ge)) (omega (arith, lt))
    ∙ ap (λ (x : List ℕ). x ++ (48 + n % 10) ∷ []) (two (n / 10) (omega (arith, ge)) (omega (arith, lt)))

pub few-is : (n : ℕ) → n < 1000 → few n ≡ decimal n
unfolding few
few-is n low = elim (cases_lt n 10) [
  | inl lt ↦ rw (lt-ltb n 10 lt) (sym (decimal_digit n lt))
  | inr ge ↦ elim (cases_lt n 100) [
    | inl lt ↦ rw (le-ltb n 10 ge) rw (lt-ltb n 100 lt) (sym (two n ge lt))
    | inr more ↦ rw (le-ltb n 10 ge) rw (le-ltb n 100 more) (sym (three n more low))
  ]
]

signed : ℕ → List ℕ
signed n = if nat_lt n 64 then few n else 45 ∷ few (128 - n)

signed-is : (n : ℕ) → n < 128 → signed n ≡ signed_decimal (signed_byte n)
unfolding signed
signed-is n lt = elim (cases_lt n 64) [
  | inl low ↦ rw (lt-ltb n 64 low) (few-is n (omega (arith, lt)))
  | inr high ↦
      let below : negsuc (127 - n) ≡ pos n -ℤ pos 128 = omega (arith, ints, lt) in
      let size : 128 - n ≡ suc (127 - n) = omega (arith, lt) in
      rw (le-ltb n 64 high)
      (ap (λ (x : List ℕ). 45 ∷ x) (few-is (128 - n) (omega arith)) ∙ ap (λ (x : ℕ). 45 ∷ decimal x) size
      ∙ ap (λ (z : ℤ). signed_decimal z) below)
]

-- the bytes of an operand
operand_bytes : ℕ → ℕ → List ℕ
operand_bytes zero n = []
operand_bytes (suc zero) n = 32 ∷ few n
operand_bytes (suc (suc zero)) n = 32 ∷ signed n
operand_bytes (suc (suc (suc k))) n = if n == 0 then [] else 32 ∷ (codes "offset=" ++ few n)

offset-is : (none : Bool) (n : ℕ) → n < 128
    → (if none then [] else 32 ∷ (codes "offset=" ++ few n))
    ≡ printed (if none then [] else after (part (codes "offset=") n) ∷ [])
offset-is true n lt = refl
offset-is false n lt =
    ap (λ (x : List ℕ). 32 ∷ (codes "offset=" ++ x)) (few-is n (omega (arith, lt)))
    ∙ sym (append-nil (32 ∷ (codes "offset=" ++ decimal n)))

operand-is : (kind n : ℕ) → n < 128 → operand_bytes kind n ≡ printed (operand_items kind n)
unfolding operand_bytes
operand-is zero n lt = refl
operand-is (suc zero) n lt =
    ap (λ (x : List ℕ). 32 ∷ x) (few-is n (omega (arith, lt)) ∙ sym (append-nil (decimal n)))
operand-is (suc (suc zero)) n lt =
    ap (λ (x : List ℕ). 32 ∷ x) (signed-is n lt ∙ sym (append-nil (signed_decimal (signed_byte n))))
operand-is (suc (suc (suc k))) n lt = offset-is (n == 0) n lt

-- ---- operands

-- the row tells the operand of this number
tells_operand : ℕ → ℕ → List ℕ → Bool
tells_operand kind n t = bytes_eq (told_text t) (operand_bytes kind n)

-- so do the rows of a kind
tells_operands : ℕ → List (List ℕ) → Bool
tells_operands kind ts = each_row (tells_operand kind) 0 ts

texts-told : each_row tells_operands 0 TEXTS ≡ true
unfolding each_row tells_operands tells_operand operand_bytes few signed
texts-told = refl

pub kind-sized : (kind : ℕ) → kind < 4 → length (get_or TEXTS kind []) ≡ 128
kind-sized kind lt = grind (arith, nat_tests, row-test (λ ts. length ts == 128) [] TEXTS kind refl lt)

abbrev text_of : ℕ → ℕ → List ℕ
text_of kind n = get_or (get_or TEXTS kind []) n []

text-told : (kind n : ℕ) → kind < 4 → n < 128 → tells_operand kind n (text_of kind n) ≡ true
unfolding tells_operands
text-told kind n lt low =
    let within : n < length (get_or TEXTS kind []) = rw (kind-sized kind lt) low in
    let tell : tells_operands kind (get_or TEXTS kind []) ≡ true =
    rw zero-add at (row-passes tells_operands [] TEXTS 0 kind texts-told (omega (arith, lt))) in
    rw zero-add at (row-passes (tells_operand kind) [] (get_or TEXTS kind []) 0 n tell within)

pub operand-told : (kind n : ℕ) → kind < 4 → n < 128 → told_text (text_of kind n) ≡ printed (operand_items kind n)
unfolding tells_operand
operand-told kind n lt low =
    (bytes_eq-Decides (told_text (text_of kind n)) (operand_bytes kind n)).0 (text-told kind n lt low)
    ∙ operand-is kind n low

each-text : (test : List ℕ → Bool) → list_all (λ ts. list_all test ts) TEXTS ≡ true → (kind n : ℕ) → kind < 4 → n < 128
    → test (text_of kind n) ≡ true
each-text test e kind n lt low =
    let within : n < length (get_or TEXTS kind []) = rw (kind-sized kind lt) low in
    row-test test [] (get_or TEXTS kind []) n (row-test (λ ts. list_all test ts) [] TEXTS kind e lt) within

pub operand-short : (kind n : ℕ) → kind < 4 → n < 128 → slice_index (text_of kind n) 15 ≤ 15
operand-short kind n lt low = grind (arith, nat_tests, each-text (λ t. nat_le (slice_index t 15) 15) refl kind n lt low)
