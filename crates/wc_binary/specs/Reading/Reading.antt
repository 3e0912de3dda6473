-- Reading from the first byte to the first fault, computed: what `Spells` and `Stops` come to.
use Rattle.std.specs.Prelude.{ℕ, ℤ, pos, ◌+ℤ◌, ◌-ℤ◌, ◌*ℤ◌, Bool, false, cond, not, length, zero, suc, ◌+◌, ◌-◌, ◌*◌}
use Rattle.std.specs.Prelude.{◌^◌, nat_lt, List, [], ◌∷◌, Option, Some, None, Result, Ok, Err, if◌then◌else◌}
use Rattle.wc_binary.specs.declared.fault.BinWhy.{BinWhy}
use Rattle.wc_binary.specs.declared.fault.BinWhy.TheVariants.{End, Integer}
use Rattle.wc_body.specs.Standard.Nested.{Code, empty, Mark, plain, begin, begin_if, otherwise, close, nesting_limit}
use Rattle.wc_body.specs.Standard.Draft.{Draft, whole, step, in_first_part, is_open}
use Rattle.wc_binary.specs.Standard.Expression.{Begun, plain_op, region_op, if_op, else_op, end_op, standing}
use Rattle.wc_binary.specs.Standard.Phrase.{Halt, halt, Phrase, gives, byte, unsigned, signed, ◌>>=◌, judged, measured}
use Rattle.wc_binary.specs.Standard.Phrase.{byte_or_signed, neat, expression}

-- a value, the place behind it, and what is left there
pub record Got (A : Type 0) : Type 0 where
  pub value : A
  pub place : ℕ
  pub left : List ℕ

-- a value was read
abbrev pub got : {A : Type 0} → A → ℕ → List ℕ → Result (Got A) Halt
got v o x = Ok (record { value = v; place = o; left = x })

-- reading stopped
abbrev pub fault : {A : Type 0} → ℕ → BinWhy → ℕ → Result A Halt
fault o r t = Err (halt o r t)

infixl 10 ◌and_then◌
-- what is read behind a value that was read
abbrev pub ◌and_then◌ : {A B : Type 0} → Result A Halt → (A → Result B Halt) → Result B Halt
(Ok x) and_then f = f x
(Err e) and_then f = Err e

-- a byte by what a table makes of it
abbrev pub byte_or : {A : Type 0} → ℕ → List ℕ → Result A BinWhy → Result (Got A) Halt
byte_or o x (Ok v) = got v (o + 1) x
byte_or o x (Err r) = fault o r (o + 1)

-- one byte of a table
abbrev pub byte_at : {A : Type 0} → (ℕ → Result A BinWhy) → ℕ → List ℕ → Result (Got A) Halt
byte_at table o [] = fault o End o
byte_at table o (b ∷ x) = byte_or o x (table b)

-- an unsigned integer of so many bits, group by group
abbrev pub unsigned_at : ℕ → ℕ → List ℕ → Result (Got ℕ) Halt
unsigned_at N o [] = fault o End o
unsigned_at N o (b ∷ x) =
    if nat_lt b 128
    then (if nat_lt b (2 ^ N) then got b (o + 1) x else fault o Integer (o + 1))
    else (if nat_lt b 256
    then (if nat_lt 7 N
    then (unsigned_at (N - 7) (o + 1) x and_then λ m. got (128 * m.value + (b - 128)) m.place m.left)
    else fault o Integer (o + 1))
    else fault o Integer (o + 1))

-- a signed one
abbrev pub signed_at : ℕ → ℕ → List ℕ → Result (Got ℤ) Halt
signed_at N o [] = fault o End o
signed_at N o (b ∷ x) =
    if nat_lt b 64
    then (if nat_lt b (2 ^ (N - 1)) then got (pos b) (o + 1) x else fault o Integer (o + 1))
    else (if nat_lt b 128
    then (if nat_lt (b + 2 ^ (N - 1)) 128 then fault o Integer (o + 1) else got (pos b -ℤ pos 128) (o + 1) x)
    else (if nat_lt b 256
    then (if nat_lt 7 N
    then (signed_at (N - 7) (o + 1) x and_then λ m. got ((pos 128 *ℤ m.value) +ℤ (pos b -ℤ pos 128)) m.place m.left)
    else fault o Integer (o + 1))
    else fault o Integer (o + 1)))

-- ---- expressions, mark by mark

-- does the mark end the expression
abbrev pub is_last : {P H : Type 0} → Draft P H → Mark P H → Bool
is_last d (plain p) = false
is_last d (begin r h) = false
is_last d (begin_if h) = false
is_last d otherwise = false
is_last d close = not (is_open d.around)

-- what is read of a plain instruction behind its opcode, and of a block type
module _ {O P H : Type 0} (table : ℕ → Result (Begun O) BinWhy) (follows : O → ℕ → List ℕ → Result (Got P) Halt)
    (head : ℕ → List ℕ → Result (Got H) Halt) where
  -- the mark of an opcode that begins this, by what is read behind it
  abbrev pub behind_opcode : Result (Begun O) BinWhy → ℕ → List ℕ → Result (Got (Mark P H)) Halt
  behind_opcode (Err r) o x = fault o r (o + 1)
  behind_opcode (Ok (plain_op u)) o x = follows u (o + 1) x and_then λ g. got (plain g.value) g.place g.left
  behind_opcode (Ok (region_op r)) o x = head (o + 1) x and_then λ g. got (begin r g.value) g.place g.left
  behind_opcode (Ok if_op) o x = head (o + 1) x and_then λ g. got (begin_if g.value) g.place g.left
  behind_opcode (Ok else_op) o x = got otherwise (o + 1) x
  behind_opcode (Ok end_op) o x = got close (o + 1) x

  -- the next mark, where so many are open and an else may or may not stand
  abbrev pub next_mark : Bool → Bool → ℕ → List ℕ → Result (Got (Mark P H)) Halt
  next_mark room first o [] = fault o End o
  next_mark room first o (b ∷ x) = behind_opcode (standing room first (table b)) o x

  -- the next mark behind a draft
  abbrev pub mark_at : Draft P H → ℕ → List ℕ → Result (Got (Mark P H)) Halt
  mark_at d o x = next_mark (nat_lt (length d.around) nesting_limit) (in_first_part d.around) o x

  -- so many marks at most
  abbrev pub marks_at : ℕ → Draft P H → ℕ → List ℕ → Result (Got (Code P H)) Halt
  marks_at zero d o x = fault o End o
  marks_at (suc n) d o x =
      mark_at d o x
      and_then λ g. cond (is_last d g.value) (got d.last g.place g.left) (marks_at n (step d g.value) g.place g.left)

-- one byte of a table, or a signed integer
abbrev pub either_at : {A : Type 0} → (ℕ → Bool) → (ℕ → Result A BinWhy) → ℕ → (ℤ → A) → ℕ → List ℕ
    → Result (Got A) Halt
either_at test table N make o [] = fault o End o
either_at test table N make o (b ∷ x) =
    if test b
    then byte_or o x (table b)
    else (signed_at N o (b ∷ x) and_then λ m. got (make m.value) m.place m.left)

-- a value that was read, unless it is judged to be a fault
abbrev pub judge_at : {A : Type 0} → ℕ → Option (ℕ × BinWhy) → Got A → Result (Got A) Halt
judge_at o None g = Ok g
judge_at o (Some f) g = fault (o + f.0) f.1 g.place

-- a phrase from this place on
abbrev pub read : {A : Type 0} → Phrase A → ℕ → List ℕ → Result (Got A) Halt
read (gives v) o x = got v o x
read (byte table) o x = byte_at table o x
read (unsigned N) o x = unsigned_at N o x
read (signed N) o x = signed_at N o x
read (p >>= f) o x = read p o x and_then λ u. read (f u.value) u.place u.left
read (judged p judge) o x = read p o x and_then λ u. judge_at o (judge u.value) u
read (measured p) o x = read p o x and_then λ u. got (u.place - o, u.value) u.place u.left
read (byte_or_signed test table N make) o x = either_at test table N make o x
read (neat p Q) o x = read p o x
read (expression table f h) o x =
    marks_at table (λ u q y. read (f u) q y) (λ q y. read h q y) (suc (length x)) (whole empty) o x
