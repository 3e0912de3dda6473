-- How a phrase of the binary format is built (Core 1.0, 5.1), which bytes spell it, and where reading it stops.
use Rattle.std.specs.Prelude.{◌≡◌, ℕ, ℤ, ◌+◌, ◌≤◌, nat_lt, Bool, true, false, List, [], ◌∷◌, ◌++◌, length, Option, Some}
use Rattle.std.specs.Prelude.{None, Result, Ok, Err, ◌⊎◌}
use Rattle.wc_leb128.specs.Standard.Integers.{U, S, Begins, IsUnfinished}
use Rattle.wc_body.specs.Standard.Nested.{Code, nesting, nesting_limit}
use Rattle.wc_body.specs.Standard.Draft.{Draft, reach, in_first_part}
use Rattle.wc_body.specs.Standard.Grammar.{SpellsDraft}
use Rattle.wc_binary.specs.declared.fault.BinWhy.{BinWhy}
use Rattle.wc_binary.specs.declared.fault.BinWhy.TheVariants.{End, Integer}
use Rattle.wc_binary.specs.Standard.Style.{Style, free}
use Rattle.wc_binary.specs.Standard.Expression.{Begun, plain_op, region_op, if_op, else_op, end_op, standing, letters}
use Rattle.wc_binary.specs.Standard.Expression.{IsExpression}

infixl 10 ◌>>=◌
-- The ways of building a phrase whose value is an A.
pub data Phrase : Type 0 → Type 1 where
  -- no byte
  gives : {A : Type 0} → A → Phrase A
  -- one byte, which a table maps to a value or to the reason why it may not stand
  byte : {A : Type 0} → (ℕ → Result A BinWhy) → Phrase A
  -- an unsigned integer of so many bits
  unsigned : ℕ → Phrase ℕ
  -- a signed one
  signed : ℕ → Phrase ℤ
  -- a phrase, and one that may depend on its value
  ◌>>=◌ : {A B : Type 0} → Phrase A → (A → Phrase B) → Phrase B
  -- a phrase that is judged once it is spelled: the place of the fault within it, and the reason
  judged : {A : Type 0} → Phrase A → (A → Option (ℕ × BinWhy)) → Phrase A
  -- a phrase, and how many bytes spell it
  measured : {A : Type 0} → Phrase A → Phrase (ℕ × A)
  -- one byte of a table, or, where the first byte is none of those, a signed integer of so many bits
  byte_or_signed : {A : Type 0} → (ℕ → Bool) → (ℕ → Result A BinWhy) → ℕ → (ℤ → A) → Phrase A
  -- a phrase whose value, where it is spelled canonically, is of this kind
  neat : {A : Type 0} → Phrase A → (A → Type 0) → Phrase A
  -- instructions and their end: which bytes are opcodes, what follows that of a plain instruction, and what that of a
  -- block
  expression : {O P H : Type 0} → (ℕ → Result (Begun O) BinWhy) → (O → Phrase P) → Phrase H → Phrase (Code P H)

-- these bytes, and no others, spell this value in this style
abbrev pub SpellsBy : Style → {A : Type 0} → Phrase A → List ℕ → A → Type 0
SpellsBy s (gives w) b v = (b ≡ []) × (v ≡ w)
SpellsBy s (byte table) b v = (x : ℕ) × (b ≡ x ∷ []) × (table x ≡ Ok v)
SpellsBy s (unsigned N) b v = s.Integer N b v
SpellsBy s (signed N) b v = s.Signed N b v
SpellsBy s (◌>>=◌ {A} {B} p f) b v = (a c : List ℕ) × (u : A) × (b ≡ a ++ c) × SpellsBy s p a u × SpellsBy s (f u) c v
SpellsBy s (judged p judge) b v = SpellsBy s p b v × (judge v ≡ None)
SpellsBy s (measured {A} p) b v = (u : A) × SpellsBy s p b u × (v ≡ (length b, u))
SpellsBy s (byte_or_signed test table N make) b v =
    (x : ℕ) × (c : List ℕ) × (b ≡ x ∷ c)
    ×
    (((test x ≡ true) × (c ≡ []) × (table x ≡ Ok v))
    ⊎ ((test x ≡ false) × (z : ℤ) × s.Signed N (x ∷ c) z × (v ≡ make z)))
SpellsBy s (neat p Q) b v = SpellsBy s p b v × s.Neat (Q v)
SpellsBy s (expression table f h) b v =
    IsExpression s.Neat table (λ u c p. SpellsBy s (f u) c p) (λ c t. SpellsBy s h c t) b v

-- these bytes spell this value
abbrev pub Spells : {A : Type 0} → Phrase A → List ℕ → A → Type 0
Spells {A} p b v = SpellsBy free {A = A} p b v

-- where reading stops, why, and how many bytes of the input had been taken when the fault showed
pub record Halt : Type 0 where
  pub at : ℕ
  pub why : BinWhy
  pub taken : ℕ

-- a stop, by its parts
abbrev pub halt : ℕ → BinWhy → ℕ → Halt
halt q r t = record { at = q; why = r; taken = t }

-- a byte is wanted: none is left, or it is none that may stand
abbrev pub StopsByte : {A : Type 0} → (ℕ → Result A BinWhy) → ℕ → List ℕ → Halt → Type 0
StopsByte table o [] f = f ≡ halt o End o
StopsByte table o (b ∷ x) f = (r : BinWhy) × (table b ≡ Err r) × (f ≡ halt o r (o + 1))

-- an integer stops behind the longest list that begins a longer spelling: at the end, or at a byte that goes on in none
abbrev pub StopsInteger : {A : Type 0} → (List ℕ → A → Type 0) → ℕ → List ℕ → Halt → Type 0
StopsInteger Spelled o x f =
    (a y : List ℕ) × (x ≡ a ++ y) × IsUnfinished Spelled a
    × (((y ≡ []) × (f ≡ halt (o + length a) End (o + length a)))
    ⊎ ((b : ℕ) × (z : List ℕ) × (y ≡ b ∷ z) × (Begins Spelled (a ++ b ∷ []) → ⊥)
    × (f ≡ halt (o + length a) Integer (o + length a + 1))))

-- a byte is wanted, as a phrase of its own or as the first of a signed integer
abbrev pub StopsEither : {A : Type 0} → (ℕ → Bool) → (ℕ → Result A BinWhy) → ℕ → ℕ → List ℕ → Halt → Type 0
StopsEither test table N o [] f = f ≡ halt o End o
StopsEither test table N o (b ∷ x) f =
    ((test b ≡ true) × (r : BinWhy) × (table b ≡ Err r) × (f ≡ halt o r (o + 1))) ⊎
    ((test b ≡ false) × StopsInteger (S N) o (b ∷ x) f)

-- does a block type follow the opcode
abbrev pub opens : {O : Type 0} → Begun O → Bool
opens (plain_op u) = false
opens (region_op r) = true
opens if_op = true
opens else_op = false
opens end_op = false

module _ {O : Type 0} (table : ℕ → Result (Begun O) BinWhy) (StopsPlain : O → ℕ → List ℕ → Halt → Type 0)
    (StopsHead : ℕ → List ℕ → Halt → Type 0) where
  -- an opcode is wanted: none may stand there, or what follows it stops
  abbrev pub StopsNext : Bool → Bool → ℕ → List ℕ → Halt → Type 0
  StopsNext room first o [] f = f ≡ halt o End o
  StopsNext room first o (x ∷ c) f =
      ((r : BinWhy) × (standing room first (table x) ≡ Err r) × (f ≡ halt o r (o + 1)))
      ⊎ (((u : O) × (standing room first (table x) ≡ Ok (plain_op u)) × StopsPlain u (o + 1) c f)
      ⊎ ((k : Begun O) × (standing room first (table x) ≡ Ok k) × (opens k ≡ true) × StopsHead (o + 1) c f))

-- reading the phrase from place o, where the bytes x are left, stops so
abbrev pub Stops : {A : Type 0} → Phrase A → ℕ → List ℕ → Halt → Type 0
Stops (gives w) o x f = ⊥
Stops (byte table) o x f = StopsByte table o x f
Stops (unsigned N) o x f = StopsInteger (U N) o x f
Stops (signed N) o x f = StopsInteger (S N) o x f
Stops (◌>>=◌ {A} {B} p k) o x f =
    Stops p o x f ⊎ ((a y : List ℕ) × (u : A) × (x ≡ a ++ y) × Spells p a u × Stops (k u) (o + length a) y f)
Stops (judged {A} p judge) o x f =
    Stops p o x f
    ⊎ ((a y : List ℕ) × (u : A) × (j : ℕ × BinWhy) × (x ≡ a ++ y) × Spells p a u × (judge u ≡ Some j)
    × (f ≡ halt (o + j.0) j.1 (o + length a)))
Stops (measured p) o x f = Stops p o x f
Stops (byte_or_signed test table N make) o x f = StopsEither test table N o x f
Stops (neat p Q) o x f = Stops p o x f
Stops (expression {O} {P} {H} table p h) o x f =
    (d : Draft P H) × (a y : List ℕ) × (x ≡ a ++ y)
    × SpellsDraft (letters free.Neat table (λ u c v. Spells (p u) c v) (λ c t. Spells h c t)) a d
    × (reach d.around (nesting d.last) ≤ nesting_limit)
    × StopsNext table (λ u q c e. Stops (p u) q c e) (λ q c e. Stops h q c e) (nat_lt (length d.around) nesting_limit)
    (in_first_part d.around) (o + length a) y f
