-- Expressions: instructions by opcode and what follows it, up to the byte that ends them (Core 1.0, 5.4).
use Rattle.std.specs.Prelude.{◌≡◌, ◌≤◌, ℕ, Bool, true, false, List, [], ◌∷◌, ◌++◌, Result, Ok, Err}
use Rattle.wc_body.specs.Standard.Nested.{Region, Code, nesting, nesting_limit}
use Rattle.wc_body.specs.Standard.Grammar.{Grammar, Spells}
use Rattle.wc_binary.specs.declared.fault.BinWhy.{BinWhy}
use Rattle.wc_binary.specs.declared.fault.BinWhy.TheVariants.{Opcode, Depth}

-- what an opcode begins: an instruction in which none is nested, which O tells, or another mark
pub data Begun (O : Type 0) : Type 0 where
  plain_op : O → Begun O
  region_op : Region → Begun O
  if_op : Begun O
  else_op : Begun O
  end_op : Begun O

-- what opens a block, where one more may be open
abbrev pub if_room : {O : Type 0} → Bool → Begun O → Result (Begun O) BinWhy
if_room true k = Ok k
if_room false k = Err Depth

-- an else, where it is the first one directly in an if
abbrev pub if_first : {O : Type 0} → Bool → Begun O → Result (Begun O) BinWhy
if_first true k = Ok k
if_first false k = Err Opcode

-- an opcode where it stands: a block is told as too deep where no more may be open, and an else that is not the first
-- one directly in an if is none
abbrev pub standing : {O : Type 0} → Bool → Bool → Result (Begun O) BinWhy → Result (Begun O) BinWhy
standing room first (Err r) = Err r
standing room first (Ok (plain_op u)) = Ok (plain_op u)
standing room first (Ok (region_op r)) = if_room room (region_op r)
standing room first (Ok if_op) = if_room room if_op
standing room first (Ok else_op) = if_first first else_op
standing room first (Ok end_op) = Ok end_op

module _ {O P H : Type 0} (Neat : Type 0 → Type 0) (table : ℕ → Result (Begun O) BinWhy)
    (Follows : O → List ℕ → P → Type 0) (Head : List ℕ → H → Type 0) where
  -- an opcode, and what follows it
  abbrev pub letters : Grammar ℕ P H
  letters = record {
    Plain = λ b p. (x : ℕ) × (u : O) × (c : List ℕ) × (b ≡ x ∷ c) × (table x ≡ Ok (plain_op u)) × Follows u c p;
    Begin = λ b r h. (x : ℕ) × (c : List ℕ) × (b ≡ x ∷ c) × (table x ≡ Ok (region_op r)) × Head c h;
    BeginIf = λ b h. (x : ℕ) × (c : List ℕ) × (b ≡ x ∷ c) × (table x ≡ Ok if_op) × Head c h;
    Else = λ b h. (x : ℕ) × (b ≡ x ∷ []) × (table x ≡ Ok else_op);
    End = λ b h. (x : ℕ) × (b ≡ x ∷ []) × (table x ≡ Ok end_op);
    Neat = Neat;
  }

  -- instructions, nested no deeper than the limit, and the end
  abbrev pub IsExpression : List ℕ → Code P H → Type 0
  IsExpression b code =
      (a : List ℕ) × (x : ℕ) × (b ≡ a ++ x ∷ []) × (table x ≡ Ok end_op) × Spells letters a code ×
      (nesting code ≤ nesting_limit)
