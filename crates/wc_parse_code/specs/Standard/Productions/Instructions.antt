-- Instructions, with those nested in them, and folded ones (Core 1.0, 6.5.2, 6.5.7 and 6.5.8; Core 2.0, 6.5, for block
-- types).
use Rattle.std.specs.Prelude.{List, [], ◌∷◌, ◌++◌, Option, None}
use Rattle.wc_ops.specs.declared.op.Op.TheVariants as op
use Rattle.wc_body.specs.Standard.Nested.{Region, block, loop, Code, ◌⧺◌}
use Rattle.wc_syntax.specs.declared.role.Role.TheVariants as role
use Rattle.wc_surface.specs.Standard.Identifiers.{Identifier}
use Rattle.wc_surface.specs.Standard.Written.Instructions.{Plain, BlockType, Head, Instrs}
use Rattle.wc_parse_code.specs.Standard.Tokens.{KeptToken}
use Rattle.wc_parse_code.specs.Standard.Productions.Tokens.{Said, ◌⊳◌, NamesInstruction, IsId}
use Rattle.wc_parse_code.specs.Standard.Productions.TypeUses.{IsBlockType}
use Rattle.wc_parse_code.specs.Standard.Productions.Plain.{IsPlain}

-- "block" | "loop"  (6.5.2)
pub data IsRegion : KeptToken → Region → Type 0 where
  block_word : {w : KeptToken} → NamesInstruction w op.Block → IsRegion w block
  loop_word : {w : KeptToken} → NamesInstruction w op.Loop → IsRegion w loop

-- id? blocktype, which stands behind the word of a block, a loop or an if (6.5.2)
pub data IsHead : List Said → Option Identifier → BlockType → Type 0 where
  both : {us vs : List Said} {label : Option Identifier} {ty : BlockType} → IsId role.Label us label
      → IsBlockType vs ty → IsHead (us ++ vs) label ty

-- the head of this word, label and type, with these identifiers behind `else` and `end`
abbrev pub head : KeptToken → Option Identifier → BlockType → Option Identifier → Option Identifier → Head
head w label ty else_id end_id =
    record { token = w.token; label = label; ty = ty; else_id = else_id; end_id = end_id }

-- the nonterminals: instr*, instr, foldedinstr* and foldedinstr
pub data Part : Type 0 where
  instrs : Part
  instr : Part
  foldedinstrs : Part
  foldedinstr : Part

-- `Says part us c`: the kept tokens us are such a part, and say the instructions c
pub data Says : Part → List Said → Instrs → Type 0 where
  -- instr*  (6.5.8)
  none : Says instrs [] Code.empty
  more : {us vs : List Said} {c d : Instrs} → Says instr us c → Says instrs vs d → Says instrs (us ++ vs) (c ⧺ d)
  -- instr = plaininstr | foldedinstr  (6.5 and 6.5.7)
  plain : {us : List Said} {p : Plain} → IsPlain role.Plain us p → Says instr us (Code.op p Code.empty)
  folded : {us : List Said} {c : Instrs} → Says foldedinstr us c → Says instr us c
  --       | ("block" | "loop") id? blocktype instr* "end" id?  (6.5.2)
  region : (z : KeptToken) {w : KeptToken} {us is xs : List Said} {r : Region} {label end_id : Option Identifier}
      {ty : BlockType} {c : Instrs} → IsRegion w r → IsHead us label ty → Says instrs is c
      → IsId role.EndLabel xs end_id
      → Says instr (role.Begin ⊳ w ∷ us ++ is ++ role.End ⊳ z ∷ xs)
      (Code.region r (head w label ty None end_id) c Code.empty)
  --       | "if" id? blocktype instr* "end" id?  (6.5.2)
  if_then : (z : KeptToken) {w : KeptToken} {us is xs : List Said} {label end_id : Option Identifier} {ty : BlockType}
      {c : Instrs} → NamesInstruction w op.If → IsHead us label ty → Says instrs is c → IsId role.EndLabel xs end_id
      → Says instr (role.Begin ⊳ w ∷ us ++ is ++ role.End ⊳ z ∷ xs)
      (Code.choice (head w label ty None end_id) c Code.empty Code.empty)
  --       | "if" id? blocktype instr* "else" id? instr* "end" id?  (6.5.2)
  if_else : (y z : KeptToken) {w : KeptToken} {us is ys js xs : List Said} {label else_id end_id : Option Identifier}
      {ty : BlockType} {c d : Instrs} → NamesInstruction w op.If → IsHead us label ty → Says instrs is c
      → IsId role.EndLabel ys else_id → Says instrs js d → IsId role.EndLabel xs end_id
      → Says instr (role.Begin ⊳ w ∷ us ++ is ++ role.Else ⊳ y ∷ ys ++ js ++ role.End ⊳ z ∷ xs)
      (Code.choice (head w label ty else_id end_id) c d Code.empty)
  -- foldedinstr*  (6.5.7)
  no_folded : Says foldedinstrs [] Code.empty
  more_folded : {us vs : List Said} {c d : Instrs} → Says foldedinstr us c → Says foldedinstrs vs d
      → Says foldedinstrs (us ++ vs) (c ⧺ d)
  -- foldedinstr = "(" plaininstr foldedinstr* ")": the operands, and then the instruction  (6.5.7)
  folded_plain : (z : KeptToken) {us vs : List Said} {p : Plain} {c : Instrs} → IsPlain role.HeldPlain us p
      → Says foldedinstrs vs c
      → Says foldedinstr (us ++ vs ++ role.HeldEnd ⊳ z ∷ []) (c ⧺ Code.op p Code.empty)
  --       | "(" ("block" | "loop") id? blocktype instr* ")"  (6.5.7)
  folded_region : (z : KeptToken) {w : KeptToken} {us is : List Said} {r : Region} {label : Option Identifier}
      {ty : BlockType} {c : Instrs} → IsRegion w r → IsHead us label ty → Says instrs is c
      → Says foldedinstr (role.Begin ⊳ w ∷ us ++ is ++ role.End ⊳ z ∷ [])
      (Code.region r (head w label ty None None) c Code.empty)
  --       | "(" "if" id? blocktype foldedinstr* "(" "then" instr* ")" ")": the condition, which stands outside of the
  --         label, and then the if  (6.5.7)
  folded_then : (t z : KeptToken) {w : KeptToken} {us cs is : List Said} {label : Option Identifier} {ty : BlockType}
      {c d : Instrs} → NamesInstruction w op.If → IsHead us label ty → Says foldedinstrs cs c → Says instrs is d
      → Says foldedinstr (role.HeldBegin ⊳ w ∷ us ++ cs ++ role.Then ⊳ t ∷ is ++ role.End ⊳ z ∷ [])
      (c ⧺ Code.choice (head w label ty None None) d Code.empty Code.empty)
  --       | "(" "if" id? blocktype foldedinstr* "(" "then" instr* ")" "(" "else" instr* ")" ")": the same  (6.5.7)
  folded_else : (t y z : KeptToken) {w : KeptToken} {us cs is js : List Said} {label : Option Identifier}
      {ty : BlockType} {c d e : Instrs} → NamesInstruction w op.If → IsHead us label ty → Says foldedinstrs cs c
      → Says instrs is d → Says instrs js e
      → Says foldedinstr
      (role.HeldBegin ⊳ w ∷ us ++ cs ++ role.Then ⊳ t ∷ is ++ role.Else ⊳ y ∷ js ++ role.End ⊳ z ∷ [])
      (c ⧺ Code.choice (head w label ty None None) d e Code.empty)
