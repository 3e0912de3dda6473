-- What printed instructions say (Core 1.0, 6.5): without identifiers, and with a type use only where a type is written
-- by its index.
use Rattle.std.specs.Prelude.{ℕ, suc, ◌+◌, ◌==◌, if◌then◌else◌, List, [], ◌∷◌, ◌++◌, map, length, Option, Some, None}
use Rattle.wc_ops.specs.declared.op.MemOp.{MemOp}
use Rattle.wc_ops.specs.Standard.Opcodes.{memory}
use Rattle.wc_body.specs.declared.instr.BlockType.{BlockType}
use Rattle.wc_body.specs.declared.instr.BlockType.TheVariants as block_types
use Rattle.wc_body.specs.declared.instr.Instr.{Instr}
use Rattle.wc_body.specs.declared.instr.Instr.TheVariants as instrs
use Rattle.wc_body.specs.Standard.Nested.{Code, empty, op, region, choice, Mark, plain, begin, begin_if, otherwise}
use Rattle.wc_body.specs.Standard.Nested.{close}
use Rattle.wc_surface.specs.declared.id.Index.TheVariants as index
use Rattle.wc_surface.specs.declared.instr.Operand.{Operand}
use Rattle.wc_surface.specs.declared.instr.Operand.TheVariants as operand
use Rattle.wc_surface.specs.declared.instr.TextInstr.{TextInstr}
use Rattle.wc_surface.specs.declared.instr.TextInstr.TheVariants as text
use Rattle.wc_surface.specs.declared.head.Head.{Head}
use Rattle.wc_surface.specs.declared.head.HeadType.{HeadType}
use Rattle.wc_surface.specs.declared.head.HeadType.TheVariants.{Short, Use}
use Rattle.wc_surface.specs.declared.head.TextBody.{TextBody}
use Rattle.wc_surface.specs.declared.type_use.User.{User}
use Rattle.wc_surface.specs.declared.type_use.User.TheVariants as user
use Rattle.wc_surface.specs.declared.type_use.TypeUse.{TypeUse}
use Rattle.wc_surface.specs.Standard.Keys.{func_type}
use Rattle.wc_readback.specs.Grammar.Signs.{exponent_of}
use Rattle.wc_readback.specs.Grammar.InstructionSigns.{mark_signs}
use Rattle.wc_parse_code.specs.Drafting.Words.{place_behind}
use Rattle.wc_parse_code.specs.Drafting.Heads.{head_of}
use Rattle.wc_parse_code.specs.Drafting.Saying.{table_of}

-- a place among instructions: the number of the token there, and the lists of the body so far
pub record Spot : Type 0 where
  pub token : ℕ
  pub heads : List Head
  pub uses : List TypeUse
  pub labels : List Operand

-- where a body begins
abbrev pub start : ℕ → Spot
start token = record { token = token; heads = []; uses = []; labels = [] }

-- ---- type uses, labels and heads

-- `(type n)` behind the word of this number: the index is three tokens on
abbrev pub use_at : User → ℕ → ℕ → TypeUse
use_at u token n = record {
  user = u;
  token = token;
  index = Some (index.Number (suc (suc (suc token))) n);
  signature = func_type [] [];
  names = [];
}

-- what an instruction adds to the type uses
abbrev pub instr_uses : ℕ → Instr → List TypeUse
instr_uses token (instrs.CallIndirect n) = use_at user.CallIndirect token n ∷ []
instr_uses token _ = []

-- and to the labels
abbrev pub instr_labels : Instr → List Operand
instr_labels (instrs.BrTable default labels) = map operand.Number labels ++ operand.Number default ∷ []
instr_labels _ = []

-- what a block type adds to the type uses
abbrev pub block_uses : ℕ → BlockType → List TypeUse
block_uses token (block_types.Index n) = use_at user.Block token n ∷ []
block_uses token _ = []

-- a block type as it is written, behind these type uses
abbrev pub head_type : List TypeUse → BlockType → HeadType
head_type uses block_types.Empty = Short None
head_type uses (block_types.Value t) = Short (Some t)
head_type uses (block_types.Index n) = Use (place_behind uses)

-- ---- from place to place

-- behind these tokens
abbrev pub further : Mark Instr BlockType → Spot → Spot
further m s = record s { token = length (mark_signs m) + s.token }

-- behind an instruction in which none is nested
abbrev pub behind_instr : Spot → Instr → Spot
behind_instr s i =
    further (plain i) (record s { uses = s.uses ++ instr_uses s.token i; labels = s.labels ++ instr_labels i })

-- behind a head
abbrev pub behind_head : Spot → Mark Instr BlockType → BlockType → Spot
behind_head s m t = further m (record s {
  heads = s.heads ++ head_of s.token None (head_type s.uses t) ∷ [];
  uses = s.uses ++ block_uses s.token t;
})

-- behind a mark
abbrev pub behind : Spot → Mark Instr BlockType → Spot
behind s (plain i) = behind_instr s i
behind s (begin r t) = behind_head s (begin r t) t
behind s (begin_if t) = behind_head s (begin_if t) t
behind s otherwise = further otherwise s
behind s close = further close s

-- behind `else`, which stands before an else part with an instruction
abbrev pub behind_else : Code Instr BlockType → Spot → Spot
behind_else empty s = s
behind_else (op i next) s = behind s otherwise
behind_else (region r t inside next) s = behind s otherwise
behind_else (choice t one two next) s = behind s otherwise

-- behind instructions
abbrev pub behind_code : Spot → Code Instr BlockType → Spot
behind_code s empty = s
behind_code s (op i next) = behind_code (behind s (plain i)) next
behind_code s (region r t inside next) =
    behind_code (behind (behind_code (behind s (begin r t)) inside) close) next
behind_code s (choice t one two next) =
    behind_code (behind (behind_code (behind_else two (behind_code (behind s (begin_if t)) one)) two) close) next

-- ---- the instructions

-- an offset that is written
abbrev pub unless_zero : ℕ → Option ℕ
unless_zero n = if n == 0 then None else Some n

-- the exponent of an alignment that is written
abbrev pub unless_natural : MemOp → ℕ → Option ℕ
unless_natural o a = if a == (memory o).alignment then None else Some (exponent_of a)

-- an instruction
abbrev pub text_instr : Spot → Instr → TextInstr
text_instr s (instrs.Simple o) = text.Simple o
text_instr s (instrs.Index o n) = text.Index o (operand.Number n)
text_instr s (instrs.Mem o arg) = text.Access o (unless_natural o arg.align) (unless_zero arg.offset)
text_instr s (instrs.BrTable default labels) =
    table_of (length s.labels) (length (s.labels ++ instr_labels (instrs.BrTable default labels)))
text_instr s (instrs.CallIndirect n) = text.CallIndirect (place_behind s.uses)
text_instr s (instrs.I32Const z) = text.I32Const z
text_instr s (instrs.I64Const z) = text.I64Const z

-- instructions in order; what stands at a head is its place
abbrev pub text_code : Spot → Code Instr BlockType → Code TextInstr ℕ
text_code s empty = empty
text_code s (op i next) = op (text_instr s i) (text_code (behind s (plain i)) next)
text_code s (region r t inside next) =
    let within = behind s (begin r t) in
    region r (place_behind s.heads) (text_code within inside)
    (text_code (behind (behind_code within inside) close) next)
text_code s (choice t one two next) =
    let within = behind s (begin_if t) in
    let turned = behind_else two (behind_code within one) in
    choice (place_behind s.heads) (text_code within one) (text_code turned two)
    (text_code (behind (behind_code turned two) close) next)

-- the body that instructions from this token on say
abbrev pub text_body : ℕ → Code Instr BlockType → TextBody
text_body token code = record {
  code = text_code (start token) code;
  heads = (behind_code (start token) code).heads;
  uses = (behind_code (start token) code).uses;
  ids = [];
  labels = (behind_code (start token) code).labels;
}
