-- What instructions need of the function and of the module around them, so that the rules on each of them hold (Core
-- 1.0, 3.3).
use Rattle.std.specs.Prelude.{ℕ, ◌+◌, ◌-◌, ◌^◌, max, min, true, false, ◌||◌, nat_lt, if◌then◌else◌, bit_or}
use Rattle.std.specs.Prelude.{List, [], ◌∷◌}
use Rattle.std.specs.List.{list_any}
use Rattle.wc_body.specs.declared.instr.BlockType.{BlockType}
use Rattle.wc_body.specs.declared.instr.BlockType.TheVariants.{Empty, Value, Index as type_index}
use Rattle.wc_body.specs.declared.instr.Instr.{Instr}
use Rattle.wc_body.specs.declared.instr.Instr.TheVariants.{Simple, Index, Mem, BrTable, CallIndirect, I32Const}
use Rattle.wc_body.specs.declared.instr.Instr.TheVariants.{I64Const}
use Rattle.wc_body.specs.declared.needs.Needs.{Needs}
use Rattle.wc_body.specs.declared.needs.OwnNeeds.{OwnNeeds}
use Rattle.wc_ops.specs.declared.op.SimpleOp.{SimpleOp}
use Rattle.wc_ops.specs.declared.op.SimpleOp.TheVariants.{MemorySize, MemoryGrow}
use Rattle.wc_ops.specs.declared.op.MemOp.{MemOp}
use Rattle.wc_ops.specs.declared.op.IndexOp.{IndexOp}
use Rattle.wc_ops.specs.declared.op.IndexOp.TheVariants.{Br, BrIf, Call, LocalGet, LocalSet, LocalTee, GlobalGet}
use Rattle.wc_ops.specs.declared.op.IndexOp.TheVariants.{GlobalSet}
use Rattle.wc_body.specs.Standard.Nested.{Code, Mark, plain, begin, begin_if, otherwise, close}
use Rattle.wc_ops.specs.Standard.Opcodes.{memory}
use Rattle.wc_body.specs.Standard.Placed.{placed, deeper}

-- nothing
abbrev pub nothing : Needs
nothing = record {
  types = 0;
  funcs = 0;
  globals = 0;
  set_globals = 0;
  lowest_set_global = 2 ^ 32 - 1;
  set_below_64 = 0;
  locals = 0;
  table = false;
  memory = false;
  outer_label = false;
  over_aligned = false;
}

-- so many, and enough for this index; no more are told than a u32 has room for
abbrev pub enough : ℕ → ℕ → ℕ
enough count n = max count (min (n + 1) (2 ^ 32 - 1))

-- the bit of this index where it is below 64, and else none
abbrev pub low_bit : ℕ → ℕ
low_bit n = if nat_lt n 64 then 2 ^ n else 0

-- each of the following: this, and what one more needs

-- it has no immediate (3.3.4.5, 3.3.4.6)
abbrev pub with_simple : Needs → SimpleOp → Needs
with_simple s MemorySize = record s { memory = true }
with_simple s MemoryGrow = record s { memory = true }
with_simple s _ = s

-- its immediate is this index, and so many blocks enclose it (3.3.3, 3.3.5.6, 3.3.5.7, 3.3.5.10)
abbrev pub with_index : Needs → ℕ → IndexOp → ℕ → Needs
with_index s enclosing Br n = record s { outer_label = s.outer_label || nat_lt enclosing n }
with_index s enclosing BrIf n = record s { outer_label = s.outer_label || nat_lt enclosing n }
with_index s enclosing Call n = record s { funcs = enough s.funcs n }
with_index s enclosing LocalGet n = record s { locals = enough s.locals n }
with_index s enclosing LocalSet n = record s { locals = enough s.locals n }
with_index s enclosing LocalTee n = record s { locals = enough s.locals n }
with_index s enclosing GlobalGet n = record s { globals = enough s.globals n }
with_index s enclosing GlobalSet n = record s {
  set_globals = enough s.set_globals n;
  lowest_set_global = min s.lowest_set_global n;
  set_below_64 = bit_or s.set_below_64 (low_bit n);
}

-- it is an access of memory, of this alignment (3.3.4.1 to 3.3.4.4)
abbrev pub with_access : Needs → MemOp → ℕ → Needs
with_access s op align =
    record s { memory = true; over_aligned = s.over_aligned || nat_lt (memory op).alignment align }

-- none is nested in it (3.3.4, 3.3.5)
abbrev pub with_instr : Needs → ℕ → Instr → Needs
with_instr s enclosing (Simple op) = with_simple s op
with_instr s enclosing (Index op n) = with_index s enclosing op n
with_instr s enclosing (Mem op arg) = with_access s op arg.align
with_instr s enclosing (BrTable default labels) =
    record s { outer_label = s.outer_label || (list_any (λ n. nat_lt enclosing n) labels || nat_lt enclosing default) }
with_instr s enclosing (CallIndirect t) = record s { types = enough s.types t; table = true }
with_instr s enclosing (I32Const n) = s
with_instr s enclosing (I64Const n) = s

-- it has this block type (Core 2.0, 3.2.2)
abbrev pub with_block : Needs → BlockType → Needs
with_block s Empty = s
with_block s (Value t) = s
with_block s (type_index t) = record s { types = enough s.types t }

-- it is this instruction, or the head of this block, loop or if
abbrev pub with_mark : Needs → ℕ → Mark Instr BlockType → Needs
with_mark s enclosing (plain i) = with_instr s enclosing i
with_mark s enclosing (begin r t) = with_block s t
with_mark s enclosing (begin_if t) = with_block s t
with_mark s enclosing otherwise = s
with_mark s enclosing close = s

-- each stands with the number of blocks that enclose it
abbrev pub with_all : Needs → List (ℕ × Mark Instr BlockType) → Needs
with_all s [] = s
with_all s (x ∷ xs) = with_all (with_mark s x.0 x.1) xs

-- what these instructions need
abbrev pub needs_of : Code Instr BlockType → Needs
needs_of code = with_all nothing (placed deeper 0 code)

-- what both of these need
abbrev pub joined : Needs → Needs → Needs
joined s t = record {
  types = max s.types t.types;
  funcs = max s.funcs t.funcs;
  globals = max s.globals t.globals;
  set_globals = max s.set_globals t.set_globals;
  lowest_set_global = min s.lowest_set_global t.lowest_set_global;
  set_below_64 = bit_or s.set_below_64 t.set_below_64;
  locals = max s.locals t.locals;
  table = s.table || t.table;
  memory = s.memory || t.memory;
  outer_label = s.outer_label || t.outer_label;
  over_aligned = s.over_aligned || t.over_aligned;
}

-- this, and what each of the bodies needs
abbrev pub with_bodies : Needs → List (Code Instr BlockType) → Needs
with_bodies s [] = s
with_bodies s (code ∷ codes) = with_bodies (joined s (needs_of code)) codes

-- of what a body needs, that which a function's locals must give and what is known of the globals that are set
abbrev pub own_of : Needs → OwnNeeds
own_of s = record { locals = s.locals; set_globals = s.set_globals; lowest_set_global = s.lowest_set_global }
