-- Light entries: the table of them, and what is noted of one.
use Rattle.std.proofs.Common.{◌≡◌, ℕ, zero, suc, ◌+◌, ◌-◌, ◌*◌, ◌<◌, ◌≤◌, Bool, true, false, ◌||◌, nat_lt, max, min}
use Rattle.std.proofs.Common.{List, [], ◌∷◌, ◌⊎◌, inl, inr, ◌++◌, length, get_or, drop, bit_and, refl, sym, ap, ◌∙◌}
use Rattle.std.proofs.Common.{arith, add-zero, zero-add}
use Rattle.std.proofs.Math.Bool.{or-false, or-true}
use Rattle.std.proofs.lemmas.Bool.Decides.{nat_tests}
use Rattle.std.proofs.lemmas.Nat.{and_mask}
use Rattle.wc_leb128.proofs.Writing.UnsignedShortest.{unsigned_bytes-low}
use Rattle.wc_ops.specs.declared.op.Op.{Op}
use Rattle.wc_ops.specs.declared.op.Op.TheVariants as ops
use Rattle.wc_ops.specs.declared.op.OpByte.{OpByte}
use Rattle.wc_ops.specs.declared.op.OpByte.TheVariants.{Known, Float, Unknown}
use Rattle.wc_ops.specs.declared.op.SimpleOp.{SimpleOp}
use Rattle.wc_ops.specs.declared.op.SimpleOp.TheVariants.{Nop, MemorySize, MemoryGrow}
use Rattle.wc_ops.specs.declared.op.IndexOp.{IndexOp}
use Rattle.wc_ops.specs.declared.op.IndexOp.TheVariants.{Br, BrIf, Call, LocalGet, LocalSet, LocalTee, GlobalGet}
use Rattle.wc_ops.specs.declared.op.IndexOp.TheVariants.{GlobalSet}
use Rattle.wc_ops.specs.declared.op.MemOp.{MemOp}
use Rattle.wc_ops.specs.declared.op.MemOp.TheVariants.{I32Load}
use Rattle.wc_ops.specs.Standard.ByteMeaning.{IsOpByte}
use Rattle.wc_ops.specs.Standard.Opcodes.{row, memory}
use Rattle.wc_ops.specs.Reading.OpcodeMeaning.{meaning}
use Rattle.wc_ops.proofs.Meanings.OfBytes.{meaning-is}
use Rattle.wc_body.specs.declared.instr.Instr.TheVariants.{Simple, Index, Mem, I32Const, I64Const}
use Rattle.wc_body.specs.declared.runs.light.Light.{Light}
use Rattle.wc_body.specs.declared.runs.light.LightNeeds.{LightNeeds}
use Rattle.wc_body.specs.declared.runs.light.TheConstants.{ROWS, BARE, CONSTANT, LOCAL, LABEL}
use Rattle.wc_body.specs.declared.needs.Needs.{Needs}
use Rattle.wc_body.specs.Standard.InstructionBytes.{instr_bytes}
use Rattle.wc_body.specs.Standard.Needed.{enough, with_index}
use Rattle.wc_body.specs.Drafting.AtFront.{NotesInstr}
use Rattle.wc_body.specs.Drafting.LightRows.{light_at, meant_light, op_light, with_light, with_noted}
use Rattle.wc_body.proofs.Drafts.Runs.IntegerFronts.{spelled-one, unsigned-two}

-- ---- the table

-- so many rows, from this byte on
rows_from : ℕ → ℕ → List Light
rows_from b zero = []
rows_from b (suc n) = light_at b ∷ rows_from (suc b) n

table-is : rows_from 0 256 ≡ ROWS
unfolding meaning light_at rows_from
table-is = refl

row-from : (b n i : ℕ) (d : Light) → i < n → get_or (rows_from b n) i d ≡ light_at (b + i)
unfolding rows_from
row-from b zero i d lt = absurd (omega arith)
row-from b (suc n) zero d lt = rw add-zero refl
row-from b (suc n) (suc i) d lt =
    let same : suc b + i ≡ b + suc i = omega arith in
    row-from (suc b) n i d (omega (arith, lt)) ∙ ap light_at same

pub row-is : (b : ℕ) (d : Light) → b < 256 → get_or ROWS b d ≡ light_at b
row-is b d lt = rw table-is at (row-from 0 256 b d lt) ∙ ap light_at (zero-add b)

-- ---- what is noted

-- nothing that isn't needed is noted
nothing-noted : (b : ℕ) (s : Needs) (r : Light) → r.locals ≡ 0 → r.memory ≡ false → with_light s r b ≡ s
nothing-noted b s r locals memory =
    let same : max s.locals (min (b + 1) 0) ≡ s.locals = omega arith in
    rw (locals, memory, same, or-false s.memory) refl

-- no access is of more than 64 bits
pub width : (op : MemOp) → (memory op).alignment ≤ 3
width I32Load = omega arith
width _ = omega arith

module _ (k b c : ℕ) (y : List ℕ) (s : Needs) where
  -- the entry of this instruction was noted
  abbrev IsNoted : Op → Type 0
  IsNoted op =
      let x : List ℕ = (row op).byte ∷ b ∷ c ∷ y in
      NotesInstr k x (drop (op_light op).length x) s (with_light s (op_light op) b)

  -- these bytes may stand behind the opcode in a light entry
  abbrev IsLight : Op → Type 0
  IsLight op =
      (b < (op_light op).second) × ((op_light op).length ≡ 3 → c < (op_light op).third)
      × ((op_light op).length ≡ 2 → bit_and b (op_light op).label ≤ k) × ((op_light op).length ≡ 0 → ⊥)

  pub none-noted : (r : Light) → r.locals ≡ 0 → r.memory ≡ false → with_light s r b ≡ s
  none-noted r locals memory = nothing-noted b s r locals memory

  simple-noted : (op : SimpleOp) → IsLight (ops.Simple op) → IsNoted (ops.Simple op)
  simple-noted MemorySize h = absurd (omega (arith, h.0))
  simple-noted MemoryGrow h = absurd (omega (arith, h.0))
  simple-noted Nop h = (Simple Nop, refl, tt, none-noted BARE refl refl)
  simple-noted op h = (Simple op, refl, tt, none-noted BARE refl refl)

  -- a label of an enclosing block
  pub label-noted : b < 128 → bit_and b 255 ≤ k
      → with_light s LABEL b ≡ record s { outer_label = s.outer_label || nat_lt k b }
  label-noted lt le =
      let within : nat_lt k b ≡ false = grind (arith, nat_tests, lt, le, and_mask b 8) in
      none-noted LABEL refl refl ∙ sym (rw (within, or-false s.outer_label) refl)

  -- a local
  pub local-noted : b < 128 → with_light s LOCAL b ≡ record s { locals = enough s.locals b }
  local-noted lt =
      let same : max s.locals (min (b + 1) 128) ≡ enough s.locals b = omega (arith, lt) in
      rw (same, or-false s.memory) refl

  index-bytes : (op : IndexOp) → b < 128 → (row (ops.Index op)).byte ∷ b ∷ c ∷ y ≡ instr_bytes (Index op b) ++ (c ∷ y)
  index-bytes op lt = rw (unsigned_bytes-low b lt) refl

  index-noted : (op : IndexOp) → IsLight (ops.Index op) → IsNoted (ops.Index op)
  index-noted Br h = (Index Br b, index-bytes Br h.0, omega (arith, h.0), label-noted h.0 (h.2 refl))
  index-noted BrIf h = (Index BrIf b, index-bytes BrIf h.0, omega (arith, h.0), label-noted h.0 (h.2 refl))
  index-noted LocalGet h = (Index LocalGet b, index-bytes LocalGet h.0, omega (arith, h.0), local-noted h.0)
  index-noted LocalSet h = (Index LocalSet b, index-bytes LocalSet h.0, omega (arith, h.0), local-noted h.0)
  index-noted LocalTee h = (Index LocalTee b, index-bytes LocalTee h.0, omega (arith, h.0), local-noted h.0)
  index-noted Call h = absurd (h.3 refl)
  index-noted GlobalGet h = absurd (h.3 refl)
  index-noted GlobalSet h = absurd (h.3 refl)

  access-noted : (op : MemOp) → IsLight (ops.Mem op) → IsNoted (ops.Mem op)
  access-noted op h =
      let low : b < 128 = omega (arith, h.0, width op) in
      let same : max s.locals (min (b + 1) 0) ≡ s.locals = omega arith in
      let yes : (s.memory || true) ≡ true = or-true s.memory in
      let within : nat_lt (memory op).alignment b ≡ false = grind (arith, nat_tests, h.0) in (
        Mem op record { align = b; offset = c },
        rw (unsigned_bytes-low b low, unsigned_bytes-low c (h.1 refl)) refl,
        (omega (arith, low), omega (arith, h.1 refl)),
        rw (same, yes, within, or-false s.over_aligned) refl,
      )

  op-noted : (op : Op) → IsLight op → IsNoted op
  op-noted (ops.Simple op) h = simple-noted op h
  op-noted (ops.Index op) h = index-noted op h
  op-noted (ops.Mem op) h = access-noted op h
  op-noted ops.I32Const h =
      let z = spelled-one b h.0 in
      (I32Const z.0, ap (λ (w : List ℕ). 0x41 ∷ w ++ c ∷ y) z.1, z.2, none-noted CONSTANT refl refl)
  op-noted ops.I64Const h =
      let z = spelled-one b h.0 in
      (I64Const z.0, ap (λ (w : List ℕ). 0x42 ∷ w ++ c ∷ y) z.1, z.3, none-noted CONSTANT refl refl)
  op-noted ops.BrTable h = absurd (omega (arith, h.0))
  op-noted ops.CallIndirect h = absurd (omega (arith, h.0))
  op-noted ops.Block h = absurd (omega (arith, h.0))
  op-noted ops.Loop h = absurd (omega (arith, h.0))
  op-noted ops.If h = absurd (omega (arith, h.0))

  -- by the meaning of the opcode
  meant-noted : (a : ℕ) (m : OpByte) → IsOpByte a m → (r : Light) → r ≡ meant_light m
      → b < r.second → (r.length ≡ 3 → c < r.third) → (r.length ≡ 2 → bit_and b r.label ≤ k) → (r.length ≡ 0 → ⊥)
      → NotesInstr k (a ∷ b ∷ c ∷ y) (drop r.length (a ∷ b ∷ c ∷ y)) s (with_light s r b)
  meant-noted a (Known op) is r e second third within some =
      let byte = (is.known op).0 refl in
      rw (e, ← byte) (op-noted op (rw e at second, rw e at third, rw e at within, rw e at some))
  meant-noted a Float is r e second third within some = absurd (omega (arith, rw e at second))
  meant-noted a Unknown is r e second third within some = absurd (omega (arith, rw e at second))

-- ---- locals whose index has two bytes

abbrev HasLocals : Light → Type 0
HasLocals r = r.locals ≡ 0 → ⊥

op-second : (op : Op) → HasLocals (op_light op) → (op_light op).second ≡ 128
op-second (ops.Simple MemorySize) h = absurd (h refl)
op-second (ops.Simple MemoryGrow) h = absurd (h refl)
op-second (ops.Simple Nop) h = absurd (h refl)
op-second (ops.Simple op) h = absurd (h refl)
op-second (ops.Index LocalGet) h = refl
op-second (ops.Index LocalSet) h = refl
op-second (ops.Index LocalTee) h = refl
op-second (ops.Index Br) h = absurd (h refl)
op-second (ops.Index BrIf) h = absurd (h refl)
op-second (ops.Index Call) h = absurd (h refl)
op-second (ops.Index GlobalGet) h = absurd (h refl)
op-second (ops.Index GlobalSet) h = absurd (h refl)
op-second (ops.Mem op) h = absurd (h refl)
op-second ops.I32Const h = absurd (h refl)
op-second ops.I64Const h = absurd (h refl)
op-second ops.BrTable h = absurd (h refl)
op-second ops.CallIndirect h = absurd (h refl)
op-second ops.Block h = absurd (h refl)
op-second ops.Loop h = absurd (h refl)
op-second ops.If h = absurd (h refl)

meant-second : (m : OpByte) → HasLocals (meant_light m) → (meant_light m).second ≡ 128
meant-second (Known op) h = op-second op h
meant-second Float h = absurd (h refl)
meant-second Unknown h = absurd (h refl)

pub light-second : (a : ℕ) → ((light_at a).locals ≡ 0 → ⊥) → (light_at a).second ≡ 128
unfolding light_at
light-second a h = meant-second (meaning a) h

module _ (k b c n : ℕ) (y : List ℕ) (s : Needs) (le : 128 ≤ b) (lt : b < 256) (some : c ≡ 0 → ⊥) (low : c < 128)
    (is : n ≡ b - 128 + 128 * c)
  where
    long-index : (op : IndexOp) → record s { locals = max s.locals (n + 1) } ≡ with_index s k op n
        → NotesInstr k ((row (ops.Index op)).byte ∷ b ∷ c ∷ y) y s (record s { locals = max s.locals (n + 1) })
    long-index op noted =
        let two = unsigned-two (b ∷ c ∷ y) (c ∷ y) y b c n refl refl is le lt some low in
        (Index op n, ap (λ (x : List ℕ). (row (ops.Index op)).byte ∷ x) two.0, two.1, noted)

    long-enough : record s { locals = max s.locals (n + 1) } ≡ record s { locals = enough s.locals n }
    long-enough =
        let same : max s.locals (n + 1) ≡ enough s.locals n = omega (arith, is, lt, low) in
        rw same refl

    long-op : (op : Op) → HasLocals (op_light op)
        → NotesInstr k ((row op).byte ∷ b ∷ c ∷ y) y s (record s { locals = max s.locals (n + 1) })
    long-op (ops.Index LocalGet) h = long-index LocalGet long-enough
    long-op (ops.Index LocalSet) h = long-index LocalSet long-enough
    long-op (ops.Index LocalTee) h = long-index LocalTee long-enough
    long-op (ops.Index Br) h = absurd (h refl)
    long-op (ops.Index BrIf) h = absurd (h refl)
    long-op (ops.Index Call) h = absurd (h refl)
    long-op (ops.Index GlobalGet) h = absurd (h refl)
    long-op (ops.Index GlobalSet) h = absurd (h refl)
    long-op (ops.Simple MemorySize) h = absurd (h refl)
    long-op (ops.Simple MemoryGrow) h = absurd (h refl)
    long-op (ops.Simple Nop) h = absurd (h refl)
    long-op (ops.Simple op) h = absurd (h refl)
    long-op (ops.Mem op) h = absurd (h refl)
    long-op ops.I32Const h = absurd (h refl)
    long-op ops.I64Const h = absurd (h refl)
    long-op ops.BrTable h = absurd (h refl)
    long-op ops.CallIndirect h = absurd (h refl)
    long-op ops.Block h = absurd (h refl)
    long-op ops.Loop h = absurd (h refl)
    long-op ops.If h = absurd (h refl)

    long-meant : (a : ℕ) (m : OpByte) → IsOpByte a m → HasLocals (meant_light m)
        → NotesInstr k (a ∷ b ∷ c ∷ y) y s (record s { locals = max s.locals (n + 1) })
    long-meant a (Known op) is h = let byte = (is.known op).0 refl in rw (← byte) (long-op op h)
    long-meant a Float is h = absurd (h refl)
    long-meant a Unknown is h = absurd (h refl)

pub long-noted : (x : List ℕ) (k n : ℕ) (s : Needs) → 3 ≤ length x → ((light_at (get_or x 0 0)).locals ≡ 0 → ⊥)
    → 128 ≤ get_or x 1 0 → get_or x 1 0 < 256 → (get_or x 2 0 ≡ 0 → ⊥) → get_or x 2 0 < 128
    → n ≡ get_or x 1 0 - 128 + 128 * get_or x 2 0
    → NotesInstr k x (drop 3 x) s (record s { locals = max s.locals (n + 1) })
unfolding light_at
long-noted [] k n s le h high byte some low is = absurd (omega arith)
long-noted (a ∷ []) k n s le h high byte some low is = absurd (omega arith)
long-noted (a ∷ b ∷ []) k n s le h high byte some low is = absurd (omega arith)
long-noted (a ∷ b ∷ c ∷ y) k n s le h high byte some low is =
    long-meant k b c n y s high byte some low is a (meaning a) (meaning-is a) h

-- not both
apart : (m : Bool) → m ≡ true → m ≡ false → ⊥
apart m t f = absurd cc

-- none is light, or the opcode tells what one needs, or all have one byte and need nothing, or two and no memory, or
-- three and a memory alone
abbrev pub IsKind : Light → Type 0
IsKind r =
    (r.second ≡ 0) ⊎ (((r.length ≡ 0) × (r.memory ≡ false)) ⊎ (((r.length ≡ 1) × (r.locals ≡ 0) × (r.memory ≡ false))
    ⊎ (((r.length ≡ 2) × (r.memory ≡ false)) ⊎ ((r.length ≡ 3) × (r.locals ≡ 0) × (r.memory ≡ true)))))

simple-kind : (op : SimpleOp) → IsKind (op_light (ops.Simple op))
simple-kind MemorySize = inl refl
simple-kind MemoryGrow = inl refl
simple-kind Nop = inr (inr (inl (refl, refl, refl)))
simple-kind _ = inr (inr (inl (refl, refl, refl)))

index-kind : (op : IndexOp) → IsKind (op_light (ops.Index op))
index-kind Call = inr (inl (refl, refl))
index-kind GlobalGet = inr (inl (refl, refl))
index-kind GlobalSet = inr (inl (refl, refl))
index-kind Br = inr (inr (inr (inl (refl, refl))))
index-kind _ = inr (inr (inr (inl (refl, refl))))

meant-kind : (m : OpByte) → IsKind (meant_light m)
meant-kind (Known (ops.Simple op)) = simple-kind op
meant-kind (Known (ops.Index op)) = index-kind op
meant-kind (Known (ops.Mem op)) = inr (inr (inr (inr (refl, refl, refl))))
meant-kind (Known ops.I32Const) = inr (inr (inr (inl (refl, refl))))
meant-kind (Known ops.I64Const) = inr (inr (inr (inl (refl, refl))))
meant-kind _ = inl refl

pub light-kind : (b : ℕ) → IsKind (light_at b)
unfolding light_at
light-kind b = meant-kind (meaning b)

-- what is noted of one, by how many bytes it has
pub bare-needs : (r : Light) (b : ℕ) (s : Needs) → IsKind r → b < r.second → r.length ≡ 1 → s ≡ with_light s r b
bare-needs r b s (inl none) lt one = absurd (omega (arith, none, lt))
bare-needs r b s (inr (inl outer)) lt one = absurd (omega (arith, outer.0, one))
bare-needs r b s (inr (inr (inl h))) lt one = sym (nothing-noted b s r h.1 h.2)
bare-needs r b s (inr (inr (inr (inl two)))) lt one = absurd (omega (arith, two.0, one))
bare-needs r b s (inr (inr (inr (inr three)))) lt one = absurd (omega (arith, three.0, one))

pub access-needs : (r : Light) (b : ℕ) (s : Needs) → IsKind r → b < r.second → r.memory ≡ true
    → (r.length ≡ 3) × (record s { memory = true } ≡ with_light s r b)
access-needs r b s (inl none) lt t = absurd (omega (arith, none, lt))
access-needs r b s (inr (inl outer)) lt t = absurd (apart r.memory t outer.1)
access-needs r b s (inr (inr (inl one))) lt t = absurd (apart r.memory t one.2)
access-needs r b s (inr (inr (inr (inl two)))) lt t = absurd (apart r.memory t two.1)
access-needs r b s (inr (inr (inr (inr h)))) lt t =
    let same : max s.locals (min (b + 1) 0) ≡ s.locals = omega arith in
    (h.0, rw (h.1, h.2, same, or-true s.memory) refl)

pub pair-needs : (r : Light) (b : ℕ) (m n : LightNeeds) (s : Needs) → IsKind r → b < r.second → r.length ≡ 2
    → n ≡ record m { locals = max m.locals (min (b + 1) r.locals) } → with_noted n s ≡ with_light (with_noted m s) r b
pair-needs r b m n s (inl none) lt two is = absurd (omega (arith, none, lt))
pair-needs r b m n s (inr (inl outer)) lt two is = absurd (omega (arith, outer.0, two))
pair-needs r b m n s (inr (inr (inl one))) lt two is = absurd (omega (arith, one.0, two))
pair-needs r b m n s (inr (inr (inr (inl h)))) lt two is = rw (is, h.1, or-false m.memory) refl
pair-needs r b m n s (inr (inr (inr (inr three)))) lt two is = absurd (omega (arith, three.0, two))

-- it is an index whose opcode tells what is needed
pub outer-length : (r : Light) (b : ℕ) → IsKind r → b < r.second → (r.length ≡ 2 → ⊥) → (r.length ≡ 1 → ⊥)
    → r.memory ≡ false → r.length ≡ 0
outer-length r b (inl none) lt two one f = absurd (omega (arith, none, lt))
outer-length r b (inr (inl outer)) lt two one f = outer.0
outer-length r b (inr (inr (inl h))) lt two one f = absurd (one h.0)
outer-length r b (inr (inr (inr (inl h)))) lt two one f = absurd (two h.0)
outer-length r b (inr (inr (inr (inr h)))) lt two one f = absurd (apart r.memory h.2 f)

-- whatever lies behind it follows
pub light-noted : (x : List ℕ) (k : ℕ) (s t : Needs) (r : Light) → 3 ≤ length x → r ≡ light_at (get_or x 0 0)
    → get_or x 1 0 < r.second → (r.length ≡ 3 → get_or x 2 0 < r.third)
    → (r.length ≡ 2 → bit_and (get_or x 1 0) r.label ≤ k) → (r.length ≡ 0 → ⊥)
    → t ≡ with_light s r (get_or x 1 0) → NotesInstr k x (drop r.length x) s t
unfolding light_at
light-noted [] k s t r le e second third within some is = absurd (omega arith)
light-noted (a ∷ []) k s t r le e second third within some is = absurd (omega arith)
light-noted (a ∷ b ∷ []) k s t r le e second third within some is = absurd (omega arith)
light-noted (a ∷ b ∷ c ∷ y) k s t r le e second third within some is =
    rw is (meant-noted k b c y s a (meaning a) (meaning-is a) r e second third within some)
