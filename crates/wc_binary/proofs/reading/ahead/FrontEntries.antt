-- Entries that lie ahead, and are added at once, are those that reading one by one gives.
use Rattle.std.proofs.Common.{◌≡◌, ℕ, zero, suc, ◌+◌, ◌<◌, ◌≤◌, true, false, nat_lt, List, [], ◌∷◌, ◌++◌}
use Rattle.std.proofs.Common.{length, take, drop, Ok, inl, inr, refl, sym, ap, ◌∙◌, append_assoc, arith}
use Rattle.std.proofs.lemmas.Bool.{lt-ltb}
use Rattle.std.proofs.lemmas.List.{append-nil, length-append, length-take, take-take, take-append-drop}
use Rattle.std.specs.Prelude.{IsTrue}
use Rattle.wc_ops.specs.declared.op.Op.TheVariants as ops
use Rattle.wc_ops.specs.Standard.Opcodes.{row}
use Rattle.wc_body.specs.declared.entry.Kind.{Kind}
use Rattle.wc_body.specs.declared.entry.Kind.TheVariants.{Block, Loop, If}
use Rattle.wc_body.specs.declared.entry.Entry.{Entry}
use Rattle.wc_body.specs.declared.entry.Entry.TheVariants.{Plain, Begin, Else, End}
use Rattle.wc_body.specs.declared.instr.Instr.{Instr}
use Rattle.wc_body.specs.declared.instr.Instr.TheVariants.{Simple, Index, Mem, BrTable, CallIndirect, I32Const}
use Rattle.wc_body.specs.declared.instr.Instr.TheVariants.{I64Const}
use Rattle.wc_body.specs.declared.instr.BlockType.{BlockType}
use Rattle.wc_body.specs.Standard.Nested.{block, loop, nesting_limit}
use Rattle.wc_body.specs.Standard.Draft.{Draft, step, steps, may_come, begins}
use Rattle.wc_body.specs.Standard.Entries.{mark, marks}
use Rattle.wc_body.specs.Standard.InstructionBytes.{op_of, rest_bytes, block_type_bytes, FitsBlockType}
use Rattle.wc_body.specs.Writing.EntryBytes.{entry_bytes, FitsEntry}
use Rattle.wc_body.specs.Drafting.FrontEntries.{AllStand}
use Rattle.wc_body.specs.Drafting.FreeEntries.{SpellsIntegers, SpellsEntry, SpellEntries, AddsFree}
use Rattle.wc_binary.specs.Reading.Reading.{got, read, is_last}
use Rattle.wc_binary.specs.Reading.NextMark.{mark_behind, AddsAhead}
use Rattle.wc_binary.specs.Reading.Source.{Input, AreAhead, Passes}
use Rattle.wc_binary.specs.Standard.Phrase.{Spells}
use Rattle.wc_binary.specs.Standard.Values.{u32}
use Rattle.wc_binary.specs.Standard.Expression.{region_op, if_op}
use Rattle.wc_binary.specs.Standard.Instructions.{opcode, follows, block_type, s32, s64}
use Rattle.wc_binary.proofs.phrases.Laws.{spells-read}
use Rattle.wc_binary.proofs.phrases.Freed.{freed}
use Rattle.wc_binary.proofs.spelling.code.Expressions.{plain-begins}
use Rattle.wc_binary.proofs.spelling.code.Opcodes.{row-begins}
use Rattle.wc_binary.proofs.spelling.code.Instructions.{follows-writes}
use Rattle.wc_binary.proofs.spelling.code.BlockTypes.{block_type-writes}
use Rattle.wc_binary.proofs.reading.ahead.Fronts.{bytes_to, within-before, bytes-split}
use Rattle.wc_binary.proofs.reading.Going.{GoesOn-refl, GoesOn-trans}
use Rattle.wc_binary.proofs.reading.Entries.{Reading, all_marks, Draws}

-- ---- one entry

abbrev Stands : Draft Instr BlockType → Entry → Type 0
Stands d e = (begins (mark e) ≡ true → length d.around < nesting_limit) × (may_come d (mark e) ≡ true)

-- these bytes are read as its mark, behind which the expression goes on
abbrev IsRead : Draft Instr BlockType → Entry → List ℕ → ℕ → List ℕ → Type 0
IsRead d e w o z =
    (b : ℕ) × (x : List ℕ) × (w ≡ b ∷ x)
    × (mark_behind d (opcode b) o (x ++ z) ≡ got (mark e) (o + length w) z)
    × (is_last d (mark e) ≡ false)

-- the place behind them
behind : (o : ℕ) (x : List ℕ) → o + 1 + length x ≡ o + suc (length x)
behind o x = omega arith

-- the opcode of an instruction, and bytes that spell what follows it
spelled-read : (d : Draft Instr BlockType) (i : Instr) (x : List ℕ) (o : ℕ) (z : List ℕ)
    → Spells (follows (op_of i)) x i
    → IsRead d (Plain i) ((row (op_of i)).byte ∷ x) o z
spelled-read d i x o z spelled =
    let u = op_of i in
    let one = spells-read (follows u) (o + 1) x z i spelled in
    ((row u).byte, x, refl, rw (plain-begins i, one, behind o x) refl, refl)

instr-read : (d : Draft Instr BlockType) (i : Instr) (o : ℕ) (z : List ℕ) → FitsEntry (Plain i)
    → IsRead d (Plain i) (entry_bytes (Plain i)) o z
instr-read d i o z f =
    let u = op_of i in
    spelled-read d i (rest_bytes i) o z (freed (follows u) (rest_bytes i) i ((follows-writes u).written i (f, refl)))

-- integers in any spelling
integers-spelled : (i : Instr) (x : List ℕ) → SpellsIntegers i x → Spells (follows (op_of i)) x i
unfolding follows u32 s32 s64
integers-spelled (Index op n) x s = (x, [], n, sym (append-nil x), s, (refl, refl))
integers-spelled (I32Const n) x s = (x, [], n, sym (append-nil x), s, (refl, refl))
integers-spelled (I64Const n) x s = (x, [], n, sym (append-nil x), s, (refl, refl))
integers-spelled (Simple op) x s = absurd s
integers-spelled (Mem op arg) x (y, z, is, align, offset) =
    (y, z, arg.align, is, align, (z, [], arg.offset, sym (append-nil z), offset, (refl, refl)))
integers-spelled (BrTable default labels) x s = absurd s
integers-spelled (CallIndirect ty) x s = absurd s

-- what begins a block, a loop or an if, where one more may be open
module _ (d : Draft Instr BlockType) (t : BlockType) (o : ℕ) (z : List ℕ) (f : FitsBlockType t)
    (room : length d.around < nesting_limit)
  where
    open_ : nat_lt (length d.around) nesting_limit ≡ true
    open_ = lt-ltb (length d.around) nesting_limit room

    type-read : read block_type (o + 1) (block_type_bytes t ++ z) ≡ got t (o + 1 + length (block_type_bytes t)) z
    type-read = spells-read block_type (o + 1) (block_type_bytes t) z t
        (freed block_type (block_type_bytes t) t (block_type-writes.written t f))

    begin-read : (kind : Kind) → IsRead d (Begin kind t) (entry_bytes (Begin kind t)) o z
    begin-read Block =
        let begins : opcode 0x02 ≡ Ok (region_op block) = row-begins ops.Block in
        (0x02, block_type_bytes t, refl, rw (begins, open_, type-read, behind o (block_type_bytes t)) refl, refl)
    begin-read Loop =
        let begins : opcode 0x03 ≡ Ok (region_op loop) = row-begins ops.Loop in
        (0x03, block_type_bytes t, refl, rw (begins, open_, type-read, behind o (block_type_bytes t)) refl, refl)
    begin-read If =
        let begins : opcode 0x04 ≡ Ok if_op = row-begins ops.If in
        (0x04, block_type_bytes t, refl, rw (begins, open_, type-read, behind o (block_type_bytes t)) refl, refl)

entry-read : (d : Draft Instr BlockType) (e : Entry) (o : ℕ) (z : List ℕ) → FitsEntry e → Stands d e
    → IsRead d e (entry_bytes e) o z
entry-read d (Plain i) o z f s = instr-read d i o z f
entry-read d (Begin Block t) o z f s = begin-read d t o z f (s.0 refl) Block
entry-read d (Begin Loop t) o z f s = begin-read d t o z f (s.0 refl) Loop
entry-read d (Begin If t) o z f s = begin-read d t o z f (s.0 refl) If
entry-read d Else o z f s = (0x05, [], refl, rw s.1 refl, refl)
entry-read d End o z f s = (0x0B, [], refl, refl, rw s.1 refl)

free-read : (d : Draft Instr BlockType) (e : Entry) (w : List ℕ) (o : ℕ) (z : List ℕ) → SpellsEntry e w → Stands d e
    → IsRead d e w o z
free-read d e w o z (inl (is, f)) s = rw is (entry-read d e o z f s)
free-read d e w o z (inr (i, same, f)) s =
    rw (same, f.1) (spelled-read d i f.0 o z (integers-spelled i f.0 f.2))

-- ---- many entries

-- so many marks at most, one of which is read
step-marks : (n : ℕ) (d : Draft Instr BlockType) (e : Entry) (w : List ℕ) (o : ℕ) (z : List ℕ) → IsRead d e w o z
    → length (w ++ z) ≤ n
    → (m : ℕ) × (length z ≤ m)
    × (all_marks (suc n) d o (w ++ z) ≡ all_marks (suc m) (step d (mark e)) (o + length w) z)
step-marks zero d e w o z r le = absurd (omega (arith, length-append w z, ap length r.2))
step-marks (suc m) d e w o z r le =
    let one : all_marks (suc (suc m)) d o (r.0 ∷ (r.1 ++ z))
    ≡ all_marks (suc m) (step d (mark e)) (o + length w) z = rw (r.3, r.4) refl in (
      m,
      omega (arith, length-append w z, ap length r.2),
      ap (λ (x : List ℕ). all_marks (suc (suc m)) d o (x ++ z)) r.2 ∙ one,
    )

-- so many at most, some of which are those of these entries
run-marks : (es : List Entry) (x : List ℕ) (d : Draft Instr BlockType) (o n : ℕ) (y : List ℕ) → SpellEntries es x
    → AllStand d es → length (x ++ y) ≤ n
    → (m : ℕ) × (length y ≤ m)
    × (all_marks (suc m) (steps d (marks es)) (o + length x) y ≡ all_marks (suc n) d o (x ++ y))
run-marks [] x d o n y f s le =
    let here : o + length x ≡ o = omega (arith, ap length f) in
    let none : x ++ y ≡ y = ap (λ (q : List ℕ). q ++ y) f in (
      n,
      rw none at le,
      ap (λ (q : ℕ). all_marks (suc n) d q y) here
          ∙ ap (λ (q : List ℕ). all_marks (suc n) d o q) (sym none),
    )
run-marks (e ∷ es) x d o n y (w, v, is, one, f) s le =
    let z = v ++ y in
    let whole : x ++ y ≡ w ++ z = ap (λ (q : List ℕ). q ++ y) is ∙ append_assoc w v y in
    let first = step-marks n d e w o z (free-read d e w o z one (s.0, s.1)) (omega (arith, ap length whole, le)) in
    let rest = run-marks es v (step d (mark e)) (o + length w) first.0 y f s.2 first.1 in
    let place : o + length x ≡ o + length w + length v = omega (arith, ap length is, length-append w v) in (
      rest.0,
      rest.1,
      ap (λ (q : ℕ). all_marks (suc rest.0) (steps d (marks (e ∷ es))) q y) place ∙ rest.2 ∙ sym first.2
          ∙ ap (λ (q : List ℕ). all_marks (suc n) d o q) (sym whole),
    )

-- what was read up to some entries, and these, which lay ahead, were added and passed
module _ (old mid new : Input) (d after : Draft Instr BlockType) (total : List ℕ → Reading) (bytes : List ℕ)
    (n : ℕ) (so_far : Draws old mid d total) (ahead : AreAhead mid (length bytes) bytes)
    (adds : AddsFree d after bytes n) (passes : Passes n mid new n)
  where
    abbrev es : List Entry
    es = adds.1.0

    abbrev spelled : List ℕ
    spelled = take n bytes

    within : length spelled ≡ n
    within = omega (arith, length-take n bytes, adds.0)

    -- their bytes were the next ones
    next : IsTrue mid.known → mid.left ≡ spelled ++ new.left
    next k =
        let p = passes.3 k in
        let are : take n mid.left ≡ spelled =
        sym (take-take n (length bytes) mid.left adds.0) ∙ ap (take n) (sym (ahead.1 k)) in
        sym (take-append-drop n mid.left) ∙ ap (λ (x : List ℕ). x ++ drop n mid.left) are
        ∙ ap (λ (x : List ℕ). spelled ++ x) (sym p.2)

    place : new.place ≡ mid.place + length spelled
    place = omega (arith, passes.2, within)

    front-adds : Draws old new after total
    front-adds = record {
      going = GoesOn-trans old mid new so_far.going passes.0;
      same = λ w.
          let s = so_far.same w in
          let p = passes.3 s.0 in (
            p.0,
            λ c le.
                let t = s.1 c (within-before mid.place new.place c passes.0.forward le) in
                let split = bytes-split mid new spelled (next s.0) place c le in
                let run = run-marks es spelled d mid.place t.0 (bytes_to c new) adds.1.1 adds.1.2 (rw (← split) t.1) in (
                  run.0,
                  run.1,
                  ap (λ (e : Draft Instr BlockType). all_marks (suc run.0) e new.place (bytes_to c new)) adds.1.3
                      ∙ ap (λ (q : ℕ). all_marks (suc run.0) (steps d (marks es)) q (bytes_to c new)) place
                      ∙ run.2 ∙ ap (λ (x : List ℕ). all_marks (suc t.0) d mid.place x) (sym split) ∙ t.2,
                ),
          );
    }

pub ahead-adds : (old mid new : Input) (d after : Draft Instr BlockType) (total : List ℕ → Reading)
    → Draws old mid d total → AddsAhead d after mid new → Draws old new after total
ahead-adds old mid new d after total so_far h =
    front-adds old mid new d after total h.0 h.1 so_far h.2 h.3 h.4

-- where none is looked for
pub none-ahead : (d : Draft Instr BlockType) (i : Input) → AddsAhead d d i i
none-ahead d i = (
  [],
  0,
  (refl, λ k. refl, tt),
  (omega arith, ([], refl, tt, refl)),
  (GoesOn-refl i, omega arith, omega arith, λ k. (k, omega arith, refl, tt)),
)
