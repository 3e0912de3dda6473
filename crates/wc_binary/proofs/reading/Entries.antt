-- Reading an entry of an expression, and the loop that does so.
use Rattle.std.proofs.Common.{◌≡◌, ℕ, zero, suc, ◌+◌, ◌<◌, ◌≤◌, Bool, true, false, not, nat_eq, List, [], ◌∷◌, length}
use Rattle.std.proofs.Common.{Option, Some, None, Result, Ok, Err, refl, sym, ap, ◌∙◌, arith}
use Rattle.std.specs.Prelude.{IsTrue, IfOk, IfErr}
use Rattle.std.proofs.lemmas.Bool.{eqb-true}
use Rattle.wc_ops.specs.declared.op.OpByte.{OpByte}
use Rattle.wc_ops.specs.declared.op.OpByte.TheVariants.{Known, Unknown}
use Rattle.wc_body.specs.declared.entry.Entry.{Entry}
use Rattle.wc_body.specs.declared.entry.Entry.TheVariants.{Plain}
use Rattle.wc_body.specs.declared.instr.Instr.{Instr}
use Rattle.wc_body.specs.declared.instr.BlockType.{BlockType}
use Rattle.wc_body.specs.Standard.Nested.{Code, empty, Mark, plain, begin, begin_if, otherwise, close}
use Rattle.wc_body.specs.Standard.Draft.{Draft, whole, step, may_come, in_first_part}
use Rattle.wc_body.specs.Standard.Entries.{mark}
use Rattle.wc_ops.specs.Standard.ByteMeaning.{IsOpByte}
use Rattle.wc_binary.specs.declared.fault.BinFault.{BinFault}
use Rattle.wc_binary.specs.declared.fault.BinFault.TheVariants.{Bad, Read, Memory}
use Rattle.wc_binary.specs.declared.fault.BinWhy.TheVariants.{End, Opcode}
use Rattle.wc_binary.specs.Standard.Phrase.{Halt, halt, gives, ◌>>=◌}
use Rattle.wc_binary.specs.Reading.Reading.{Got, got, fault, read, is_last, behind_opcode, marks_at}
use Rattle.wc_binary.specs.Reading.Source.{Input, GoesOn, NextGives, Fails, Gave}
use Rattle.wc_ops.specs.Reading.OpcodeMeaning.{meaning}
use Rattle.wc_binary.specs.Standard.Instructions.{begun_of, opcode, follows, block_type, expr}
use Rattle.wc_binary.specs.Standard.Expression.{Begun, plain_op, region_op, if_op, else_op, end_op}
use Rattle.wc_binary.specs.declared.fault.BinWhy.{BinWhy}
use Rattle.wc_ops.specs.declared.op.Op.{Op}
use Rattle.wc_binary.specs.Reading.NextMark.{standing_behind, mark_behind, GaveEntry, GivesEntry, MayStand, AddsNext}
use Rattle.wc_binary.proofs.reading.ahead.Fronts.{bytes_to, IsWithin, within-before, bytes-split, phrase-to}
use Rattle.wc_binary.proofs.reading.Going.{EndsAt, GoesOn-refl, GoesOn-stops, GoesOn-trans, Stopped-behind}
use Rattle.wc_binary.proofs.reading.Going.{ReadFailed-behind}
use Rattle.wc_binary.proofs.phrases.Laws.{read-told}
use Rattle.wc_binary.proofs.phrases.Expressions.{mark-shorter}
use Rattle.wc_ops.proofs.Meanings.OfBytes.{meant}

-- ---- opcodes

no-else : meaning 0x05 ≡ Unknown
unfolding meaning
no-else = refl

no-end : meaning 0x0B ≡ Unknown
unfolding meaning
no-end = refl

-- a byte that has a meaning as an opcode
pub opcode-is : (b : ℕ) (m : OpByte) → IsOpByte b m → (m ≡ Unknown → ⊥) → opcode b ≡ begun_of m
opcode-is b m h has = go (nat_eq b 0x05) refl (nat_eq b 0x0B) refl
  where
    is : meaning b ≡ m
    is = sym (meant b m h)

    go : (p : Bool) → nat_eq b 0x05 ≡ p → (q : Bool) → nat_eq b 0x0B ≡ q → opcode b ≡ begun_of m
    go true e q f = absurd (has (sym is ∙ ap meaning (eqb-true b 0x05 e) ∙ no-else))
    go false e true f = absurd (has (sym is ∙ ap meaning (eqb-true b 0x0B f) ∙ no-end))
    go false e false f = let i = is in rw (e, f, i) refl

-- a byte that has none, and that is neither an end nor an else that may stand
pub no-entry : (d : Draft Instr BlockType) (b at : ℕ) (x : List ℕ) → IsOpByte b Unknown → (b ≡ 0x0B → ⊥)
    → (b ≡ 0x05 → in_first_part d.around ≡ false) → mark_behind d (opcode b) at x ≡ fault at Opcode (at + 1)
no-entry d b at x h ends turns = go (nat_eq b 0x05) refl (nat_eq b 0x0B) refl
  where
    go : (p : Bool) → nat_eq b 0x05 ≡ p → (q : Bool) → nat_eq b 0x0B ≡ q
        → mark_behind d (opcode b) at x ≡ fault at Opcode (at + 1)
    go true e q f = let t = turns (eqb-true b 0x05 e) in rw (e, t) refl
    go false e true f = absurd (ends (eqb-true b 0x0B f))
    go false e false f = let i = sym (meant b Unknown h) in rw (e, f, i) refl

-- ---- the loop

abbrev pub Reading : Type 0
Reading = Result (Got (Code Instr BlockType)) Halt

abbrev pub all_marks : ℕ → Draft Instr BlockType → ℕ → List ℕ → Reading
all_marks n d o x = marks_at opcode (λ u q y. read (follows u) q y) (λ q y. read block_type q y) n d o x

abbrev opcode_at : Result (Begun Op) BinWhy → ℕ → List ℕ → Result (Got (Mark Instr BlockType)) Halt
opcode_at k o x = behind_opcode opcode (λ u q y. read (follows u) q y) (λ q y. read block_type q y) k o x

-- what was read from old on builds the draft, and the marks to be read from now on, as many as bytes are left and one
-- more at most, end the reading
pub record Draws (old now : Input) (d : Draft Instr BlockType) (total : List ℕ → Reading) : Type 0 where
  pub going : GoesOn old now
  pub same : IsTrue old.known
      → IsTrue now.known × ((c : Option ℕ) → IsWithin now.place c → (n : ℕ) × (length (bytes_to c now) ≤ n)
      × (all_marks (suc n) d now.place (bytes_to c now) ≡ total (bytes_to c old)))

pub draws-none : (old : Input) → Draws old old (whole empty) (λ x. read expr old.place x)
unfolding expr
draws-none old = record {
  going = GoesOn-refl old;
  same = λ w. (w, λ c le. (length (bytes_to c old), omega arith, refl));
}

some-marks : (n o : ℕ) (d : Draft Instr BlockType) (x : List ℕ) (total : Reading) → length x < n
    → all_marks n d o x ≡ total → (m : ℕ) × (length x ≤ m) × (all_marks (suc m) d o x ≡ total)
some-marks zero o d x total lt e = absurd (omega arith)
some-marks (suc m) o d x total lt e = (m, omega arith, e)

-- no byte, where a mark is wanted
pub next-none : (old mid : Input) (d : Draft Instr BlockType) (total : List ℕ → Reading) → Draws old mid d total
    → IsTrue old.known → IsTrue mid.known × EndsAt mid.place old mid total
next-none old mid d total so_far w =
    let s = so_far.same w in (
      s.0,
      λ c within e.
          let t = s.1 c within in
          let one : all_marks (suc t.0) d mid.place (bytes_to c mid) ≡ fault mid.place End mid.place = rw e refl in
          sym t.2 ∙ one,
    )

-- the mark of an opcode is read alike of the bytes up to any place behind it
opcode-to : (k : Result (Begun Op) BinWhy) (at : ℕ) (next new : Input) (m : Mark Instr BlockType) → next.place ≡ at + 1
    → opcode_at k at next.left ≡ got m new.place new.left → (c : Option ℕ) → IsWithin new.place c
    → opcode_at k at (bytes_to c next) ≡ got m new.place (bytes_to c new)
opcode-to (Err r) at next new m place e c le = absurd cc
opcode-to (Ok (plain_op u)) at next new m place e c le =
    rw (← place) (phrase-to (follows u >>= λ v. gives (plain v)) next new m (rw (← place) at e) c le)
opcode-to (Ok (region_op r)) at next new m place e c le =
    rw (← place) (phrase-to (block_type >>= λ v. gives (begin r v)) next new m (rw (← place) at e) c le)
opcode-to (Ok if_op) at next new m place e c le =
    rw (← place) (phrase-to (block_type >>= λ v. gives (begin_if v)) next new m (rw (← place) at e) c le)
opcode-to (Ok else_op) at next new m place e c le =
    rw (← place) (phrase-to (gives otherwise) next new m (rw (← place) at e) c le)
opcode-to (Ok end_op) at next new m place e c le =
    rw (← place) (phrase-to (gives close) next new m (rw (← place) at e) c le)

module _ (old mid next : Input) (d : Draft Instr BlockType) (total : List ℕ → Reading) (so_far : Draws old mid d total)
  where
    module _ (b : ℕ) (n : NextGives mid next (Ok (Some b))) (new : Input) where
      -- its first byte was taken
      split : IsTrue mid.known → (c : Option ℕ) → IsWithin next.place c → bytes_to c mid ≡ b ∷ bytes_to c next
      split k c le = bytes-split mid next (b ∷ []) (n.2 k).1 n.1 c le

      within : (c : Option ℕ) → IsWithin next.place c → IsWithin mid.place c
      within c le = within-before mid.place next.place c n.0.forward le

      -- a fault of the entry is one of the expression
      entry-stops : IsTrue old.known → (c : Option ℕ) → IsWithin next.place c → (f : Halt)
          → mark_behind d (opcode b) mid.place (bytes_to c next) ≡ Err f → total (bytes_to c old) ≡ Err f
      entry-stops w c le f g =
          let s = so_far.same w in
          let t = s.1 c (within c le) in
          let here = split s.0 c le in
          let one : all_marks (suc t.0) d mid.place (bytes_to c mid) ≡ Err f = rw (here, g) refl in
          sym t.2 ∙ one

      pub entry-fails : (f : BinFault) → Fails next new f (λ x. mark_behind d (opcode b) mid.place x)
          → Fails old new f total
      entry-fails Memory h = Stopped-behind old next new (GoesOn-trans old mid next so_far.going n.0) h
      entry-fails (Read p) h = (
        ReadFailed-behind old next new p (GoesOn-trans old mid next so_far.going n.0) h.0,
        λ w. entry-stops w (Some p) h.0.forward (halt p End p) (h.1 (n.2 (so_far.same w).0).0),
      )
      entry-fails (Bad p why) h = (
        Stopped-behind old next new (GoesOn-trans old mid next so_far.going n.0) h.0,
        λ w. entry-stops w None tt (halt p why new.place) (h.1 (n.2 (so_far.same w).0).0),
      )

      module _ (entry : Entry) (h : GaveEntry next new (Ok entry) (λ x. mark_behind d (opcode b) mid.place x)) where
        going : GoesOn old new
        going = GoesOn-trans old next new (GoesOn-trans old mid next so_far.going n.0) h.0

        -- it is read alike of the bytes up to any place behind it
        entry-to : IsTrue next.known → (c : Option ℕ) → IsWithin new.place c
            → mark_behind d (opcode b) mid.place (bytes_to c next) ≡ got (mark entry) new.place (bytes_to c new)
        entry-to k c le =
            opcode-to (standing_behind d (opcode b)) mid.place next new (mark entry) n.1 (h.1 k).1 c le

        -- its bytes are some
        shorter : (c : Option ℕ)
            → mark_behind d (opcode b) mid.place (bytes_to c next) ≡ got (mark entry) new.place (bytes_to c new)
            → bytes_to c mid ≡ b ∷ bytes_to c next → length (bytes_to c new) < length (bytes_to c mid)
        shorter c g f =
            let less = mark-shorter opcode follows block_type (λ u q y. read-told (follows u) q y)
            (λ q y. read-told block_type q y) d mid.place new.place (b
            ∷ bytes_to c next) (bytes_to c new) (mark entry) g in
            omega (arith, ap length f, less)

        pub entry-adds : is_last d (mark entry) ≡ false → Draws old new (step d (mark entry)) total
        entry-adds last = record {
          going = going;
          same = λ w.
              let s = so_far.same w in
              let k = n.2 s.0 in (
                (h.1 k.0).0,
                λ c le.
                    let near = within-before next.place new.place c h.0.forward le in
                    let t = s.1 c (within c near) in
                    let f = split s.0 c near in
                    let e = entry-to k.0 c le in
                    let after = step d (mark entry) in
                    let one : all_marks (suc t.0) d mid.place (bytes_to c mid)
                    ≡ all_marks t.0 after new.place (bytes_to c new) = rw (f, e, last) refl in
                    let less = shorter c e f in
                    some-marks t.0 new.place after (bytes_to c new) (total (bytes_to c old)) (omega (
                      arith,
                      t.1,
                    )) (sym one ∙ t.2),
              );
        }

        pub entry-ends : is_last d (mark entry) ≡ true → (code : Code Instr BlockType) → d ≡ whole code
            → Gave old new (Ok code) total
        entry-ends last code is = (
          going,
          λ w.
              let s = so_far.same w in
              let k = n.2 s.0 in
              let t = s.1 None tt in
              let f = k.1 in
              let g = h.1 k.0 in
              let e = g.1 in
              let one : all_marks (suc t.0) d mid.place mid.left ≡ got d.last new.place new.left =
              rw (f, e, last) refl in
              (g.0, sym t.2 ∙ one ∙ ap (λ (c : Draft Instr BlockType). got c.last new.place new.left) is),
        )

-- ---- where the entry stands

pub goes-on : (last more : Bool) → more ≡ not last → more ≡ true → last ≡ false
goes-on true more e f = let no : false ≡ true = sym e ∙ f in absurd cc
goes-on false more e f = refl

pub comes-last : (last more : Bool) → more ≡ not last → more ≡ false → last ≡ true
comes-last true more e f = refl
comes-last false more e f = let no : true ≡ false = sym e ∙ f in absurd cc

-- an entry that was read and added
pub taken : (d after : Draft Instr BlockType) (k : Result (Begun Op) BinWhy) (at : ℕ) (old new : Input) (e : Entry)
    (r : Result Bool BinFault) → GivesEntry d k at old new (Ok e) → MayStand d e
    → IfOk r (λ more. more ≡ may_come d (mark e))
    → IfOk r (λ more. more ≡ true → after ≡ step d (mark e)) → IfOk r (λ more. more ≡ false → after ≡ d)
    → IfErr r (λ f. f ≡ Memory) → AddsNext d k at old new after r
taken d after k at old new e (Ok more) g s more_is ok last memory = (e, g, s, (more_is, ok, last))
taken d after k at old new e (Err f) g s more_is ok last memory = rw memory (GoesOn-stops old new g.0)

-- the same of an instruction in which none is nested
pub plain-taken : (d after : Draft Instr BlockType) (op : Op) (at : ℕ) (old new : Input) (i : Instr)
    (r : Result Bool BinFault) → old.place ≡ at + 1 → begun_of (Known op) ≡ Ok (plain_op op)
    → Gave old new (Ok i) (λ x. read (follows op) old.place x) → IfOk r (λ more. more ≡ true)
    → IfOk r (λ more. more ≡ true → after ≡ step d (plain i)) → IfOk r (λ more. more ≡ false → after ≡ d)
    → IfErr r (λ f. f ≡ Memory) → AddsNext d (begun_of (Known op)) at old new after r
plain-taken d after op at old new i r place begun g more_is ok last memory =
    taken d after (begun_of (Known op)) at old new (Plain i) r
    (g.0, λ w. let s = g.1 w in (s.0, rw (begun, ← place, s.1) refl))
    (λ e. absurd cc, refl) more_is ok last memory
