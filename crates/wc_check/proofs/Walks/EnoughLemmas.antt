-- Instructions that have all that they need break no rule.
use Rattle.std.proofs.Common.{◌≡◌, ℕ, ◌+◌, ◌<◌, Bool, true, false, ◌||◌, ◌==◌, nat_lt, nat_le}
use Rattle.std.proofs.Common.{List, [], ◌∷◌, length, refl, ap, arith}
use Rattle.std.specs.List.{list_any}
use Rattle.std.proofs.lemmas.Bool.{lt-leb, ne_eqb}
use Rattle.wc_body.specs.declared.instr.BlockType as block_type
use Rattle.wc_body.specs.declared.instr.BlockType.TheVariants as block_types
use Rattle.wc_body.specs.declared.instr.Instr as instr
use Rattle.wc_body.specs.declared.instr.Instr.TheVariants.{Simple, Index, Mem, BrTable, CallIndirect, I32Const}
use Rattle.wc_body.specs.declared.instr.Instr.TheVariants.{I64Const}
use Rattle.wc_ops.specs.declared.op.SimpleOp.{SimpleOp}
use Rattle.wc_ops.specs.declared.op.SimpleOp.TheVariants.{MemorySize, MemoryGrow}
use Rattle.wc_ops.specs.declared.op.IndexOp.{IndexOp}
use Rattle.wc_ops.specs.declared.op.IndexOp.TheVariants.{Br, BrIf, Call, LocalGet, LocalSet, LocalTee, GlobalGet}
use Rattle.wc_ops.specs.declared.op.IndexOp.TheVariants.{GlobalSet}
use Rattle.wc_body.specs.declared.needs.Needs.{Needs}
use Rattle.wc_body.specs.Standard.Nested.{Code, Mark, plain, begin, begin_if, otherwise, close}
use Rattle.wc_body.specs.Standard.Needed.{nothing, enough, low_bit, with_simple, with_index, with_instr, with_block}
use Rattle.wc_body.specs.Standard.Needed.{with_mark, with_all, needs_of}
use Rattle.wc_ops.specs.Standard.Opcodes.{memory}
use Rattle.wc_body.specs.Standard.Placed.{placed, deeper}
use Rattle.wc_check.specs.declared.context.Context.{Context}
use Rattle.wc_check.specs.declared.fault.Item.TheVariants as items
use Rattle.wc_check.specs.declared.fault.CheckWhy.{CheckWhy}
use Rattle.wc_check.specs.declared.fault.CheckWhy.TheVariants as whys
use Rattle.wc_check.specs.Standard.Rules.{rule, at, each}
use Rattle.wc_check.specs.Standard.InstructionRules.{simple_rules, is_constant_at, index_rules, instr_rules}
use Rattle.wc_check.specs.Standard.InstructionRules.{block_rules, mark_rules, broken_instr, broken_in_body}
use Rattle.wc_check.specs.Judging.Enough.{HasRoom}
use Rattle.wc_check.proofs.Walks.IsEnough.{IsEnough}
use Rattle.wc_check.proofs.Walks.BitLemmas.{bit-joins, bit-one}

-- there is room for the index, and for what was needed before
before : (count so_far n : ℕ) → HasRoom count (enough so_far n) → HasRoom count so_far
before count so_far n room = (omega (arith, room.0, room.1), omega (arith, room.0, room.1))

below : (count so_far n : ℕ) → HasRoom count (enough so_far n) → n < count
below count so_far n room = omega (arith, room.0, room.1)

no-rule : (why : CheckWhy) (b : Bool) → b ≡ false → rule why b ≡ []
no-rule why b e = ap (λ t. rule why t) e

no-count : (why : CheckWhy) (count so_far n : ℕ) → HasRoom count (enough so_far n) → rule why (nat_le count n) ≡ []
no-count why count so_far n room = no-rule why (nat_le count n) (lt-leb count n (below count so_far n room))

no-zero : (why : CheckWhy) (count : ℕ) → 0 < count → rule why (count == 0) ≡ []
no-zero why count lt = no-rule why (count == 0) (ne_eqb count 0 (λ e. omega (arith, e)))

pub neither : (a b : Bool) → (a || b) ≡ false → (a ≡ false) × (b ≡ false)
neither true b e = absurd cc
neither false b e = (refl, e)

-- ---- one more instruction
module _ (c : Context) (locals : ℕ) where
  -- there was enough before, and no rule is broken
  abbrev Keeps : Needs → List CheckWhy → Type 0
  Keeps s whys = IsEnough c locals s × (whys ≡ [])

  simple-keeps : (s : Needs) (op : SimpleOp) → IsEnough c locals (with_simple s op) → Keeps s (simple_rules c op)
  simple-keeps s MemorySize e = (
    record {
      rooms = record {
        types = e.rooms.types;
        funcs = e.rooms.funcs;
        globals = e.rooms.globals;
        set_globals = e.rooms.set_globals;
        locals = e.rooms.locals;
        table = e.rooms.table;
        memory = λ h. e.rooms.memory refl;
        outer_label = e.rooms.outer_label;
        over_aligned = e.rooms.over_aligned;
      };
      settable = e.settable;
    },
    no-zero whys.Index c.mems (e.rooms.memory refl),
  )
  simple-keeps s MemoryGrow e = (
    record {
      rooms = record {
        types = e.rooms.types;
        funcs = e.rooms.funcs;
        globals = e.rooms.globals;
        set_globals = e.rooms.set_globals;
        locals = e.rooms.locals;
        table = e.rooms.table;
        memory = λ h. e.rooms.memory refl;
        outer_label = e.rooms.outer_label;
        over_aligned = e.rooms.over_aligned;
      };
      settable = e.settable;
    },
    no-zero whys.Index c.mems (e.rooms.memory refl),
  )
  simple-keeps s _ e = (e, refl)

  index-keeps : (s : Needs) (k : ℕ) (op : IndexOp) (n : ℕ) → IsEnough c locals (with_index s k op n)
      → Keeps s (index_rules c locals k op n)
  index-keeps s k Br n e = let no = neither s.outer_label (nat_lt k n) e.rooms.outer_label in (
    record {
      rooms = record {
        types = e.rooms.types;
        funcs = e.rooms.funcs;
        globals = e.rooms.globals;
        set_globals = e.rooms.set_globals;
        locals = e.rooms.locals;
        table = e.rooms.table;
        memory = e.rooms.memory;
        outer_label = no.0;
        over_aligned = e.rooms.over_aligned;
      };
      settable = e.settable;
    },
    no-rule whys.Label (nat_lt k n) no.1,
  )
  index-keeps s k BrIf n e = let no = neither s.outer_label (nat_lt k n) e.rooms.outer_label in (
    record {
      rooms = record {
        types = e.rooms.types;
        funcs = e.rooms.funcs;
        globals = e.rooms.globals;
        set_globals = e.rooms.set_globals;
        locals = e.rooms.locals;
        table = e.rooms.table;
        memory = e.rooms.memory;
        outer_label = no.0;
        over_aligned = e.rooms.over_aligned;
      };
      settable = e.settable;
    },
    no-rule whys.Label (nat_lt k n) no.1,
  )
  index-keeps s k Call n e = (
    record {
      rooms = record {
        types = e.rooms.types;
        funcs = before c.funcs s.funcs n e.rooms.funcs;
        globals = e.rooms.globals;
        set_globals = e.rooms.set_globals;
        locals = e.rooms.locals;
        table = e.rooms.table;
        memory = e.rooms.memory;
        outer_label = e.rooms.outer_label;
        over_aligned = e.rooms.over_aligned;
      };
      settable = e.settable;
    },
    no-count whys.Index c.funcs s.funcs n e.rooms.funcs,
  )
  index-keeps s k LocalGet n e = (
    record {
      rooms = record {
        types = e.rooms.types;
        funcs = e.rooms.funcs;
        globals = e.rooms.globals;
        set_globals = e.rooms.set_globals;
        locals = before locals s.locals n e.rooms.locals;
        table = e.rooms.table;
        memory = e.rooms.memory;
        outer_label = e.rooms.outer_label;
        over_aligned = e.rooms.over_aligned;
      };
      settable = e.settable;
    },
    no-count whys.Index locals s.locals n e.rooms.locals,
  )
  index-keeps s k LocalSet n e = (
    record {
      rooms = record {
        types = e.rooms.types;
        funcs = e.rooms.funcs;
        globals = e.rooms.globals;
        set_globals = e.rooms.set_globals;
        locals = before locals s.locals n e.rooms.locals;
        table = e.rooms.table;
        memory = e.rooms.memory;
        outer_label = e.rooms.outer_label;
        over_aligned = e.rooms.over_aligned;
      };
      settable = e.settable;
    },
    no-count whys.Index locals s.locals n e.rooms.locals,
  )
  index-keeps s k LocalTee n e = (
    record {
      rooms = record {
        types = e.rooms.types;
        funcs = e.rooms.funcs;
        globals = e.rooms.globals;
        set_globals = e.rooms.set_globals;
        locals = before locals s.locals n e.rooms.locals;
        table = e.rooms.table;
        memory = e.rooms.memory;
        outer_label = e.rooms.outer_label;
        over_aligned = e.rooms.over_aligned;
      };
      settable = e.settable;
    },
    no-count whys.Index locals s.locals n e.rooms.locals,
  )
  index-keeps s k GlobalGet n e = (
    record {
      rooms = record {
        types = e.rooms.types;
        funcs = e.rooms.funcs;
        globals = before (length c.globals) s.globals n e.rooms.globals;
        set_globals = e.rooms.set_globals;
        locals = e.rooms.locals;
        table = e.rooms.table;
        memory = e.rooms.memory;
        outer_label = e.rooms.outer_label;
        over_aligned = e.rooms.over_aligned;
      };
      settable = e.settable;
    },
    no-count whys.Index (length c.globals) s.globals n e.rooms.globals,
  )
  index-keeps s k GlobalSet n e =
      let lt = below (length c.globals) s.set_globals n e.rooms.set_globals in
      let variable = e.settable n (omega arith) (omega (arith, e.rooms.set_globals.0)) (bit-joins s.set_below_64 n) in (
        record {
          rooms = record {
            types = e.rooms.types;
            funcs = e.rooms.funcs;
            globals = e.rooms.globals;
            set_globals = before (length c.globals) s.set_globals n e.rooms.set_globals;
            locals = e.rooms.locals;
            table = e.rooms.table;
            memory = e.rooms.memory;
            outer_label = e.rooms.outer_label;
            over_aligned = e.rooms.over_aligned;
          };
          settable =
              λ m low high marked. e.settable m (omega (arith, low)) (omega (arith, high))
              (λ lt. bit-one s.set_below_64 (low_bit n) m (marked lt));
        },
        rw (no-count whys.Index (length c.globals) s.set_globals n e.rooms.set_globals)
            (no-rule whys.Immutable (is_constant_at c.globals n) variable),
      )

  instr-keeps : (s : Needs) (k : ℕ) (i : instr.Instr) → IsEnough c locals (with_instr s k i)
      → Keeps s (instr_rules c locals k i)
  instr-keeps s k (Simple op) e = simple-keeps s op e
  instr-keeps s k (Index op n) e = index-keeps s k op n e
  instr-keeps s k (Mem op arg) e =
      let no = neither s.over_aligned (nat_lt (memory op).alignment arg.align) e.rooms.over_aligned in (
        record {
          rooms = record {
            types = e.rooms.types;
            funcs = e.rooms.funcs;
            globals = e.rooms.globals;
            set_globals = e.rooms.set_globals;
            locals = e.rooms.locals;
            table = e.rooms.table;
            memory = λ h. e.rooms.memory refl;
            outer_label = e.rooms.outer_label;
            over_aligned = no.0;
          };
          settable = e.settable;
        },
        rw (no-zero whys.Index c.mems (e.rooms.memory refl))
            (no-rule whys.Align (nat_lt (memory op).alignment arg.align) no.1),
      )
  instr-keeps s k (BrTable default labels) e =
      let is_outer = list_any (λ n. nat_lt k n) labels || nat_lt k default in
      let no = neither s.outer_label is_outer e.rooms.outer_label in (
        record {
          rooms = record {
            types = e.rooms.types;
            funcs = e.rooms.funcs;
            globals = e.rooms.globals;
            set_globals = e.rooms.set_globals;
            locals = e.rooms.locals;
            table = e.rooms.table;
            memory = e.rooms.memory;
            outer_label = no.0;
            over_aligned = e.rooms.over_aligned;
          };
          settable = e.settable;
        },
        no-rule whys.Label is_outer no.1,
      )
  instr-keeps s k (CallIndirect t) e = (
    record {
      rooms = record {
        types = before c.types s.types t e.rooms.types;
        funcs = e.rooms.funcs;
        globals = e.rooms.globals;
        set_globals = e.rooms.set_globals;
        locals = e.rooms.locals;
        table = λ h. e.rooms.table refl;
        memory = e.rooms.memory;
        outer_label = e.rooms.outer_label;
        over_aligned = e.rooms.over_aligned;
      };
      settable = e.settable;
    },
    rw (no-count whys.TypeIndex c.types s.types t e.rooms.types) (no-zero whys.Index c.tables (e.rooms.table refl)),
  )
  instr-keeps s k (I32Const n) e = (e, refl)
  instr-keeps s k (I64Const n) e = (e, refl)

  block-keeps : (s : Needs) (t : block_type.BlockType) → IsEnough c locals (with_block s t) → Keeps s (block_rules c t)
  block-keeps s block_types.Empty e = (e, refl)
  block-keeps s (block_types.Value v) e = (e, refl)
  block-keeps s (block_types.Index t) e = (
    record {
      rooms = record {
        types = before c.types s.types t e.rooms.types;
        funcs = e.rooms.funcs;
        globals = e.rooms.globals;
        set_globals = e.rooms.set_globals;
        locals = e.rooms.locals;
        table = e.rooms.table;
        memory = e.rooms.memory;
        outer_label = e.rooms.outer_label;
        over_aligned = e.rooms.over_aligned;
      };
      settable = e.settable;
    },
    no-count whys.TypeIndex c.types s.types t e.rooms.types,
  )

  mark-keeps : (s : Needs) (k : ℕ) (m : Mark instr.Instr block_type.BlockType) → IsEnough c locals (with_mark s k m)
      → Keeps s (mark_rules c locals k m)
  mark-keeps s k (plain i) e = instr-keeps s k i e
  mark-keeps s k (begin r t) e = block-keeps s t e
  mark-keeps s k (begin_if t) e = block-keeps s t e
  mark-keeps s k otherwise e = (e, refl)
  mark-keeps s k close e = (e, refl)

  module _ (func : ℕ) where
    all-keep : (s : Needs) (number : ℕ) (xs : List (ℕ × Mark instr.Instr block_type.BlockType))
        → IsEnough c locals (with_all s xs)
        → IsEnough c locals s × (each (broken_instr c locals func) number xs ≡ [])
    all-keep s number [] e = (e, refl)
    all-keep s number (x ∷ xs) e =
        let rest = all-keep (with_mark s x.0 x.1) (number + 1) xs e in
        let this = mark-keeps s x.0 x.1 rest.0 in
        let none : broken_instr c locals func number x ≡ [] = ap (λ ws. at (items.Instr func number) ws) this.1 in
        (this.0, rw none rest.1)

    pub enough-breaks-none : (body : Code instr.Instr block_type.BlockType) → IsEnough c locals (needs_of body)
        → broken_in_body c locals func body ≡ []
    enough-breaks-none body e = (all-keep nothing 0 (placed deeper 0 body) e).1
