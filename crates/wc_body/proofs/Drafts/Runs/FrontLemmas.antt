-- Entries that bytes begin with.
use Rattle.std.specs.Prelude.{IfSome}
use Rattle.std.proofs.Common.{◌≡◌, ℕ, List, [], ◌∷◌, ◌++◌}
use Rattle.std.proofs.Common.{length, refl, sym, ap, ◌∙◌, arith}
use Rattle.std.proofs.lemmas.List.{take-append-le, length-append}
use Rattle.std.proofs.Math.Seq.{take-length}
use Rattle.std.specs.Prelude.{Some, None}
use Rattle.wc_ops.specs.Standard.Opcodes.{row}
use Rattle.wc_ops.specs.declared.op.Op.TheVariants as ops
use Rattle.wc_ops.specs.declared.op.IndexOp.{IndexOp}
use Rattle.wc_ops.specs.declared.op.MemOp.{MemOp}
use Rattle.wc_ops.specs.declared.op.SimpleOp.{SimpleOp}
use Rattle.wc_body.specs.Standard.InstructionBytes.{simple_rest}
use Rattle.wc_body.specs.Standard.Needed.{with_simple}
use Rattle.wc_body.specs.declared.instr.Instr.TheVariants.{Simple, Index, Mem, CallIndirect, I32Const, I64Const}
use Rattle.wc_body.specs.declared.entry.Kind.{Kind}
use Rattle.wc_body.specs.declared.entry.Entry.TheVariants.{Plain, Begin, End}
use Rattle.wc_body.specs.declared.builder.Part.{Part}
use Rattle.wc_body.specs.declared.needs.Needs.{Needs}
use Rattle.wc_body.specs.Writing.EntryBytes.{opening_bytes}
use Rattle.wc_body.specs.Drafting.AtFront.{IsSplit, IsLongSplit}
use Rattle.wc_body.specs.Drafting.AtFront.{NotesIndex, NotesIndirect, NotesAccess, NotesPlain, NotesBegin}
use Rattle.wc_body.specs.Drafting.AtFront.{Opens, Notes, NotesMark}
use Rattle.wc_body.proofs.Drafts.BuilderLemmas.{begin-needs}
use Rattle.wc_body.proofs.Drafts.Runs.IntegerFronts.{Following}

module _ (x y : List ℕ) (b : ℕ) (s t : Needs) (old new : List Part) (e : x ≡ b ∷ y) where
  pub index-notes : (op : IndexOp) → (row (ops.Index op)).byte ≡ b → (k : ℕ) → k ≡ length old → (r : Following)
      → IfSome r (λ rest. NotesIndex op k y rest.now s t) → IfSome r (λ rest. Notes x rest.now s t old old)
  index-notes op is k within None h = tt
  index-notes op is k within (Some rest) h =
      (Plain (Index op h.0), rw (e, h.1, is) refl, h.2, rw (← within) h.3, refl)

  pub indirect-notes : b ≡ 0x11 → (k : ℕ) → (r : Following)
      → IfSome r (λ rest. NotesIndirect k y rest.now s t) → IfSome r (λ rest. Notes x rest.now s t old old)
  indirect-notes is k None h = tt
  indirect-notes is k (Some rest) h =
      (Plain (CallIndirect h.0), rw (e, is, h.1) refl, h.2, h.3, refl)

  pub i32-notes : b ≡ 0x41 → (r : Following) → IfSome r (λ rest. IsSplit y rest.now)
      → IfSome r (λ rest. Notes x rest.now s s old old)
  i32-notes is None h = tt
  i32-notes is (Some rest) h = let z = h.2 in (Plain (I32Const z.0), rw (e, is, h.1, z.1) refl, z.2, refl, refl)

  pub i64-notes : b ≡ 0x42 → (r : Following) → IfSome r (λ rest. IsLongSplit y rest.now)
      → IfSome r (λ rest. Notes x rest.now s s old old)
  i64-notes is None h = tt
  i64-notes is (Some rest) h = let z = h.2 in (Plain (I64Const z.0), rw (e, is, h.1, z.1) refl, z.2, refl, refl)

  pub plain-notes : (r : Following) → IfSome r (λ rest. NotesPlain b y rest.now s t)
      → IfSome r (λ rest. Notes x rest.now s t old old)
  plain-notes None h = tt
  plain-notes (Some rest) h = (Plain h.0, e ∙ h.1, h.2, h.3 (length old), refl)

-- one on the size of memory, of this opcode
pub simple-notes : (b : ℕ) (x : List ℕ) (s t : Needs) (op : SimpleOp) → (row (ops.Simple op)).byte ≡ b → (r : Following)
    → IfSome r (λ rest. (x ≡ simple_rest op ++ rest.now) × (t ≡ with_simple s op))
    → IfSome r (λ rest. NotesPlain b x rest.now s t)
simple-notes b x s t op is None h = tt
simple-notes b x s t op is (Some rest) h = (Simple op, rw (h.0, is) refl, tt, λ k. h.1)

-- an access of this opcode
pub access-notes : (b : ℕ) (x : List ℕ) (s t : Needs) (op : MemOp) → (row (ops.Mem op)).byte ≡ b → (r : Following)
    → IfSome r (λ rest. NotesAccess op x rest.now s t) → IfSome r (λ rest. NotesPlain b x rest.now s t)
access-notes b x s t op is None h = tt
access-notes b x s t op is (Some rest) h = (Mem op h.0, rw (h.1, is) refl, h.2, λ k. h.3)

-- a block, a loop or an if, by its byte
pub begin-marks : (x y : List ℕ) (b : ℕ) (old new : List Part) → x ≡ b ∷ y → (kind : Kind)
    → opening_bytes kind ≡ b ∷ [] → (r : Following) → IfSome r (λ rest. NotesBegin kind y rest.now old new)
    → IfSome r (λ rest. NotesMark x rest.now old new)
begin-marks x y b old new e kind is None h = tt
begin-marks x y b old new e kind is (Some rest) h =
    λ s. (Begin kind h.0, rw (e, h.1, is) refl, h.2, sym (h.3 s) ∙ begin-needs s (length old) kind h.0, (h.4, h.5))

-- one that is open no longer was the last
pub end-opens : (old new : List Part) (p : Part) → old ≡ new ++ p ∷ [] → Opens End old new
end-opens old new p e = (
  length new,
  omega (arith, ap length e, length-append new (p ∷ [])),
  rw e (sym (take-append-le (length new) new (p ∷ []) (omega arith) ∙ take-length new)),
)
