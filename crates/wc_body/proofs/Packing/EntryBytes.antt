-- The bytes of a row of entries are those of the instructions that it stands for, and fit where these do.
use Rattle.std.proofs.Common.{◌≡◌, ℕ, List, [], ◌∷◌, ◌++◌, refl, sym, ap, subst, ◌∙◌}
use Rattle.std.specs.List.{AllByRecursion, flat_map}
use Rattle.wc_body.specs.declared.entry.Kind.TheVariants.{Block, Loop, If}
use Rattle.wc_body.specs.declared.entry.Entry.{Entry}
use Rattle.wc_body.specs.declared.entry.Entry.TheVariants.{Plain, Begin, Else, End}
use Rattle.wc_body.specs.declared.instr.BlockType.{BlockType}
use Rattle.wc_body.specs.declared.instr.Instr.{Instr}
use Rattle.wc_body.specs.Standard.Nested.{Code, Mark, flatten}
use Rattle.wc_body.specs.Standard.Entries.{mark, marks, nested}
use Rattle.wc_body.specs.Standard.Throughout.{Throughout}
use Rattle.wc_body.proofs.Codes.ThroughoutLemmas.{HoldsAt, AllMarks}
use Rattle.wc_body.proofs.Codes.ThroughoutLemmas.{AllMarks-flatten}
use Rattle.wc_body.proofs.Codes.Emitting.{emits, emits-flatten}
use Rattle.wc_body.specs.Writing.EntryBytes.{entry_bytes}
use Rattle.wc_body.specs.Standard.InstructionBytes.{code_pieces, code_bytes, FitsInstr, FitsBlockType}
use Rattle.wc_body.specs.Standard.InstructionBytes.{FitsExpr}
use Rattle.wc_body.specs.Writing.EntryBytes.{FitsEntry}
use Rattle.wc_body.specs.Reading.Unpacked.{unpacked, IsPacked}
use Rattle.wc_body.specs.Drafting.Kept.{IsWhole}

-- these entries are those of this body
abbrev AreOf : List Entry → Code Instr BlockType → Type 0
AreOf es code = marks es ≡ flatten code

-- the bytes of marks
abbrev emitted_marks : List (Mark Instr BlockType) → List ℕ
emitted_marks ms = emits code_pieces (λ s. s) tt ms

entry-emits : (e : Entry) (ms : List (Mark Instr BlockType))
    → entry_bytes e ++ emitted_marks ms ≡ emitted_marks (mark e ∷ ms)
entry-emits (Plain i) ms = refl
entry-emits (Begin Block t) ms = refl
entry-emits (Begin Loop t) ms = refl
entry-emits (Begin If t) ms = refl
entry-emits Else ms = refl
entry-emits End ms = refl

entries-emit : (es : List Entry) → flat_map entry_bytes es ≡ emitted_marks (marks es)
entries-emit [] = refl
entries-emit (e ∷ es) = ap (λ (x : List ℕ). entry_bytes e ++ x) (entries-emit es) ∙ entry-emits e (marks es)

entries-code : (es : List Entry) (code : Code Instr BlockType) → AreOf es code
    → flat_map entry_bytes es ≡ code_bytes code
entries-code es code is =
    entries-emit es ∙ ap emitted_marks is ∙ emits-flatten code_pieces (λ s. s) (λ s t. refl) tt code

-- ---- which fit

-- each number of the mark fits
abbrev MarkFits : Mark Instr BlockType → Type 0
MarkFits m = HoldsAt FitsInstr FitsBlockType m

-- each number of the marks fits
abbrev MarksFit : List (Mark Instr BlockType) → Type 0
MarksFit ms = AllMarks FitsInstr FitsBlockType ms

mark-fits : (e : Entry) → FitsEntry e → MarkFits (mark e)
mark-fits (Plain i) f = f
mark-fits (Begin Block t) f = f
mark-fits (Begin Loop t) f = f
mark-fits (Begin If t) f = f
mark-fits Else f = tt
mark-fits End f = tt

marks-fit : (es : List Entry) → AllByRecursion FitsEntry es → MarksFit (marks es)
marks-fit [] all = tt
marks-fit (e ∷ es) all = (mark-fits e all.0, marks-fit es all.1)

parts-fit : (es : List Entry) (code : Code Instr BlockType) → AreOf es code → AllByRecursion FitsEntry es
    → Throughout FitsInstr FitsBlockType code
parts-fit es code is all = AllMarks-flatten FitsInstr FitsBlockType code (subst MarksFit is (marks-fit es all))

-- ---- bytes by which whole instructions are kept

module _ (x : List ℕ) (p : IsPacked x) (w : IsWhole (marks (unpacked x))) where
  pub kept-bytes : x ≡ code_bytes (nested (unpacked x))
  kept-bytes = sym p.same ∙ entries-code (unpacked x) (nested (unpacked x)) (sym w.whole)

  pub kept-fits : FitsExpr (nested (unpacked x))
  kept-fits = (parts-fit (unpacked x) (nested (unpacked x)) (sym w.whole) p.fits, w.within)
