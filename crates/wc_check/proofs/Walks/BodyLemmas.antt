-- The walk over the marks of a body.
use Rattle.std.proofs.Common.{◌≡◌, ℕ, ◌-◌, ◌≤◌, List, [], ◌∷◌, length, Result, refl, ap, arith}
use Rattle.std.proofs.lemmas.List.{length-append}
use Rattle.wc_body.specs.declared.instr.BlockType.{BlockType}
use Rattle.wc_body.specs.declared.instr.Instr as instr
use Rattle.wc_body.specs.Standard.Nested.{block, loop, Code, Mark, plain, begin, begin_if, otherwise, close, flatten}
use Rattle.wc_body.specs.Standard.InstructionBytes.{code_bytes, code_pieces, rest_bytes, block_type_bytes}
use Rattle.wc_body.specs.Standard.Placed.{deeper}
use Rattle.wc_body.proofs.Codes.Emitting.{emits, emits-flatten}
use Rattle.wc_body.proofs.Codes.Walks.{met, met-flatten, deeper-back}
use Rattle.wc_check.specs.declared.context.Context.{Context}
use Rattle.wc_check.specs.declared.fault.CheckFault.{CheckFault}
use Rattle.wc_check.specs.Standard.Rules.{each}
use Rattle.wc_check.specs.Judging.Verdicts.{verdict}
use Rattle.wc_check.specs.Standard.InstructionRules.{broken_instr, broken_in_body}

-- the bytes of these marks
abbrev mark_bytes : List (Mark instr.Instr BlockType) → List ℕ
mark_bytes ms = emits code_pieces (λ s. s) tt ms

no-longer : (ms : List (Mark instr.Instr BlockType)) → length ms ≤ length (mark_bytes ms)
no-longer [] = omega arith
no-longer (plain i ∷ ms) = omega (arith, no-longer ms, length-append (rest_bytes i) (mark_bytes ms))
no-longer (begin block t ∷ ms) = omega (arith, no-longer ms, length-append (block_type_bytes t) (mark_bytes ms))
no-longer (begin loop t ∷ ms) = omega (arith, no-longer ms, length-append (block_type_bytes t) (mark_bytes ms))
no-longer (begin_if t ∷ ms) = omega (arith, no-longer ms, length-append (block_type_bytes t) (mark_bytes ms))
no-longer (otherwise ∷ ms) = omega (arith, no-longer ms)
no-longer (close ∷ ms) = omega (arith, no-longer ms)

-- a body has no more marks than bytes
pub few-marks : (body : Code instr.Instr BlockType) → length (flatten body) ≤ length (code_bytes body)
few-marks body =
    let same = ap length (emits-flatten code_pieces (λ s. s) (λ s h. refl) tt body) in
    omega (arith, no-longer (flatten body), same)

module _ (context : Context) (locals func : ℕ) where
  -- the answer for these marks, from an instruction of this number on, which so many enclose
  abbrev pub walked : ℕ → ℕ → List (Mark instr.Instr BlockType) → Result (Unit {0}) CheckFault
  walked n enclosing ms = verdict (each (broken_instr context locals func) n (met deeper (λ k. k - 1) enclosing ms))

  pub walked-all : (body : Code instr.Instr BlockType)
      → walked 0 0 (flatten body) ≡ verdict (broken_in_body context locals func body)
  walked-all body =
      ap (λ xs. verdict (each (broken_instr context locals func) 0 xs))
      (met-flatten deeper (λ k. k - 1) deeper-back 0 body)
