-- Instructions of a field, token by token.
use Rattle.std.proofs.Common.{◌≡◌, ℕ, suc, ◌==◌, Bool, true, false, List, [], ◌∷◌, ◌++◌, refl, ap, ◌∙◌}
use Rattle.std.proofs.Common.{Option, Some, None}
use Rattle.std.specs.Prelude.{if◌then◌else◌}
use Rattle.std.specs.List.{AllByRecursion, flat_map}
use Rattle.wc_ops.specs.Standard.Opcodes.{memory}
use Rattle.wc_body.specs.declared.instr.BlockType.{BlockType}
use Rattle.wc_body.specs.declared.instr.BlockType.TheVariants as block_types
use Rattle.wc_body.specs.declared.instr.Instr.{Instr}
use Rattle.wc_body.specs.declared.instr.Instr.TheVariants as instrs
use Rattle.wc_body.specs.Standard.Nested.{Code, empty, op, region, choice, Mark, plain, begin, begin_if, otherwise}
use Rattle.wc_body.specs.Standard.Nested.{close}
use Rattle.wc_body.specs.Standard.Nested.{flatten}
use Rattle.wc_syntax.specs.declared.role.Role.{Role}
use Rattle.wc_syntax.specs.declared.role.Role.TheVariants as role
use Rattle.wc_surface.specs.declared.field.Field.{Field}
use Rattle.wc_readback.specs.Grammar.Signs.{Sign}
use Rattle.wc_readback.specs.Grammar.InstructionSigns.{naturals, block_signs, operand_signs, mark_signs, code_signs}
use Rattle.wc_readback.specs.Grammar.Kept.{Said, said_as, said_before, said_from}
use Rattle.wc_parse_code.specs.declared.word.Word.{Word}
use Rattle.wc_parse_code.specs.declared.body_draft.BodyDraft.{BodyDraft}
use Rattle.wc_parse_code.specs.Drafting.Taking.{take}
use Rattle.wc_parse_field.specs.declared.field_draft.FieldDraft.{FieldDraft}
use Rattle.wc_parse.specs.Kept.Texts.{Item, take_by, take_items}
use Rattle.wc_parse.specs.declared.text_draft.TextDraft.{TextDraft}
use Rattle.wc_readback.specs.Instructions.Words.{word_of, taken}
use Rattle.wc_readback.specs.Fields.Items.{bytes_in, item_before, items_from}
use Rattle.wc_readback.proofs.FieldLemmas.Taking.{state, read}

-- the roles of tokens that belong to instructions
abbrev of_code : Role → Bool
of_code role.Plain = true
of_code role.Begin = true
of_code role.Else = true
of_code role.End = true
of_code role.Index = true
of_code role.MemOffset = true
of_code role.MemAlign = true
of_code role.Literal = true
of_code role.TypeIndex = true
of_code role.ResultType = true
of_code _ = false

abbrev part_of_code : Option Role → Bool
part_of_code None = true
part_of_code (Some r) = of_code r

abbrev IsCode : Sign → Type 0
IsCode s = part_of_code s.role ≡ true

-- a field with these instructions so far
abbrev pub coded : FieldDraft → Bool → BodyDraft → FieldDraft
coded d h b = record d { code = record { begun = h; body = b } }

one : (fs : List Field) (d : FieldDraft) (b : BodyDraft) (r : Role) (w : Word) (bytes : List ℕ) → of_code r ≡ true
    → take_by r w bytes (state fs (coded d true b)) ≡ state fs (coded d true (take b r w))
one fs d b role.Plain w bytes e = refl
one fs d b role.Begin w bytes e = refl
one fs d b role.Else w bytes e = refl
one fs d b role.End w bytes e = refl
one fs d b role.Index w bytes e = refl
one fs d b role.MemOffset w bytes e = refl
one fs d b role.MemAlign w bytes e = refl
one fs d b role.Literal w bytes e = refl
one fs d b role.TypeIndex w bytes e = refl
one fs d b role.ResultType w bytes e = refl
one fs d b _ w bytes e = absurd cc

-- ---- lists of signs

all-append : (a b : List Sign) → AllByRecursion IsCode a → AllByRecursion IsCode b → AllByRecursion IsCode (a ++ b)
all-append [] b h k = k
all-append (s ∷ a) b h k = (h.0, all-append a b h.1 k)

numbers-code : (ns : List ℕ) → AllByRecursion IsCode (naturals role.Index ns)
numbers-code [] = tt
numbers-code (n ∷ ns) = (refl, numbers-code ns)

if-code : (b : Bool) (s : Sign) → IsCode s → AllByRecursion IsCode (if b then [] else s ∷ [])
if-code true s h = tt
if-code false s h = (h, tt)

operands-code : (i : Instr) → AllByRecursion IsCode (operand_signs i)
operands-code (instrs.Simple o) = tt
operands-code (instrs.Index o n) = (refl, tt)
operands-code (instrs.Mem o arg) =
    all-append _ _ (if-code (arg.offset == 0) _ refl) (if-code (arg.align == (memory o).alignment) _ refl)
operands-code (instrs.BrTable n ns) = all-append _ _ (numbers-code ns) (refl, tt)
operands-code (instrs.CallIndirect n) = (refl, (refl, (refl, (refl, tt))))
operands-code (instrs.I32Const z) = (refl, tt)
operands-code (instrs.I64Const z) = (refl, tt)

block-code : (t : BlockType) → AllByRecursion IsCode (block_signs t)
block-code block_types.Empty = tt
block-code (block_types.Value t) = (refl, (refl, (refl, (refl, tt))))
block-code (block_types.Index n) = (refl, (refl, (refl, (refl, tt))))

mark-code : (m : Mark Instr BlockType) → AllByRecursion IsCode (mark_signs m)
mark-code (plain i) = (refl, operands-code i)
mark-code (begin r t) = (refl, block-code t)
mark-code (begin_if t) = (refl, block-code t)
mark-code otherwise = (refl, tt)
mark-code close = (refl, tt)

marks-code : (ms : List (Mark Instr BlockType)) → AllByRecursion IsCode (flat_map mark_signs ms)
marks-code [] = tt
marks-code (m ∷ ms) = all-append (mark_signs m) (flat_map mark_signs ms) (mark-code m) (marks-code ms)

-- ---- instructions

-- an instruction has begun
abbrev pub begun : Code Instr BlockType → Bool
begun empty = false
begun (op i next) = true
begun (region r t inside next) = true
begun (choice t one two next) = true

module _ (addresses : ℕ → ℕ × ℕ) (fs : List Field) (d : FieldDraft) where
  before : (r : Option Role) (n : ℕ) (s : Sign) (b : BodyDraft) (is : List Item) (later : List Said)
      → ((b : BodyDraft) → take_items (state fs (coded d true b)) is
      ≡ state fs (coded d true (taken addresses b later)))
      → part_of_code r ≡ true
      → take_items (state fs (coded d true b)) (item_before addresses r n s is)
      ≡ state fs (coded d true (taken addresses b (said_before r n s later)))
  before None n s b is later h e = h b
  before (Some r) n s b is later h e =
      let w = word_of addresses (said_as r n s) in
      ap (λ (x : TextDraft). take_items x is) (one fs d b r w (bytes_in s.token) e) ∙ h (take b r w)

  codes : (n : ℕ) (b : BodyDraft) (ss : List Sign) → AllByRecursion IsCode ss
      → read addresses (state fs (coded d true b)) n ss ≡ state fs (coded d true (taken addresses b (said_from n ss)))
  codes n b [] h = refl
  codes n b (s ∷ ss) h =
      before s.role n s b (items_from addresses (suc n) ss) (said_from (suc n) ss) (λ b. codes (suc n) b ss h.1) h.0

  pub body : (n : ℕ) (b : BodyDraft) (x : Code Instr BlockType)
      → read addresses (state fs (coded d false b)) n (code_signs x)
      ≡ state fs (coded d (begun x) (taken addresses b (said_from n (code_signs x))))
  body n b empty = refl
  body n b (op i next) = codes (suc n) _ _ (marks-code (flatten (op i next))).1
  body n b (region r t inside next) = codes (suc n) _ _ (marks-code (flatten (region r t inside next))).1
  body n b (choice t one two next) = codes (suc n) _ _ (marks-code (flatten (choice t one two next))).1
