-- What stands in a body up to a place among its instructions.
use Rattle.std.proofs.Common.{◌≡◌, ℕ, ◌+◌, ◌<◌, ◌≤◌, ◌^◌, List, [], ◌∷◌, ◌++◌, length, refl, sym, ◌∙◌, arith}
use Rattle.std.proofs.Common.{append_assoc, length-append}
use Rattle.std.proofs.lemmas.List.{append-nil, length-map}
use Rattle.std.specs.Prelude.{None}
use Rattle.wc_body.specs.declared.instr.BlockType.{BlockType}
use Rattle.wc_body.specs.declared.instr.BlockType.TheVariants as block_types
use Rattle.wc_body.specs.declared.instr.Instr.{Instr}
use Rattle.wc_body.specs.declared.instr.Instr.TheVariants as instrs
use Rattle.wc_body.specs.Standard.Nested.{Code, empty, op, region, choice, Mark, plain, begin, begin_if, otherwise}
use Rattle.wc_body.specs.Standard.Nested.{close}
use Rattle.wc_surface.specs.declared.head.Head.{Head}
use Rattle.wc_surface.specs.declared.head.TextBody.{TextBody}
use Rattle.wc_surface.specs.declared.instr.Operand.{Operand}
use Rattle.wc_surface.specs.declared.type_use.TypeUse.{TypeUse}
use Rattle.wc_readback.specs.Grammar.InstructionSigns.{mark_signs, code_signs}
use Rattle.wc_readback.proofs.GrammarLemmas.Codes.{tree, flat-same}
use Rattle.wc_parse_code.specs.Drafting.Heads.{head_of}
use Rattle.wc_readback.specs.Instructions.Bodies.{Spot, start, instr_uses, instr_labels, block_uses, head_type}
use Rattle.wc_readback.specs.Instructions.Bodies.{behind_head, behind, behind_else, behind_code, text_body}
use Rattle.wc_readback.proofs.InstructionLemmas.Telling.{token-behind}

-- the lists of the body begin with what stands up to the place
pub record Reached (s : Spot) (b : TextBody) : Type 0 where
  pub more_heads : List Head
  pub more_uses : List TypeUse
  pub more_labels : List Operand
  pub heads_are : b.heads ≡ s.heads ++ more_heads
  pub uses_are : b.uses ≡ s.uses ++ more_uses
  pub labels_are : b.labels ≡ s.labels ++ more_labels

pub at-end : (token : ℕ) (x : Code Instr BlockType) → Reached (behind_code (start token) x) (text_body token x)
at-end token x = record {
  more_heads = [];
  more_uses = [];
  more_labels = [];
  heads_are = sym (append-nil _);
  uses_are = sym (append-nil _);
  labels_are = sym (append-nil _);
}

module _ (b : TextBody) where
  pub before-instr : (s : Spot) (i : Instr) → Reached (behind s (plain i)) b → Reached s b
  before-instr s i r = record {
    more_heads = r.more_heads;
    more_uses = instr_uses s.token i ++ r.more_uses;
    more_labels = instr_labels i ++ r.more_labels;
    heads_are = r.heads_are;
    uses_are = r.uses_are ∙ append_assoc s.uses (instr_uses s.token i) r.more_uses;
    labels_are = r.labels_are ∙ append_assoc s.labels (instr_labels i) r.more_labels;
  }

  pub before-head : (s : Spot) (m : Mark Instr BlockType) (t : BlockType) → Reached (behind_head s m t) b → Reached s b
  before-head s m t r = record {
    more_heads = head_of s.token None (head_type s.uses t) ∷ r.more_heads;
    more_uses = block_uses s.token t ++ r.more_uses;
    more_labels = r.more_labels;
    heads_are = r.heads_are ∙ append_assoc s.heads (head_of s.token None (head_type s.uses t) ∷ []) r.more_heads;
    uses_are = r.uses_are ∙ append_assoc s.uses (block_uses s.token t) r.more_uses;
    labels_are = r.labels_are;
  }

  pub before-mark : (s : Spot) (m : Mark Instr BlockType) (t : ℕ) → Reached (record s { token = t }) b → Reached s b
  before-mark s m t r = record {
    more_heads = r.more_heads;
    more_uses = r.more_uses;
    more_labels = r.more_labels;
    heads_are = r.heads_are;
    uses_are = r.uses_are;
    labels_are = r.labels_are;
  }

  pub before-close : (s : Spot) → Reached (behind s close) b → Reached s b
  before-close s r = before-mark s close (behind s close).token r

  pub before-else : (two : Code Instr BlockType) (s : Spot) → Reached (behind_else two s) b → Reached s b
  before-else empty s r = r
  before-else (op i next) s r = before-mark s otherwise (behind s otherwise).token r
  before-else (region h t inside next) s r = before-mark s otherwise (behind s otherwise).token r
  before-else (choice t one two next) s r = before-mark s otherwise (behind s otherwise).token r

  pub before-code : (x : Code Instr BlockType) (s : Spot) → Reached (behind_code s x) b → Reached s b
  before-code empty s r = r
  before-code (op i next) s r = before-instr s i (before-code next (behind s (plain i)) r)
  before-code (region h t inside next) s r =
      let within = behind s (begin h t) in
      let ended = behind_code within inside in
      before-head s (begin h t) t
      (before-code inside within (before-close ended (before-code next (behind ended close) r)))
  before-code (choice t one two next) s r =
      let within = behind s (begin_if t) in
      let first = behind_code within one in
      let turned = behind_else two first in
      let ended = behind_code turned two in
      before-head s (begin_if t) t
      (before-code one within (before-else two first
      (before-code two turned (before-close ended (before-code next (behind ended close) r)))))

-- ---- how many there are: no more than tokens

-- no list has grown more than the number of the token
pub record Grown (s t : Spot) : Type 0 where
  pub heads : length t.heads + s.token ≤ t.token + length s.heads
  pub uses : length t.uses + s.token ≤ t.token + length s.uses
  pub labels : length t.labels + s.token ≤ t.token + length s.labels

stays : (s : Spot) → Grown s s
stays s = record { heads = omega arith; uses = omega arith; labels = omega arith }

then-grown : {s t u : Spot} → Grown s t → Grown t u → Grown s u
then-grown {s} {t} {u} g h = record {
  heads = omega (arith, g.heads, h.heads);
  uses = omega (arith, g.uses, h.uses);
  labels = omega (arith, g.labels, h.labels);
}

label-count : (i : Instr) → length (instr_labels i) ≤ length (mark_signs (plain i))
label-count (instrs.Simple o) = omega arith
label-count (instrs.Index o n) = omega arith
label-count (instrs.Mem o arg) = omega arith
label-count (instrs.BrTable default labels) =
    let e : length (instr_labels (instrs.BrTable default labels)) ≡ length labels + 1 =
    simp (length-append, length-map) refl in
    let f : length (mark_signs (plain (instrs.BrTable default labels))) ≡ length labels + 2 =
    simp (length-append, length-map) (omega arith) in
    omega (arith, e, f)
label-count (instrs.CallIndirect n) = omega arith
label-count (instrs.I32Const z) = omega arith
label-count (instrs.I64Const z) = omega arith

use-count : (token : ℕ) (i : Instr) → length (instr_uses token i) ≤ length (mark_signs (plain i))
use-count token (instrs.Simple o) = omega arith
use-count token (instrs.Index o n) = omega arith
use-count token (instrs.Mem o arg) = omega arith
use-count token (instrs.BrTable default labels) = omega arith
use-count token (instrs.CallIndirect n) = omega arith
use-count token (instrs.I32Const z) = omega arith
use-count token (instrs.I64Const z) = omega arith

instr-grown : (s : Spot) (i : Instr) → Grown s (behind s (plain i))
instr-grown s i = record {
  heads = omega arith;
  uses = omega (arith, use-count s.token i, length-append s.uses (instr_uses s.token i));
  labels = omega (arith, label-count i, length-append s.labels (instr_labels i));
}

block-count : (token : ℕ) (t : BlockType) → length (block_uses token t) ≤ 1
block-count token block_types.Empty = omega arith
block-count token (block_types.Value t) = omega arith
block-count token (block_types.Index n) = omega arith

head-grown : (s : Spot) (m : Mark Instr BlockType) (t : BlockType) → 0 < length (mark_signs m)
    → Grown s (behind_head s m t)
head-grown s m t lt = record {
  heads = omega (arith, length-append s.heads (head_of s.token None (head_type s.uses t) ∷ []));
  uses = omega (arith, block-count s.token t, length-append s.uses (block_uses s.token t));
  labels = omega arith;
}

mark-grown : (s : Spot) (n : ℕ) → Grown s (record s { token = n + s.token })
mark-grown s n = record { heads = omega arith; uses = omega arith; labels = omega arith }

else-grown : (two : Code Instr BlockType) (s : Spot) → Grown s (behind_else two s)
else-grown empty s = stays s
else-grown (op i next) s = mark-grown s (length (mark_signs otherwise))
else-grown (region h t inside next) s = mark-grown s (length (mark_signs otherwise))
else-grown (choice t one two next) s = mark-grown s (length (mark_signs otherwise))

grown : (x : Code Instr BlockType) (s : Spot) → Grown s (behind_code s x)
grown empty s = stays s
grown (op i next) s = then-grown (instr-grown s i) (grown next (behind s (plain i)))
grown (region h t inside next) s =
    let within = behind s (begin h t) in
    let ended = behind_code within inside in
    then-grown (head-grown s (begin h t) t (omega arith))
    (then-grown (grown inside within)
    (then-grown (mark-grown ended (length (mark_signs close))) (grown next (behind ended close))))
grown (choice t one two next) s =
    let within = behind s (begin_if t) in
    let first = behind_code within one in
    let turned = behind_else two first in
    let ended = behind_code turned two in
    then-grown (head-grown s (begin_if t) t (omega arith))
    (then-grown (grown one within)
    (then-grown (else-grown two first)
    (then-grown (grown two turned)
    (then-grown (mark-grown ended (length (mark_signs close))) (grown next (behind ended close))))))

-- each place in the lists of the body fits 32 bits
pub record HasRoom (b : TextBody) : Type 0 where
  pub heads : length b.heads < 2 ^ 32
  pub uses : length b.uses < 2 ^ 32
  pub labels : length b.labels < 2 ^ 32

pub has-room : (token : ℕ) (x : Code Instr BlockType) → length (code_signs x) < 2 ^ 32 → HasRoom (text_body token x)
has-room token x lt =
    let g = grown x (start token) in
    let e = token-behind (start token) x in
    let same : code_signs x ≡ tree x = flat-same x [] ∙ append-nil (tree x) in
    let l : length (tree x) < 2 ^ 32 = rw (← same) lt in
    record {
      heads = omega (arith, g.heads, e, l);
      uses = omega (arith, g.uses, e, l);
      labels = omega (arith, g.labels, e, l);
    }
