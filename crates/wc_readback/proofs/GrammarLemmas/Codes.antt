-- Instructions are derived, each with those nested in it.
use Rattle.std.proofs.Common.{◌≡◌, ℕ, zero, suc, ◌≤◌, ◌==◌, List, [], ◌∷◌, ◌++◌, refl, sym, ap}
use Rattle.std.proofs.Common.{◌∙◌, subst, append_assoc, arith}
use Rattle.std.specs.List.{AllByRecursion, flat_map}
use Rattle.std.proofs.lemmas.List.{append-nil}
use Rattle.wc_ops.specs.declared.op.Op.TheVariants as ops
use Rattle.wc_ops.specs.Standard.Opcodes.{memory}
use Rattle.wc_body.specs.declared.instr.BlockType.{BlockType}
use Rattle.wc_body.specs.declared.instr.Instr.{Instr}
use Rattle.wc_body.specs.declared.instr.Instr.TheVariants as instrs
use Rattle.wc_body.specs.Standard.Nested.{Region, block, loop, Code, empty, op, region, choice, Mark, plain, begin}
use Rattle.wc_body.specs.Standard.Nested.{begin_if, close, else_mark, flat, nesting}
use Rattle.wc_body.specs.Standard.Throughout.{Throughout}
use Rattle.wc_body.specs.Standard.ValueBytes.{Fits32}
use Rattle.wc_body.specs.Standard.InstructionBytes.{FitsInstr, FitsBlockType}
use Rattle.wc_syntax.specs.declared.kind.Kind.TheVariants as kind
use Rattle.wc_syntax.specs.declared.role.Role.TheVariants as role
use Rattle.wc_syntax.specs.Standard.Phrases.{Keep, ◌·◌, Many, Maybe, The, instr}
use Rattle.wc_syntax.specs.Standard.Types.{index}
use Rattle.wc_syntax.specs.Standard.Instructions.{memarg, plaininstr, end_id, instrs as instrs_phrase}
use Rattle.wc_symbols.specs.declared.symbol.Value.TheVariants.{Offset}
use Rattle.wc_readback.specs.Grammar.Signs.{Sign, kept_key, op_sign, natural}
use Rattle.wc_readback.specs.Grammar.InstructionSigns.{naturals, offset_signs, align_signs, region_op, mark_signs}
use Rattle.wc_readback.specs.Grammar.InstructionSigns.{code_signs}
use Rattle.wc_readback.proofs.GrammarLemmas.Symbols.{says-offset, says-align}
use Rattle.wc_readback.proofs.GrammarLemmas.Meaning.{Means, kept-in, both, first, nothing, in-left, in-right, by-rule}
use Rattle.wc_readback.proofs.GrammarLemmas.Meaning.{no-more, one-more, skip, just, maybe-if}
use Rattle.wc_readback.proofs.GrammarLemmas.Parts.{kept-means, op-means, index-means, literal32-means, literal64-means}
use Rattle.wc_readback.proofs.GrammarLemmas.Parts.{typeuse-means, head-means}

-- ---- one instruction

memarg-means : (natural offset align : ℕ) → Fits32 offset
    → Means memarg (offset_signs offset ++ align_signs natural align)
memarg-means natural offset align lt =
    both (maybe-if (offset == 0) (kept-in role.MemOffset _ kind.MemOffset (Offset offset) (says-offset offset lt)))
    (maybe-if (align == natural) (kept-in role.MemAlign _ kind.MemAlign _ (says-align align)))

-- numbers, of which there is one at least
some-indices : (ns : List ℕ) (n : ℕ) → AllByRecursion Fits32 ns → Fits32 n
    → Means (Many (index role.Index)) (naturals role.Index ns ++ (natural role.Index n ∷ []))
some-indices [] n h lt = just (index-means role.Index n lt)
some-indices (k ∷ ns) n h lt = one-more (index-means role.Index k h.0) (some-indices ns n h.1 lt)

labels-means : (ns : List ℕ) (n : ℕ) → AllByRecursion Fits32 ns → Fits32 n
    → Means (index role.Index · Many (index role.Index)) (naturals role.Index ns ++ (natural role.Index n ∷ []))
labels-means [] n h lt = first (index-means role.Index n lt) no-more
labels-means (k ∷ ns) n h lt = first (index-means role.Index k h.0) (some-indices ns n h.1 lt)

pub plain-means : (i : Instr) → FitsInstr i → Means (plaininstr role.Plain) (mark_signs (plain i))
plain-means (instrs.Simple o) h = in-left (op-means role.Plain (ops.Simple o))
plain-means (instrs.Index o n) h = in-right (in-left (first (op-means role.Plain (ops.Index o))
    (index-means role.Index n h)))
plain-means (instrs.BrTable n ns) h =
    in-right (in-right (in-left (first (op-means role.Plain ops.BrTable) (labels-means ns n h.0.1 h.1))))
plain-means (instrs.CallIndirect n) h =
    in-right (in-right (in-right (in-left (first (op-means role.Plain ops.CallIndirect) (typeuse-means n h)))))
plain-means (instrs.Mem o arg) h =
    in-right (in-right (in-right (in-right (in-left
    (first (op-means role.Plain (ops.Mem o)) (memarg-means (memory o).alignment arg.offset arg.align h.1))))))
plain-means (instrs.I32Const z) h =
    in-right (in-right (in-right (in-right (in-right (in-left
    (first (op-means role.Plain ops.I32Const) (literal32-means z h)))))))
plain-means (instrs.I64Const z) h =
    in-right (in-right (in-right (in-right (in-right (in-right
    (first (op-means role.Plain ops.I64Const) (literal64-means z h)))))))

-- ---- nested instructions

-- the else part of an if, where these are the signs of its instructions
abbrev pub else_signs : Code Instr BlockType → List Sign → List Sign
else_signs empty ss = []
else_signs (op i next) ss = kept_key role.Else kind.ElseWord ∷ ss
else_signs (region r t inside next) ss = kept_key role.Else kind.ElseWord ∷ ss
else_signs (choice t one two next) ss = kept_key role.Else kind.ElseWord ∷ ss

abbrev pub end_signs : List Sign
end_signs = kept_key role.End kind.EndWord ∷ []

-- the same as code_signs, part by part
abbrev pub tree : Code Instr BlockType → List Sign
tree empty = []
tree (op i next) = mark_signs (plain i) ++ tree next
tree (region r t inside next) = (mark_signs (begin r t) ++ (tree inside ++ end_signs)) ++ tree next
tree (choice t one two next) =
    (mark_signs (begin_if t) ++ (tree one ++ (else_signs two (tree two) ++ end_signs))) ++ tree next

else-same : (two : Code Instr BlockType) (after : List (Mark Instr BlockType))
    → flat_map mark_signs (flat two after) ≡ tree two ++ flat_map mark_signs after
    → flat_map mark_signs (else_mark two (flat two after)) ≡ else_signs two (tree two) ++ flat_map mark_signs after
else-same empty after e = refl
else-same (op i next) after e = ap (λ (x : List Sign). kept_key role.Else kind.ElseWord ∷ x) e
else-same (region r t inside next) after e = ap (λ (x : List Sign). kept_key role.Else kind.ElseWord ∷ x) e
else-same (choice t one two next) after e = ap (λ (x : List Sign). kept_key role.Else kind.ElseWord ∷ x) e

-- three parts and a fourth
parts-3 : (a b c d : List Sign) → a ++ (b ++ (c ++ d)) ≡ (a ++ (b ++ c)) ++ d
parts-3 a b c d = simp append_assoc refl

parts-4 : (a b c d e : List Sign) → a ++ (b ++ (c ++ (d ++ e))) ≡ (a ++ (b ++ (c ++ d))) ++ e
parts-4 a b c d e = simp append_assoc refl

pub flat-same : (code : Code Instr BlockType) (after : List (Mark Instr BlockType))
    → flat_map mark_signs (flat code after) ≡ tree code ++ flat_map mark_signs after
flat-same empty after = refl
flat-same (op i next) after =
    ap (λ (x : List Sign). mark_signs (plain i) ++ x) (flat-same next after)
    ∙ sym (append_assoc (mark_signs (plain i)) (tree next) (flat_map mark_signs after))
flat-same (region r t inside next) after =
    ap (λ (x : List Sign). mark_signs (begin r t) ++ x)
    (flat-same inside (close ∷ flat next after) ∙ ap (λ (x : List Sign).
    tree inside ++ (end_signs ++ x)) (flat-same next after))
    ∙ (parts-3 (mark_signs (begin r t)) (tree inside) end_signs (tree next ++ flat_map mark_signs after)
    ∙ sym (append_assoc (mark_signs (begin r t) ++ (tree inside ++ end_signs)) (tree next) (flat_map mark_signs after)))
flat-same (choice t one two next) after =
    let rest = close ∷ flat next after in
    let last : flat_map mark_signs rest ≡ end_signs ++ (tree next ++ flat_map mark_signs after) =
    ap (λ (x : List Sign). end_signs ++ x) (flat-same next after) in
    let other : flat_map mark_signs (else_mark two (flat two rest)) ≡ else_signs two (tree two) ++ flat_map mark_signs
    rest =
    else-same two rest (flat-same two rest) in
    ap (λ (x : List Sign). mark_signs (begin_if t) ++ x)
    (flat-same one (else_mark two (flat two rest))
    ∙ ap (λ (x : List Sign). tree one ++ x) (other ∙ ap (λ (x : List Sign). else_signs two (tree two) ++ x) last))
    ∙ (parts-4 (mark_signs (begin_if t)) (tree one) (else_signs two (tree two)) end_signs
    (tree next ++ flat_map mark_signs after)
    ∙ sym (append_assoc (mark_signs (begin_if t) ++ (tree one ++ (else_signs two (tree two) ++ end_signs)))
    (tree next) (flat_map mark_signs after)))

-- ---- derived within the depth that is left

end-word : Means (Keep role.End kind.EndWord · end_id) end_signs
end-word = first (kept-means role.End kind.EndWord refl) (in-left nothing)

begin-means : (r : Region) → Means (Keep role.Begin kind.Region) (op_sign role.Begin (region_op r) ∷ [])
begin-means block = op-means role.Begin ops.Block
begin-means loop = op-means role.Begin ops.Loop

else-means : (d : ℕ) (two : Code Instr BlockType) (ss : List Sign) → Means (instrs_phrase d) ss
    → Means (Maybe (Keep role.Else kind.ElseWord · end_id · instrs_phrase d)) (else_signs two ss)
else-means d empty ss h = in-left nothing
else-means d (op i next) ss h = in-right (first (kept-means role.Else kind.ElseWord refl) (skip h))
else-means d (region r t inside next) ss h = in-right (first (kept-means role.Else kind.ElseWord refl) (skip h))
else-means d (choice t one two next) ss h = in-right (first (kept-means role.Else kind.ElseWord refl) (skip h))

plain-instr : (d : ℕ) (i : Instr) → FitsInstr i → Means (The (instr d)) (mark_signs (plain i))
plain-instr zero i h = by-rule (in-left (plain-means i h))
plain-instr (suc d) i h = by-rule (in-left (plain-means i h))

tree-means : (d : ℕ) (code : Code Instr BlockType) → Throughout FitsInstr FitsBlockType code → nesting code ≤ d
    → Means (instrs_phrase d) (tree code)
tree-means d empty h le = no-more
tree-means d (op i next) h le = one-more (plain-instr d i h.0) (tree-means d next h.1 le)
tree-means zero (region r t inside next) h le = absurd (omega (arith, le))
tree-means (suc d) (region r t inside next) h le =
    one-more
    (by-rule (in-right (in-right (in-left
    (first (begin-means r) (both (head-means t h.0) (both (tree-means d inside h.1 (omega (arith, le))) end-word)))))))
    (tree-means (suc d) next h.2 (omega (arith, le)))
tree-means zero (choice t one two next) h le = absurd (omega (arith, le))
tree-means (suc d) (choice t one two next) h le =
    one-more
    (by-rule (in-right (in-right (in-right (in-left
    (first (op-means role.Begin ops.If) (both (head-means t h.0) (both (tree-means d one h.1 (omega (arith, le)))
    (both (else-means d two (tree two) (tree-means d two h.2 (omega (arith, le)))) end-word)))))))))
    (tree-means (suc d) next h.3 (omega (arith, le)))

pub code-means : (d : ℕ) (code : Code Instr BlockType) → Throughout FitsInstr FitsBlockType code → nesting code ≤ d
    → Means (instrs_phrase d) (code_signs code)
code-means d code h le =
    subst (Means (instrs_phrase d)) (sym (flat-same code [] ∙ append-nil (tree code))) (tree-means d code h le)
