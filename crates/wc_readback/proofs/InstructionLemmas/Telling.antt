-- What the tokens of nested instructions say.
use Rattle.std.proofs.Common.{◌≡◌, ℕ, suc, ◌+◌, ◌<◌, ◌≤◌, List, [], ◌∷◌, ◌++◌, length, refl, sym, ap, subst, ◌∙◌}
use Rattle.std.proofs.Common.{arith, length-append, append_assoc}
use Rattle.wc_body.specs.declared.entry.Kind.TheVariants as kinds
use Rattle.wc_body.specs.declared.instr.BlockType.{BlockType}
use Rattle.wc_body.specs.declared.instr.Instr.{Instr}
use Rattle.wc_body.specs.Standard.Nested.{Region, block, loop, Code, empty, op, region, choice, plain, begin, begin_if}
use Rattle.wc_body.specs.Standard.Nested.{otherwise, close, ◌⧺◌, nesting, nesting_limit}
use Rattle.wc_body.specs.Standard.Draft.{Frame, in_region, in_then, in_else, Draft, draft, step}
use Rattle.wc_body.specs.Standard.Throughout.{Throughout}
use Rattle.wc_body.specs.Standard.InstructionBytes.{FitsInstr, FitsBlockType}
use Rattle.wc_body.specs.Stored.Rebuilt.{append-empty, append-assoc}
use Rattle.wc_surface.specs.declared.instr.TextInstr.{TextInstr}
use Rattle.wc_readback.specs.Grammar.Signs.{Sign}
use Rattle.wc_readback.specs.Grammar.InstructionSigns.{mark_signs}
use Rattle.wc_readback.specs.Grammar.Kept.{Said, said_from}
use Rattle.wc_readback.proofs.GrammarLemmas.Meaning.{said-append}
use Rattle.wc_readback.proofs.GrammarLemmas.Codes.{else_signs, end_signs, tree}
use Rattle.wc_parse_code.specs.declared.body_draft.BodyDraft.{BodyDraft}
use Rattle.wc_parse_code.specs.Drafting.Words.{place_behind}
use Rattle.wc_parse_code.specs.Drafting.Taking.{take}
use Rattle.wc_readback.specs.Instructions.Words.{word_of, taken}
use Rattle.wc_readback.specs.Instructions.Bodies.{Spot, behind, behind_else, behind_code, text_instr, text_code}
use Rattle.wc_readback.proofs.InstructionLemmas.Marks.{Holds, plains, said-of}
use Rattle.wc_readback.proofs.InstructionLemmas.Heads.{begins, turns, ends}

-- ---- the number of the token behind instructions

else-token : (two : Code Instr BlockType) (s : Spot)
    → (behind_code (behind_else two s) two).token ≡ length (tree two) + (behind_else two s).token
    → (behind_code (behind_else two s) two).token ≡ length (else_signs two (tree two)) + s.token
else-token empty s e = omega arith
else-token (op i next) s e = omega (arith, e)
else-token (region r t inside next) s e = omega (arith, e)
else-token (choice t one two next) s e = omega (arith, e)

pub token-behind : (s : Spot) (x : Code Instr BlockType) → (behind_code s x).token ≡ length (tree x) + s.token
token-behind s empty = omega arith
token-behind s (op i next) =
    let e = token-behind (behind s (plain i)) next in
    let l = length-append (mark_signs (plain i)) (tree next) in
    omega (arith, e, l)
token-behind s (region r t inside next) =
    let m = mark_signs (begin r t) in
    let e = token-behind (behind s (begin r t)) inside in
    let f = token-behind (behind (behind_code (behind s (begin r t)) inside) close) next in
    let l1 = length-append (m ++ (tree inside ++ end_signs)) (tree next) in
    let l2 = length-append m (tree inside ++ end_signs) in
    let l3 = length-append (tree inside) end_signs in
    omega (arith, e, f, l1, l2, l3)
token-behind s (choice t one two next) =
    let m = mark_signs (begin_if t) in
    let other = else_signs two (tree two) in
    let s2 = behind_code (behind s (begin_if t)) one in
    let e = token-behind (behind s (begin_if t)) one in
    let g = else-token two s2 (token-behind (behind_else two s2) two) in
    let f = token-behind (behind (behind_code (behind_else two s2) two) close) next in
    let l1 = length-append (m ++ (tree one ++ (other ++ end_signs))) (tree next) in
    let l2 = length-append m (tree one ++ (other ++ end_signs)) in
    let l3 = length-append (tree one) (other ++ end_signs) in
    let l4 = length-append other end_signs in
    omega (arith, e, f, g, l1, l2, l3, l4)

parts : (a b c d : List Sign) → a ++ (b ++ (c ++ d)) ≡ (a ++ (b ++ c)) ++ d
parts a b c d = simp append_assoc refl

module _ (addresses : ℕ → ℕ × ℕ) where
  taken-append : (d : BodyDraft) (a b : List Said)
      → taken addresses d (a ++ b) ≡ taken addresses (taken addresses d a) b
  taken-append d [] b = refl
  taken-append d (x ∷ a) b = taken-append (take d x.role (word_of addresses x)) a b

  -- the tokens from this number on
  abbrev pub told : BodyDraft → ℕ → List Sign → BodyDraft
  told d n ss = taken addresses d (said_from n ss)

  pub split : (d : BodyDraft) (n : ℕ) (a b : List Sign) → told (told d n a) (length a + n) b ≡ told d n (a ++ b)
  split d n a b =
      sym (taken-append d (said_from n a) (said_from (length a + n) b)) ∙ ap (taken addresses d) (said-append n a b)

  -- first these, and then those
  then-holds : {k : Draft TextInstr ℕ} {s : Spot} {b : List ℕ} (d : BodyDraft) (n m : ℕ) (us vs : List Sign)
      → m ≡ length us + n
      → Holds (told (told d n us) m vs) k s b → Holds (told d n (us ++ vs)) k s b
  then-holds {k} {s} {b} d n m us vs e h =
      subst (λ (x : BodyDraft). Holds x k s b) (ap (λ j. told (told d n us) j vs) e ∙ split d n us vs) h

  -- the same for equal instructions and equal tokens
  alike : {d : BodyDraft} {around : List (Frame TextInstr ℕ)} {x y : Code TextInstr ℕ} {s : Spot} {b : List ℕ} → x ≡ y
      → Holds d (draft around x) s b → Holds d (draft around y) s b
  alike {d} {around} {x} {y} {s} {b} e h = subst (λ (z : Code TextInstr ℕ). Holds d (draft around z) s b) e h

  same-signs : {k : Draft TextInstr ℕ} {s : Spot} {b : List ℕ} {us vs : List Sign} (d : BodyDraft) (n : ℕ) → us ≡ vs
      → Holds (told d n us) k s b → Holds (told d n vs) k s b
  same-signs {k} {s} {b} d n e h = subst (λ (x : List Sign). Holds (told d n x) k s b) e h

  -- a region begins
  region-begins : (d : BodyDraft) (k : Draft TextInstr ℕ) (s : Spot) (b : List ℕ) (r : Region) (t : BlockType)
      → FitsBlockType t → length k.around < nesting_limit → Holds d k s b
      → Holds (told d s.token (mark_signs (begin r t))) (step k (begin r (place_behind s.heads))) (behind s (begin r t))
      (place_behind s.heads ∷ b)
  region-begins d k s b block t fits lt h = begins addresses d k s b kinds.Block (begin block t) t fits lt h
  region-begins d k s b loop t fits lt h = begins addresses d k s b kinds.Loop (begin loop t) t fits lt h

  -- what is shown of instructions, wherever they stand
  abbrev Tells : Code Instr BlockType → Type 0
  Tells x = (d : BodyDraft) (around : List (Frame TextInstr ℕ)) (last : Code TextInstr ℕ) (s : Spot) (b : List ℕ)
      → nesting x + length around ≤ nesting_limit → Holds d (draft around last) s b
      → Holds (told d s.token (tree x)) (draft around (last ⧺ text_code s x)) (behind_code s x) b

  -- an else part with an instruction, and the end
  other-part : (two : Code Instr BlockType) → Tells two → (d : BodyDraft) (around : List (Frame TextInstr ℕ))
      (last first : Code TextInstr ℕ) (p : ℕ) (s : Spot) (b : List ℕ)
      → nesting two + suc (length around) ≤ nesting_limit
      → Holds d (draft (in_then last p ∷ around) first) s (p ∷ b)
      → Holds (told d s.token (mark_signs otherwise ++ (tree two ++ end_signs)))
      (draft around (last ⧺ choice p first (text_code (behind s otherwise) two) empty))
      (behind (behind_code (behind s otherwise) two) close) b
  other-part two tell d around last first p s b le h =
      let s1 = behind s otherwise in
      let d1 = told d s.token (mark_signs otherwise) in
      let inner = in_else last p first ∷ around in
      let told-two = tell d1 inner empty s1 (p ∷ b) le (turns addresses d (draft (in_then last p
      ∷ around) first) s p b h) in
      then-holds d s.token s1.token (mark_signs otherwise) (tree two ++ end_signs) refl
      (then-holds d1 s1.token (behind_code s1 two).token (tree two) end_signs (token-behind s1 two)
      (ends addresses (told d1 s1.token (tree two)) (draft inner (text_code s1 two)) (behind_code s1 two) p b told-two))

  -- an else part that may be empty, and the end
  else-part : (two : Code Instr BlockType) → Tells two → (d : BodyDraft) (around : List (Frame TextInstr ℕ))
      (last first : Code TextInstr ℕ) (p : ℕ) (s : Spot) (b : List ℕ)
      → nesting two + suc (length around) ≤ nesting_limit
      → Holds d (draft (in_then last p ∷ around) first) s (p ∷ b)
      → Holds (told d s.token (else_signs two (tree two) ++ end_signs))
      (draft around (last ⧺ choice p first (text_code (behind_else two s) two) empty))
      (behind (behind_code (behind_else two s) two) close) b
  else-part empty tell d around last first p s b le h = ends addresses d (draft (in_then last p ∷ around) first) s p b h
  else-part (op i next) tell d around last first p s b le h = other-part (op i next) tell d around last first p s b le h
  else-part (region r t inside next) tell d around last first p s b le h =
      other-part (region r t inside next) tell d around last first p s b le h
  else-part (choice t one two next) tell d around last first p s b le h =
      other-part (choice t one two next) tell d around last first p s b le h

  pub tells : (d : BodyDraft) (around : List (Frame TextInstr ℕ)) (last : Code TextInstr ℕ) (s : Spot) (b : List ℕ)
      (x : Code Instr BlockType) → Throughout FitsInstr FitsBlockType x → nesting x + length around ≤ nesting_limit
      → Holds d (draft around last) s b
      → Holds (told d s.token (tree x)) (draft around (last ⧺ text_code s x)) (behind_code s x) b
  tells d around last s b empty fits le h = alike (sym (append-empty last)) h
  tells d around last s b (op i next) fits le h =
      let s1 = behind s (plain i) in
      then-holds d s.token s1.token (mark_signs (plain i)) (tree next) refl
      (alike (append-assoc last (op (text_instr s i) empty) (text_code s1 next))
      (tells (said-of addresses d s (plain i)) around (last ⧺ op (text_instr s i) empty) s1 b next fits.1 (omega (
        arith,
        le,
      ))
      (plains addresses d (draft around last) s b i fits.0 h)))
  tells d around last s b (region r t inside next) fits le h =
      let m = mark_signs (begin r t) in
      let p = place_behind s.heads in
      let s1 = behind s (begin r t) in
      let s2 = behind_code s1 inside in
      let s3 = behind s2 close in
      let d1 = told d s.token m in
      let d2 = told d1 s1.token (tree inside) in
      let frame = in_region last r p in
      let within = text_code s1 inside in
      let after = text_code s3 next in
      let begun = region-begins d (draft around last) s b r t fits.0 (omega (arith, le)) h in
      let told-inside = tells d1 (frame ∷ around) empty s1 (p ∷ b) inside fits.1 (omega (arith, le)) begun in
      let ended = ends addresses d2 (draft (frame ∷ around) within) s2 p b told-inside in
      same-signs d s.token (parts m (tree inside) end_signs (tree next))
      (then-holds d s.token s1.token m (tree inside ++ (end_signs ++ tree next)) refl
      (then-holds d1 s1.token s2.token (tree inside) (end_signs ++ tree next) (token-behind s1 inside)
      (then-holds d2 s2.token s3.token end_signs (tree next) refl
      (alike (append-assoc last (region r p within empty) after)
      (tells (told d2 s2.token end_signs) around (last ⧺ region r p within empty) s3 b next fits.2 (omega (
        arith,
        le,
      )) ended)))))
  tells d around last s b (choice t one two next) fits le h =
      let m = mark_signs (begin_if t) in
      let p = place_behind s.heads in
      let s1 = behind s (begin_if t) in
      let s2 = behind_code s1 one in
      let s3 = behind_else two s2 in
      let s4 = behind (behind_code s3 two) close in
      let d1 = told d s.token m in
      let d2 = told d1 s1.token (tree one) in
      let frame = in_then last p in
      let within = text_code s1 one in
      let other = else_signs two (tree two) ++ end_signs in
      let both = choice p within (text_code s3 two) empty in
      let begun = begins addresses d (draft around last) s b kinds.If (begin_if t) t fits.0 (omega (arith, le)) h in
      let told-one = tells d1 (frame ∷ around) empty s1 (p ∷ b) one fits.1 (omega (arith, le)) begun in
      let ended = else-part two (λ d around last s b le h. tells d around last s b two fits.2 le h)
      d2 around last within p s2 b (omega (arith, le)) told-one in
      let number = else-token two s2 (token-behind s3 two) in
      let l = length-append (else_signs two (tree two)) end_signs in
      same-signs d s.token (parts m (tree one) other (tree next))
      (then-holds d s.token s1.token m (tree one ++ (other ++ tree next)) refl
      (then-holds d1 s1.token s2.token (tree one) (other ++ tree next) (token-behind s1 one)
      (then-holds d2 s2.token s4.token other (tree next) (omega (arith, number, l))
      (alike (append-assoc last both (text_code s4 next))
      (tells (told d2 s2.token other) around (last ⧺ both) s4 b next fits.3 (omega (arith, le)) ended)))))
