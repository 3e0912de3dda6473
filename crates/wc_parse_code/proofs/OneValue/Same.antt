-- Instructions say one value.
use Rattle.std.proofs.Common.{◌≡◌, List, [], ◌∷◌, Option, Some, None, true, false, refl, sym, ap, ◌∙◌, subst}
use Rattle.std.proofs.Common.{append-nil}
use Rattle.wc_ops.specs.declared.op.Op.{Op}
use Rattle.wc_ops.specs.declared.op.Op.TheVariants as op
use Rattle.wc_body.specs.Standard.Nested.{Region, Code}
use Rattle.wc_body.specs.Stored.Rebuilt.{append-empty}
use Rattle.wc_syntax.specs.declared.role.Role.{Role}
use Rattle.wc_syntax.specs.declared.role.Role.TheVariants as role
use Rattle.wc_symbols.specs.declared.symbol.Value.{Value}
use Rattle.wc_symbols.specs.declared.symbol.Value.TheVariants.{Instruction}
use Rattle.wc_surface.specs.Standard.Identifiers.{Identifier, identifier}
use Rattle.wc_surface.specs.Standard.Written.Instructions.{Plain, BlockType, Head, Instrs}
use Rattle.wc_parse_code.specs.Standard.Tokens.{KeptToken}
use Rattle.wc_parse_code.specs.Standard.Productions.Tokens.{Said, ◌⊳◌, bytes, IsId, NamesInstruction}
use Rattle.wc_parse_code.specs.Standard.Productions.Instructions.{IsRegion, block_word, loop_word, IsHead, head, Part}
use Rattle.wc_parse_code.specs.Standard.Productions.Instructions.{Says}
use Rattle.wc_parse_code.proofs.OneValue.Parts.{read-id, read_use, block_of, read-block}
use Rattle.wc_parse_code.proofs.OneValue.Plain.{same-plain}
use Rattle.wc_parse_code.proofs.OneValue.Reading.{Raw, Reading, is_use, read, AllRoles}
use Rattle.wc_parse_code.proofs.OneValue.Structure.{block-roles, Means, Reads, says-reads}

-- ---- heads

-- the label among these kept tokens
abbrev label_by : Role → KeptToken → Option Identifier → Option Identifier
label_by role.Label w i = Some (identifier w.token w.text)
label_by _ w i = i

-- the first one of all of them
abbrev label_in : List Said → Option Identifier
label_in [] = None
label_in (r ⊳ w ∷ us) = label_by r w (label_in us)

no-use : false ≡ true → ⊥
no-use e = cc

use-no-label : (r : Role) (w : KeptToken) (i : Option Identifier) → is_use r ≡ true → label_by r w i ≡ i
use-no-label role.Label w i e = absurd (no-use e)
use-no-label _ w i e = refl

no-label : {us : List Said} → AllRoles is_use us → label_in us ≡ None
no-label AllRoles.none = refl
no-label (AllRoles.more {r = r} {w = w} {us = us} e rest) =
    use-no-label r w (label_in us) e ∙ no-label rest

head-label : {ps : List Said} {l : Option Identifier} {t : BlockType} → IsHead ps l t → label_in ps ≡ l
head-label (IsHead.both IsId.absent b) = no-label (block-roles b)
head-label (IsHead.both (IsId.there (bytes e)) b) = refl

head-type : {ps : List Said} {l : Option Identifier} {t : BlockType} → IsHead ps l t → block_of (read_use ps) ≡ t
head-type (IsHead.both IsId.absent b) = read-block b
head-type (IsHead.both (IsId.there h) b) = read-block b

pub same-id : {r : Role} {us : List Said} {i j : Option Identifier} → IsId r us i → IsId r us j → i ≡ j
same-id a b = sym (read-id a) ∙ read-id b

same-parts : (w : KeptToken) {l m i j x y : Option Identifier} {t u : BlockType} → l ≡ m → t ≡ u → i ≡ j → x ≡ y
    → head w l t i x ≡ head w m u j y
same-parts w p q r s = cc

same-head : (w : KeptToken) {ps : List Said} {l m i j x y : Option Identifier} {t u : BlockType}
    → IsHead ps l t → IsHead ps m u → i ≡ j → x ≡ y → head w l t i x ≡ head w m u j y
same-head w a b = same-parts w (sym (head-label a) ∙ head-label b) (sym (head-type a) ∙ head-type b)

-- ---- names of blocks

the-name : {o n : Op} → Instruction o ≡ Instruction n → o ≡ n
the-name e = cc

block-no-loop : {v : Value} → v ≡ Instruction op.Block → v ≡ Instruction op.Loop → ⊥
block-no-loop e f = cc

block-no-if : {v : Value} → v ≡ Instruction op.Block → v ≡ Instruction op.If → ⊥
block-no-if e f = cc

loop-no-if : {v : Value} → v ≡ Instruction op.Loop → v ≡ Instruction op.If → ⊥
loop-no-if e f = cc

same-region : {w : KeptToken} {r s : Region} → IsRegion w r → IsRegion w s → r ≡ s
same-region (block_word e) (block_word f) = refl
same-region (block_word e) (loop_word f) = absurd (block-no-loop e f)
same-region (loop_word e) (block_word f) = absurd (block-no-loop f e)
same-region (loop_word e) (loop_word f) = refl

no-if : {w : KeptToken} {r : Region} → IsRegion w r → NamesInstruction w op.If → ⊥
no-if (block_word e) f = block-no-if e f
no-if (loop_word e) f = loop-no-if e f

-- ---- all of it

one-op : {p q : Plain} {c d : Instrs} → p ≡ q → c ≡ d → Code.op p c ≡ Code.op q d
one-op e f = cc

one-region : {r s : Region} {h k : Head} {c d e f : Instrs} → r ≡ s → h ≡ k → c ≡ d → e ≡ f
    → Code.region r h c e ≡ Code.region s k d f
one-region a b c d = cc

one-choice : {h k : Head} {c d e f m n : Instrs} → h ≡ k → c ≡ d → e ≡ f → m ≡ n
    → Code.choice h c e m ≡ Code.choice k d f n
one-choice a b c d = cc

same-means : {raw : Raw} {c d : Instrs} → Means raw c → Means raw d → c ≡ d
same-means Means.nothing Means.nothing = refl
same-means (Means.plain h a) (Means.plain k b) = one-op (same-plain h k) (same-means a b)
same-means (Means.region {w = w} r h e a b) (Means.region s k f c d) =
    one-region (same-region r s) (same-head w h k refl (same-id e f)) (same-means a c) (same-means b d)
same-means (Means.region r h e a b) (Means.choice n k l f c d g) = absurd (no-if r n)
same-means (Means.choice n h l e a b c) (Means.region s k f d g) = absurd (no-if s n)
same-means (Means.choice {w = w} n h l e a b c) (Means.choice o k m f d g i) =
    one-choice (same-head w h k (same-id l m) (same-id e f)) (same-means a d) (same-means b g) (same-means c i)

-- what kept tokens are read as is theirs alone
raw-of : {us : List Said} {c : Instrs} (a : Reads us c) → (read us).code ≡ a.raw
raw-of {us = us} a =
    ap (λ (all : List Said). (read all).code) (sym (append-nil us))
    ∙ ap (λ (at : Reading). at.code) (a.reads [] Code.empty [] refl) ∙ append-empty a.raw

-- the same kept tokens say the same instructions, whichever production they are said by
pub one_value : {p q : Part} {us : List Said} {c d : Instrs} → Says p us c → Says q us d → c ≡ d
one_value {c = c} a b =
    let x = says-reads a in
    let y = says-reads b in
    same-means (subst (λ (raw : Raw). Means raw c) (sym (raw-of x) ∙ raw-of y) x.means) y.means
