-- What is open behind an instruction is what was open before it.
use Rattle.std.proofs.Common.{◌≡◌, ℕ, zero, suc, ◌+◌, ◌≤◌, Bool, true, false, List, ◌∷◌, length, inl, inr}
use Rattle.std.proofs.Common.{Option, Some, None, refl, sym, ap, ◌∙◌, subst, arith}
use Rattle.std.specs.Prelude.{◌%◌, ◌^◌, if◌then◌else◌}
use Rattle.std.specs.Int.{cast_signed, w32, w64}
use Rattle.std.proofs.lemmas.Bool.{lt-ltb}
use Rattle.wc_syntax.specs.declared.kind.Kind.{Kind as TokenKind}
use Rattle.wc_syntax.specs.declared.kind.Kind.TheVariants as token
use Rattle.wc_syntax.specs.declared.role.Role.{Role}
use Rattle.wc_syntax.specs.declared.role.Role.TheVariants as role
use Rattle.wc_syntax.specs.Standard.Phrases.{Nonterminal, instr, foldedinstr, typeuse, param, result, Keep, ◌·◌, The}
use Rattle.wc_syntax.specs.Standard.Phrases.{Maybe}
use Rattle.wc_syntax.specs.Standard.Types.{lp, rp, index}
use Rattle.wc_syntax.specs.Standard.Instructions.{plaininstr, literal32, literal64, head, end_id, instrs, instr_body}
use Rattle.wc_syntax.specs.Standard.Instructions.{foldedinstr_body}
use Rattle.wc_syntax.specs.Standard.Grammar.{body}
use Rattle.wc_syntax.specs.Standard.Deriving.{Item, Event, Derives}
use Rattle.wc_ops.specs.declared.op.SimpleOp.{SimpleOp}
use Rattle.wc_ops.specs.declared.op.IndexOp.{IndexOp}
use Rattle.wc_ops.specs.declared.op.MemOp.{MemOp}
use Rattle.wc_ops.specs.declared.op.Op.TheVariants as op
use Rattle.wc_symbols.specs.declared.symbol.Value.{Value}
use Rattle.wc_symbols.specs.declared.symbol.Value.TheVariants.{Number, Instruction}
use Rattle.wc_body.specs.Standard.Nested.{nesting_limit}
use Rattle.wc_surface.specs.declared.instr.TextInstr.{TextInstr}
use Rattle.wc_surface.specs.declared.instr.TextInstr.TheVariants as text
use Rattle.wc_surface.specs.declared.instr.Operand.{Operand}
use Rattle.wc_surface.specs.Standard.Identifiers.{Identifier}
use Rattle.wc_parse_code.specs.declared.awaiting.Awaiting.{Awaiting}
use Rattle.wc_parse_code.specs.declared.awaiting.Awaiting.TheVariants as awaiting
use Rattle.wc_parse_code.specs.declared.held.Held.{Held}
use Rattle.wc_parse_code.specs.declared.held.Held.TheVariants as held
use Rattle.wc_parse_code.specs.declared.body_draft.BodyDraft.{BodyDraft}
use Rattle.wc_parse_code.specs.declared.use_draft.UseDraft.{UseDraft}
use Rattle.wc_parse_code.specs.declared.word.Word.{Word}
use Rattle.wc_parse_code.specs.Drafting.Words.{place_behind, operand_of}
use Rattle.wc_parse_code.specs.Drafting.Saying.{complete, settle_by, settled, table_of}
use Rattle.wc_parse_code.specs.Drafting.Opening.{name_plain}
use Rattle.wc_parse_code.specs.Drafting.Immediates.{index_in, offset_by, align_by, literal_by}
use Rattle.wc_parse_code.specs.Drafting.Taking.{take}
use Rattle.wc_parse_code.specs.Drafting.Following.{take_all}
use Rattle.wc_parse_code.specs.Drafting.Leaving.{Leaves}
use Rattle.wc_parse_code.specs.Standard.Derived.{AreWords}
use Rattle.wc_parse_code.proofs.Meanings.{star-keeps, Balances, RuleDoes, Takes, Does, does}
use Rattle.wc_parse_code.proofs.Meanings.{writes-typeuse, writes-param, writes-result}
use Rattle.wc_parse_code.proofs.OpenLemmas.{Frames, Idle, idle-leaves, head-idle, end_id-idle, region-opened, if-opened}
use Rattle.wc_parse_code.proofs.OpenLemmas.{held-if, then-opened, operands-end, else-turned, ended-idle, instrs-leave}
use Rattle.wc_parse_code.proofs.OpenLemmas.{Opened}

-- ---- instructions in which none is nested

-- what waits, with this instruction where it waits
abbrev with_held : Bool → TextInstr → List Held → List Held
with_held true i hs = held.Plain i ∷ hs
with_held false i hs = hs

-- one instruction is said, which waits or doesn't
record Says (b : Bool) (d t : BodyDraft) : Type 0 where
  instr : TextInstr
  around : (settled t).code.around ≡ d.code.around
  held : (settled t).held ≡ with_held b instr d.held
  blocks : (settled t).blocks ≡ d.blocks

-- its immediates may follow
abbrev awaits : Bool → Awaiting → BodyDraft → BodyDraft
awaits b a d = record d { waits = b; awaiting = a }

says-simple : (b : Bool) (o : SimpleOp) (token : ℕ) (d : BodyDraft)
    → Says b d (name_plain b (Instruction (op.Simple o)) token (complete d))
says-simple true o token d = record { instr = text.Simple o; around = refl; held = refl; blocks = refl }
says-simple false o token d = record { instr = text.Simple o; around = refl; held = refl; blocks = refl }

says-index : (b : Bool) (o : IndexOp) (w : Word) (d : BodyDraft)
    → Says b d (index_in (awaiting.Index o) w (awaits b (awaiting.Index o) d))
says-index true o w d =
    record { instr = text.Index o (operand_of w d.ids); around = refl; held = refl; blocks = refl }
says-index false o w d =
    record { instr = text.Index o (operand_of w d.ids); around = refl; held = refl; blocks = refl }

says-access : (b : Bool) (o : MemOp) (align offset : Option ℕ) (d : BodyDraft)
    → Says b d (awaits b (awaiting.MemArg o align offset) d)
says-access true o align offset d =
    record { instr = text.Access o align offset; around = refl; held = refl; blocks = refl }
says-access false o align offset d =
    record { instr = text.Access o align offset; around = refl; held = refl; blocks = refl }

-- a `br_table` with some of its labels
record Tables (b : Bool) (d t : BodyDraft) : Type 0 where
  first : ℕ
  ids : List Identifier
  labels : List Operand
  is : t ≡ record d { waits = b; awaiting = awaiting.Labels first; ids = ids; labels = labels }

says-table : (b : Bool) (d t : BodyDraft) → Tables b d t → Says b d t
says-table b d t a = subst (λ (x : BodyDraft). Says b d x) (sym a.is) (at b)
  where
    at : (b : Bool) → Says b d (record d {
      waits = b;
      awaiting = awaiting.Labels a.first;
      ids = a.ids;
      labels =
          a.labels;
    })
    at true = record { instr = table_of a.first (length a.labels); around = refl; held = refl; blocks = refl }
    at false = record { instr = table_of a.first (length a.labels); around = refl; held = refl; blocks = refl }

says-call : (b : Bool) (u : UseDraft) (d : BodyDraft)
    → Says b d (record d { waits = b; awaiting = awaiting.Use; written = u })
says-call true u d =
    record { instr = text.CallIndirect (place_behind d.uses); around = refl; held = refl; blocks = refl }
says-call false u d =
    record { instr = text.CallIndirect (place_behind d.uses); around = refl; held = refl; blocks = refl }

says-const32 : (b : Bool) (n : ℕ) (d : BodyDraft)
    → Says b d (literal_by awaiting.Literal32 (Number n) (awaits b awaiting.Literal32 d))
says-const32 true n d =
    record { instr = text.I32Const (cast_signed w32 (n % 2 ^ 32)); around = refl; held = refl; blocks = refl }
says-const32 false n d =
    record { instr = text.I32Const (cast_signed w32 (n % 2 ^ 32)); around = refl; held = refl; blocks = refl }

says-const64 : (b : Bool) (n : ℕ) (d : BodyDraft)
    → Says b d (literal_by awaiting.Literal64 (Number n) (awaits b awaiting.Literal64 d))
says-const64 true n d =
    record { instr = text.I64Const (cast_signed w64 n); around = refl; held = refl; blocks = refl }
says-const64 false n d =
    record { instr = text.I64Const (cast_signed w64 n); around = refl; held = refl; blocks = refl }

-- ---- the immediates of each

-- the name of an instruction that waits or doesn't
record Names (b : Bool) (r : Role) : Type 0 where
  is : (w : Word) (s : BodyDraft) → take s r w ≡ name_plain b w.symbol.value w.token (settled s)

-- a name and its value
named : (b : Bool) (r : Role) → Names b r → (c : TokenKind) (s t : BodyDraft) (k : Takes r c s t) (v : Value)
    → k.word.symbol.value ≡ v → t ≡ name_plain b v k.word.token (settled s)
named b r n c s t k v e =
    k.taken ∙ n.is k.word s ∙ ap (λ (x : Value). name_plain b x k.word.token (settled s)) e

moved : (Q : BodyDraft → Type 0) (s t : BodyDraft) → t ≡ s → Q s → Q t
moved Q s t e q = subst Q (sym e) q

says-indexed : (b : Bool) (o : IndexOp) (d m t : BodyDraft) → m ≡ awaits b (awaiting.Index o) d
    → Does (index role.Index) m t → Says b d t
says-indexed b o d m t e (inl k) =
    moved (Says b d) _ t (k.taken ∙ ap (λ (x : BodyDraft). take x role.Index k.word) e) (says-index b o k.word d)
says-indexed b o d m t e (inr k) =
    moved (Says b d) _ t (k.taken ∙ ap (λ (x : BodyDraft). take x role.Index k.word) e) (says-index b o k.word d)

table-more : (b : Bool) (d m t : BodyDraft) → Does (index role.Index) m t → Tables b d m → Tables b d t
table-more b d m t (inl k) a =
    record {
      first = a.first;
      ids = _;
      labels = _;
      is = k.taken
          ∙ ap (λ (x : BodyDraft). take x role.Index k.word) a.is;
    }
table-more b d m t (inr k) a =
    record {
      first = a.first;
      ids = _;
      labels = _;
      is = k.taken
          ∙ ap (λ (x : BodyDraft). take x role.Index k.word) a.is;
    }

-- a load or a store, with what of its immediates was said
record Accesses (b : Bool) (d t : BodyDraft) : Type 0 where
  op : MemOp
  align : Option ℕ
  offset : Option ℕ
  is : t ≡ awaits b (awaiting.MemArg op align offset) d

access-offset : (b : Bool) (d m t : BodyDraft) → Does (Maybe (Keep role.MemOffset token.MemOffset)) m t
    → Accesses b d m → Accesses b d t
access-offset b d m t (inl e) a = record { op = a.op; align = a.align; offset = a.offset; is = e ∙ a.is }
access-offset b d m t (inr k) a = record {
  op = a.op;
  align = a.align;
  offset = Some k.value.0;
  is = k.taken ∙ ap (λ (x : BodyDraft). take x role.MemOffset k.word) a.is
      ∙ ap (λ (v : Value). offset_by (awaiting.MemArg a.op a.align a.offset) v
      (awaits b (awaiting.MemArg a.op a.align a.offset) d)) k.value.1;
}

access-align : (b : Bool) (d m t : BodyDraft) → Does (Maybe (Keep role.MemAlign token.MemAlign)) m t
    → Accesses b d m → Accesses b d t
access-align b d m t (inl e) a = record { op = a.op; align = a.align; offset = a.offset; is = e ∙ a.is }
access-align b d m t (inr k) a = record {
  op = a.op;
  align = Some k.value.0;
  offset = a.offset;
  is = k.taken ∙ ap (λ (x : BodyDraft). take x role.MemAlign k.word) a.is
      ∙ ap (λ (v : Value). align_by (awaiting.MemArg a.op a.align a.offset) v
      (awaits b (awaiting.MemArg a.op a.align a.offset) d)) k.value.1
      ∙ ap (λ (y : Bool). if y then awaits b (awaiting.MemArg a.op (Some k.value.0) a.offset) d
      else awaits b (awaiting.MemArg a.op a.align a.offset) d) (lt-ltb k.value.0 256 (omega (arith, k.value.2)));
}

says-accessed : (b : Bool) (d t : BodyDraft) → Accesses b d t → Says b d t
says-accessed b d t a = moved (Says b d) _ t a.is (says-access b a.op a.align a.offset d)

number-32 : (c : TokenKind) (m t d : BodyDraft) (b : Bool) (k : Takes role.Literal c m t) (n : ℕ)
    → k.word.symbol.value ≡ Number n → m ≡ awaits b awaiting.Literal32 d → Says b d t
number-32 c m t d b k n e f =
    moved (Says b d) _ t (k.taken ∙ ap (λ (x : BodyDraft). take x role.Literal k.word) f
    ∙ ap (λ (v : Value). literal_by awaiting.Literal32 v (awaits b awaiting.Literal32 d)) e) (says-const32 b n d)

number-64 : (c : TokenKind) (m t d : BodyDraft) (b : Bool) (k : Takes role.Literal c m t) (n : ℕ)
    → k.word.symbol.value ≡ Number n → m ≡ awaits b awaiting.Literal64 d → Says b d t
number-64 c m t d b k n e f =
    moved (Says b d) _ t (k.taken ∙ ap (λ (x : BodyDraft). take x role.Literal k.word) f
    ∙ ap (λ (v : Value). literal_by awaiting.Literal64 v (awaits b awaiting.Literal64 d)) e) (says-const64 b n d)

says-literal32 : (b : Bool) (d m t : BodyDraft) → m ≡ awaits b awaiting.Literal32 d → Does literal32 m t → Says b d t
says-literal32 b d m t e (inl k) = number-32 token.Natural32 m t d b k k.value.0 k.value.1 e
says-literal32 b d m t e (inr k) = number-32 token.Signed32 m t d b k k.value.0 k.value.1 e

says-literal64 : (b : Bool) (d m t : BodyDraft) → m ≡ awaits b awaiting.Literal64 d → Does literal64 m t → Says b d t
says-literal64 b d m t e (inl k) = number-64 token.Natural32 m t d b k k.value.0 k.value.1 e
says-literal64 b d m t e (inr (inl k)) = number-64 token.Natural64 m t d b k k.value.0 k.value.1 e
says-literal64 b d m t e (inr (inr (inl k))) = number-64 token.Signed32 m t d b k k.value.0 k.value.1 e
says-literal64 b d m t e (inr (inr (inr k))) = number-64 token.Signed64 m t d b k k.value.0 k.value.1 e

plain-says : (b : Bool) (r : Role) → Names b r → (s t : BodyDraft) → Does (plaininstr r) s t
    → Says b (settle_by s.awaiting s) t
plain-says b r n s t (inl k) =
    moved (Says b _) _ t (named b r n token.Simple s t k _ k.value.1)
    (says-simple b k.value.0 k.word.token (settle_by s.awaiting s))
plain-says b r n s t (inr (inl (m, k, more))) =
    says-indexed b k.value.0 _ m t (named b r n token.Indexed s m k _ k.value.1) more
plain-says b r n s t (inr (inr (inl (m, k, (x, one, more))))) =
    let d = settle_by s.awaiting s in
    let first : Tables b d m = record {
      first = length d.labels;
      ids = d.ids;
      labels = d.labels;
      is = named b r n token.BrTable s m k _ k.value;
    } in
    says-table b d t (star-keeps {R = Does (index role.Index)} (λ (y : BodyDraft). Tables b d y)
    (λ y z i a. table-more b d y z i a) more (table-more b d m x one first))
plain-says b r n s t (inr (inr (inr (inl (m, k, w))))) =
    moved (Says b _) _ t
    (w.1 ∙ ap (λ (x : BodyDraft). record x { written = w.0 }) (named b r n token.CallIndirect s m k _ k.value))
    (says-call b w.0 (settle_by s.awaiting s))
plain-says b r n s t (inr (inr (inr (inr (inl (m, k, (x, o, a))))))) =
    let d = settle_by s.awaiting s in
    let first : Accesses b d m = record {
      op = k.value.0;
      align = None;
      offset = None;
      is = named b r n token.Access s m k _ k.value.1;
    } in
    says-accessed b d t (access-align b d x t a (access-offset b d m x o first))
plain-says b r n s t (inr (inr (inr (inr (inr (inl (m, k, l))))))) =
    says-literal32 b _ m t (named b r n token.Const32 s m k _ k.value) l
plain-says b r n s t (inr (inr (inr (inr (inr (inr (m, k, l))))))) =
    says-literal64 b _ m t (named b r n token.Const64 s m k _ k.value) l

plain-leaves : (s t : BodyDraft) (a : Frames) (hs : List Held) (bs : List ℕ) → Leaves s a hs bs
    → Does (plaininstr role.Plain) s t → Leaves t a hs bs
plain-leaves s t a hs bs l d =
    let says = plain-says false role.Plain (record { is = λ w x. refl }) s t d in
    record { around = says.around ∙ l.around; held = says.held ∙ l.held; blocks = says.blocks ∙ l.blocks }

held-leaves : (s t : BodyDraft) (a : Frames) (hs : List Held) (bs : List ℕ) → Leaves s a hs bs
    → Does (plaininstr role.HeldPlain) s t → (i : TextInstr) × Leaves t a (held.Plain i ∷ hs) bs
held-leaves s t a hs bs l d =
    let says = plain-says true role.HeldPlain (record { is = λ w x. refl }) s t d in (
      says.instr,
      record {
        around = says.around ∙ l.around;
        held = says.held ∙ ap (λ (x : List Held). held.Plain says.instr ∷ x) l.held;
        blocks = says.blocks ∙ l.blocks;
      },
    )

-- ---- blocks

-- from where a block began to where it ends, or its else part does
ends : (depth : ℕ) (c : TokenKind) (s t : BodyDraft) (a : Frames) (hs : List Held) (bs : List ℕ)
    → length a + suc depth ≤ nesting_limit → Opened s a hs bs
    → (m : BodyDraft) × Does (instrs depth) s m × Takes role.End c m t → Idle t a hs bs
ends depth c s t a hs bs room (f, h, i) (m, inside, k) =
    ended-idle c m t f a hs h bs
    (instrs-leave depth s m (f ∷ a) hs (h ∷ bs) (omega arith) (idle-leaves s (f ∷ a) hs (h ∷ bs) i) inside) k

heads : (s t : BodyDraft) (a : Frames) (hs : List Held) (bs : List ℕ) → Does head s t → Opened s a hs bs
    → Opened t a hs bs
heads s t a hs bs d (f, h, i) = (f, h, head-idle s t (f ∷ a) hs (h ∷ bs) d i)

end_ids : (s t : BodyDraft) (a : Frames) (hs : List Held) (bs : List ℕ) → Does end_id s t → Opened s a hs bs
    → Opened t a hs bs
end_ids s t a hs bs d (f, h, i) = (f, h, end_id-idle s t (f ∷ a) hs (h ∷ bs) d i)

-- from where an if began to its else part
turns : (depth : ℕ) (s m t : BodyDraft) (a : Frames) (hs : List Held) (bs : List ℕ)
    → length a + suc depth ≤ nesting_limit → Opened s a hs bs → Does (instrs depth) s m
    → Takes role.Else token.ElseWord m t → Opened t a hs bs
turns depth s m t a hs bs room (f, h, i) inside k =
    else-turned m t f a hs h bs
    (instrs-leave depth s m (f ∷ a) hs (h ∷ bs) (omega arith) (idle-leaves s (f ∷ a) hs (h ∷ bs) i) inside) k

instr-balances : (depth : ℕ) (s t : BodyDraft) → Does (instr_body depth) s t → Balances depth s t
instr-balances zero s t (inl d) a hs bs room l = plain-leaves s t a hs bs l d
instr-balances zero s t (inr (inl d)) a hs bs room l = d a hs bs room l
instr-balances zero s t (inr (inr e)) a hs bs room l = moved (λ (x : BodyDraft). Leaves x a hs bs) s t e l
instr-balances (suc depth) s t (inl d) a hs bs room l = plain-leaves s t a hs bs l d
instr-balances (suc depth) s t (inr (inl d)) a hs bs room l = d a hs bs room l
instr-balances (suc depth) s t (inr (inr (inl (m, k, (x, d, (y, inside, (z, e, id))))))) a hs bs room l =
    idle-leaves t a hs bs (end_id-idle z t a hs bs id (ends depth token.EndWord x z a hs bs room
    (heads m x a hs bs d (region-opened s m a hs bs (omega arith) l k)) (y, inside, e)))
instr-balances (suc depth) s t (inr (inr (inr (inl (
  m,
  k,
  (x, d, (y, inside, (z, more, (u, e, id)))),
))))) a hs bs room l =
    let opened = heads m x a hs bs d (if-opened s m a hs bs (omega arith) l k) in
    idle-leaves t a hs bs (end_id-idle u t a hs bs id (parts opened more))
  where
    parts : Opened x a hs bs → Does (Maybe (Keep role.Else token.ElseWord · end_id · instrs depth)) y z → Idle u a hs bs
    parts opened (inl same) = ends depth token.EndWord x u a hs bs room opened
        (z, moved (λ (v : BodyDraft). Does (instrs depth) x v) y z same inside, e)
    parts opened (inr (v, turn, (w, else_id, second))) = ends depth token.EndWord w u a hs bs room
        (end_ids v w a hs bs else_id (turns depth x y v a hs bs room opened inside turn)) (z, second, e)
instr-balances (suc depth) s t (inr (inr (inr (inr e)))) a hs bs room l =
    moved (λ (x : BodyDraft). Leaves x a hs bs) s t e l

-- ---- folded instructions

-- behind the condition of a folded if
folded-parts : (depth : ℕ) (s t : BodyDraft) (a : Frames) (h : ℕ) (hs : List Held) (bs : List ℕ)
    → length a + suc depth ≤ nesting_limit → Leaves s a (held.If h ∷ hs) bs
    → Does (lp · Keep role.Then token.ThenWord · instrs depth · rp
    · Maybe (lp · Keep role.Else token.ElseWord · instrs depth · rp) · Keep role.End token.Close) s t → Idle t a hs bs
folded-parts depth s t a h hs bs room l (m, em, (x, k, (y, inside, (z, ez, (u, more, e))))) = parts more
  where
    opened : Opened x a hs bs
    opened = then-opened m x a h hs bs (omega arith)
        (moved (λ (v : BodyDraft). Leaves v a (held.If h ∷ hs) bs) s m em l) k

    first : Does (instrs depth) x z
    first = moved (λ (v : BodyDraft). Does (instrs depth) x v) y z ez inside

    parts : Does (Maybe (lp · Keep role.Else token.ElseWord · instrs depth · rp)) z u → Idle t a hs bs
    parts (inl same) = ends depth token.Close x t a hs bs room opened
        (u, moved (λ (v : BodyDraft). Does (instrs depth) x v) z u same first, e)
    parts (inr (v, ev, (w, turn, (q, second, eq)))) = ends depth token.Close w t a hs bs room
        (turns depth x v w a hs bs room opened (moved (λ (o : BodyDraft). Does (instrs depth) x o) z v ev first) turn)
        (u, moved (λ (o : BodyDraft). Does (instrs depth) w o) q u eq second, e)

folded-balances : (depth : ℕ) (s t : BodyDraft) → Does (foldedinstr_body depth) s t → Balances depth s t
folded-balances zero s t (m, em, et) a hs bs room l =
    moved (λ (x : BodyDraft). Leaves x a hs bs) s t (et ∙ em) l
folded-balances (suc depth) s t (inl (m, em, (x, d, (y, inside, k)))) a hs bs room l =
    let start = moved (λ (v : BodyDraft). Leaves v a hs bs) s m em l in
    let waits = held-leaves m x a hs bs start d in
    idle-leaves t a hs bs (operands-end y t a waits.0 hs bs
    (instrs-leave depth x y a (held.Plain waits.0 ∷ hs) bs (omega arith) waits.1 inside) k)
folded-balances (suc depth) s t (inr (inl (m, em, (x, k, (y, d, (z, inside, e)))))) a hs bs room l =
    let start = moved (λ (v : BodyDraft). Leaves v a hs bs) s m em l in
    idle-leaves t a hs bs (ends depth token.Close y t a hs bs room
    (heads x y a hs bs d (region-opened m x a hs bs (omega arith) start k)) (z, inside, e))
folded-balances (suc depth) s t (inr (inr (inl (m, em, (x, k, (y, d, (z, condition, more))))))) a hs bs room l =
    let start = moved (λ (v : BodyDraft). Leaves v a hs bs) s m em l in
    let waits = held-if m x a hs bs start k in
    let behind = head-idle x y a (held.If waits.0 ∷ hs) bs d waits.1 in
    idle-leaves t a hs bs (folded-parts depth z t a waits.0 hs bs room
    (instrs-leave depth y z a (held.If waits.0 ∷ hs) bs (omega arith)
    (idle-leaves y a (held.If waits.0 ∷ hs) bs behind) condition) more)
folded-balances (suc depth) s t (inr (inr (inr (m, em, et)))) a hs bs room l =
    moved (λ (x : BodyDraft). Leaves x a hs bs) s t (et ∙ em) l

-- ---- each rule

rules : (n : Nonterminal) (s t : BodyDraft) → Does (body n) s t → RuleDoes n s t
rules (instr depth) s t d = instr-balances depth s t d
rules (foldedinstr depth) s t d = folded-balances depth s t d
rules typeuse s t d = writes-typeuse s t d
rules param s t d = writes-param s t d
rules result s t d = writes-result s t d
rules _ s t d = tt

pub instrs-derived : (depth : ℕ) (items : List Item) (es : List Event) (words : ℕ → Word) (d : BodyDraft) (a : Frames)
    (hs : List Held) (bs : List ℕ) → Derives (instrs depth) items es → AreWords words es
    → length a + depth ≤ nesting_limit → Leaves d a hs bs → Leaves (take_all words d es) a hs bs
instrs-derived depth items es words d a hs bs derives are room l =
    instrs-leave depth d _ a hs bs room l (does rules words derives d are)

pub folded-derived : (depth : ℕ) (items : List Item) (es : List Event) (words : ℕ → Word) (d : BodyDraft) (a : Frames)
    (hs : List Held) (bs : List ℕ) → Derives (The (foldedinstr depth)) items es → AreWords words es
    → length a + depth ≤ nesting_limit → Leaves d a hs bs → Leaves (take_all words d es) a hs bs
folded-derived depth items es words d a hs bs derives are room l = does rules words derives d are a hs bs room l
