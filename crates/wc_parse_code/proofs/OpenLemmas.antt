-- What is open behind each kept token of a block.
use Rattle.std.proofs.Common.{◌≡◌, ℕ, ◌+◌, ◌≤◌, ◌<◌, Bool, true, false, List, [], ◌∷◌, length, inl, inr, ◌⊎◌, Option}
use Rattle.std.proofs.Common.{Some, None, refl, sym, ap, ◌∙◌, subst}
use Rattle.std.specs.Prelude.{if◌then◌else◌}
use Rattle.std.proofs.lemmas.Bool.{lt-ltb}
use Rattle.wc_syntax.specs.declared.kind.Kind.{Kind as TokenKind}
use Rattle.wc_syntax.specs.declared.kind.Kind.TheVariants as token
use Rattle.wc_syntax.specs.declared.role.Role.TheVariants as role
use Rattle.wc_syntax.specs.Standard.Instructions.{head, end_id}
use Rattle.wc_ops.specs.declared.op.Op.TheVariants as op
use Rattle.wc_ops.specs.declared.val_type.ValType.{ValType as ValueType}
use Rattle.wc_symbols.specs.declared.symbol.Value.{Value}
use Rattle.wc_symbols.specs.declared.symbol.Value.TheVariants.{Instruction}
use Rattle.wc_body.specs.declared.entry.Kind.{Kind}
use Rattle.wc_body.specs.declared.entry.Kind.TheVariants as kind
use Rattle.wc_body.specs.Standard.Nested.{nesting_limit, Code, block, loop}
use Rattle.wc_body.specs.Standard.Draft.{Frame, in_region, in_then, in_else, Draft, step, closed, turned}
use Rattle.wc_surface.specs.declared.instr.TextInstr.{TextInstr}
use Rattle.wc_surface.specs.Standard.Identifiers.{Identifier}
use Rattle.wc_surface.specs.Standard.Marks.{begin_of}
use Rattle.wc_parse_code.specs.declared.awaiting.Awaiting.{Awaiting}
use Rattle.wc_parse_code.specs.declared.awaiting.Awaiting.TheVariants as awaiting
use Rattle.wc_parse_code.specs.declared.held.Held.{Held}
use Rattle.wc_parse_code.specs.declared.held.Held.TheVariants as held
use Rattle.wc_parse_code.specs.declared.body_draft.BodyDraft.{BodyDraft}
use Rattle.wc_parse_code.specs.Drafting.Words.{place_behind, identifier_of}
use Rattle.wc_parse_code.specs.Drafting.Uses.{short_type}
use Rattle.wc_parse_code.specs.Drafting.Saying.{begun_in, begin_block, release_by, head_by, settle_by, settled}
use Rattle.wc_parse_code.specs.Drafting.Opening.{await_head, turn_by, end_by, begin_by}
use Rattle.wc_parse_code.specs.Drafting.Immediates.{label_by, end_label_by}
use Rattle.wc_parse_code.specs.Drafting.Leaving.{Leaves}
use Rattle.wc_parse_code.proofs.Meanings.{Star, star-keeps, Writes, Balances, Does, Takes}

abbrev pub Frames : Type 0
Frames = List (Frame TextInstr ℕ)

-- no instruction is said once nothing more can follow
abbrev pub is_idle : Awaiting → Bool
is_idle (awaiting.MemArg o align offset) = false
is_idle (awaiting.Labels first) = false
is_idle awaiting.Use = false
is_idle _ = true

-- what is open, waits and encloses, where nothing is left to be said
pub record Idle (d : BodyDraft) (frames : Frames) (waiting : List Held) (places : List ℕ) : Type 0 where
  pub idle : is_idle d.awaiting ≡ true
  pub around : d.code.around ≡ frames
  pub held : d.held ≡ waiting
  pub blocks : d.blocks ≡ places

record Kept (d e : BodyDraft) : Type 0 where
  around : e.code.around ≡ d.code.around
  held : e.held ≡ d.held
  blocks : e.blocks ≡ d.blocks

same : (d : BodyDraft) → Kept d d
same d = record { around = refl; held = refl; blocks = refl }

head-kept : (short : Option (Option ValueType)) (label : Option Identifier) (d : BodyDraft)
    → Kept d (head_by short label d)
head-kept (Some t) label d = record { around = refl; held = refl; blocks = refl }
head-kept None label d = record { around = refl; held = refl; blocks = refl }

settle-kept : (a : Awaiting) (d : BodyDraft) → is_idle a ≡ true → Kept d (settle_by a d)
settle-kept (awaiting.MemArg o align offset) d e = absurd cc
settle-kept (awaiting.Labels first) d e = absurd cc
settle-kept awaiting.Use d e = absurd cc
settle-kept (awaiting.Head label) d e = head-kept (short_type d.written) label d
settle-kept _ d e = same d

pub idle-leaves : (d : BodyDraft) (a : Frames) (hs : List Held) (bs : List ℕ) → Idle d a hs bs → Leaves d a hs bs
idle-leaves d a hs bs i =
    let k = settle-kept d.awaiting d i.idle in
    record { around = k.around ∙ i.around; held = k.held ∙ i.held; blocks = k.blocks ∙ i.blocks }

-- ---- heads, and identifiers behind `else` and `end`

writes-idle : (s t : BodyDraft) (a : Frames) (hs : List Held) (bs : List ℕ) → Writes s t → Idle s a hs bs
    → Idle t a hs bs
writes-idle s t a hs bs (u, e) i =
    subst (λ (x : BodyDraft). Idle x a hs bs) (sym e)
    (record { idle = i.idle; around = i.around; held = i.held; blocks = i.blocks })

label-idle : (x : Awaiting) (id : Identifier) (s : BodyDraft) (a : Frames) (hs : List Held) (bs : List ℕ)
    → Idle s a hs bs
    → Idle (label_by x id s) a hs bs
label-idle (awaiting.Head l) id s a hs bs i =
    record { idle = refl; around = i.around; held = i.held; blocks = i.blocks }
label-idle _ id s a hs bs i = i

end_label-idle : (x : Awaiting) (id : Identifier) (s : BodyDraft) (a : Frames) (hs : List Held) (bs : List ℕ)
    → Idle s a hs bs → Idle (end_label_by x id s) a hs bs
end_label-idle (awaiting.ElseId h) id s a hs bs i =
    record { idle = i.idle; around = i.around; held = i.held; blocks = i.blocks }
end_label-idle (awaiting.EndId h) id s a hs bs i =
    record { idle = i.idle; around = i.around; held = i.held; blocks = i.blocks }
end_label-idle _ id s a hs bs i = i

pub head-idle : (s t : BodyDraft) (a : Frames) (hs : List Held) (bs : List ℕ) → Does head s t → Idle s a hs bs
    → Idle t a hs bs
head-idle s t a hs bs (m, inl e, w) i = writes-idle m t a hs bs w (subst (λ (x : BodyDraft). Idle x a hs bs) (sym e) i)
head-idle s t a hs bs (m, inr k, w) i = writes-idle m t a hs bs w
    (subst (λ (x : BodyDraft). Idle x a hs bs) (sym k.taken) (label-idle s.awaiting (identifier_of k.word) s a hs bs i))

pub end_id-idle : (s t : BodyDraft) (a : Frames) (hs : List Held) (bs : List ℕ) → Does end_id s t → Idle s a hs bs
    → Idle t a hs bs
end_id-idle s t a hs bs (inl e) i = subst (λ (x : BodyDraft). Idle x a hs bs) (sym e) i
end_id-idle s t a hs bs (inr k) i =
    subst (λ (x : BodyDraft). Idle x a hs bs) (sym k.taken) (end_label-idle s.awaiting (identifier_of k.word) s a hs bs
    i)

-- ---- where a block begins, turns and ends

-- one more is open
abbrev pub Opened : BodyDraft → Frames → List Held → List ℕ → Type 0
Opened t a hs bs = (f : Frame TextInstr ℕ) × (h : ℕ) × Idle t (f ∷ a) hs (h ∷ bs)

begin-frame : (code : Draft TextInstr ℕ) (k : Kind) (h : ℕ)
    → (f : Frame TextInstr ℕ) × ((step code (begin_of k h)).around ≡ f ∷ code.around)
begin-frame code kind.Block h = (in_region code.last block h, refl)
begin-frame code kind.Loop h = (in_region code.last loop h, refl)
begin-frame code kind.If h = (in_then code.last h, refl)

begun-around : (code : Draft TextInstr ℕ) (k : Kind) (h : ℕ) → length code.around < nesting_limit
    → (f : Frame TextInstr ℕ) × ((begun_in code k h).around ≡ f ∷ code.around)
begun-around code k h less =
    subst (λ (b : Bool). (f : Frame TextInstr ℕ)
    × ((if b then step code (begin_of k h) else code).around ≡ f ∷ code.around))
    (sym (lt-ltb (length code.around) nesting_limit less)) (begin-frame code k h)

begin-opened : (k : Kind) (token h : ℕ) (d : BodyDraft) (a : Frames) (hs : List Held) (bs : List ℕ)
    → length a < nesting_limit → d.code.around ≡ a → d.held ≡ hs → d.blocks ≡ bs
    → Opened (await_head token (begin_block d k h)) a hs bs
begin-opened k token h d a hs bs less ea eh eb =
    let room : length d.code.around < nesting_limit = rw ea less in
    let b = begun-around d.code k h room in (
      b.0,
      h,
      record {
        idle = refl;
        around = b.1 ∙ ap (λ (x : Frames). b.0 ∷ x) ea;
        held = eh;
        blocks = ap (λ (x : List ℕ). h ∷ x) eb;
      },
    )

pub region-opened : (s t : BodyDraft) (a : Frames) (hs : List Held) (bs : List ℕ) → length a < nesting_limit
    → Leaves s a hs bs → Takes role.Begin token.Region s t → Opened t a hs bs
region-opened s t a hs bs less l k = subst (λ (x : BodyDraft).
    Opened x a hs bs) (sym k.taken) (by k.word.symbol.value k.value)
  where
    by : (v : Value) → (v ≡ Instruction op.Block) ⊎ (v ≡ Instruction op.Loop)
        → Opened (begin_by v k.word.token (settled s)) a hs bs
    by v (inl e) = rw e (begin-opened kind.Block k.word.token _ (settled s) a hs bs less l.around l.held l.blocks)
    by v (inr e) = rw e (begin-opened kind.Loop k.word.token _ (settled s) a hs bs less l.around l.held l.blocks)

pub if-opened : (s t : BodyDraft) (a : Frames) (hs : List Held) (bs : List ℕ) → length a < nesting_limit
    → Leaves s a hs bs → Takes role.Begin token.If s t → Opened t a hs bs
if-opened s t a hs bs less l k = subst (λ (x : BodyDraft).
    Opened x a hs bs) (sym k.taken) (by k.word.symbol.value k.value)
  where
    by : (v : Value) → v ≡ Instruction op.If → Opened (begin_by v k.word.token (settled s)) a hs bs
    by v e = rw e (begin-opened kind.If k.word.token _ (settled s) a hs bs less l.around l.held l.blocks)

pub held-if : (s t : BodyDraft) (a : Frames) (hs : List Held) (bs : List ℕ) → Leaves s a hs bs
    → Takes role.HeldBegin token.If s t → (h : ℕ) × Idle t a (held.If h ∷ hs) bs
held-if s t a hs bs l k = subst (λ (x : BodyDraft). (h : ℕ) × Idle x a (held.If h ∷ hs) bs) (sym k.taken) (
  place_behind (settled s).heads,
  record {
    idle = refl;
    around = l.around;
    held = ap (λ (x : List Held). held.If (place_behind (settled s).heads) ∷ x) l.held;
    blocks = l.blocks;
  },
)

-- the condition ends, and the if begins
pub then-opened : (s t : BodyDraft) (a : Frames) (h : ℕ) (hs : List Held) (bs : List ℕ) → length a < nesting_limit
    → Leaves s a (held.If h ∷ hs) bs → Takes role.Then token.ThenWord s t → Opened t a hs bs
then-opened s t a h hs bs less l k =
    subst (λ (x : BodyDraft). Opened x a hs bs) (sym k.taken) (by (settled s).held l.held)
  where
    by : (xs : List Held) → xs ≡ held.If h ∷ hs → Opened (release_by xs (settled s)) a hs bs
    by xs e =
        let room : length (settled s).code.around < nesting_limit = rw l.around less in
        let b = begun-around (settled s).code kind.If h room in
        rw e (
          b.0,
          h,
          record {
            idle = refl;
            around = b.1 ∙ ap (λ (x : Frames). b.0 ∷ x) l.around;
            held = refl;
            blocks = ap (λ (x : List ℕ). h ∷ x) l.blocks;
          },
        )

-- the operands end, and their instruction stands
pub operands-end : (s t : BodyDraft) (a : Frames) (i : TextInstr) (hs : List Held) (bs : List ℕ)
    → Leaves s a (held.Plain i ∷ hs) bs → Takes role.HeldEnd token.Close s t → Idle t a hs bs
operands-end s t a i hs bs l k =
    subst (λ (x : BodyDraft). Idle x a hs bs) (sym k.taken) (by (settled s).held l.held)
  where
    by : (xs : List Held) → xs ≡ held.Plain i ∷ hs → Idle (release_by xs (settled s)) a hs bs
    by xs e = rw e (record { idle = refl; around = l.around; held = refl; blocks = l.blocks })

turned-around : (fs : Frames) (last : Code TextInstr ℕ) (f : Frame TextInstr ℕ) (a : Frames) → fs ≡ f ∷ a
    → (g : Frame TextInstr ℕ) × ((turned fs last).around ≡ g ∷ a)
turned-around [] last f a e = absurd cc
turned-around (in_region before r h ∷ fs) last f a e = (f, e)
turned-around (in_then before h ∷ fs) last f a e =
    let tail : fs ≡ a = cc in (in_else before h last, ap (λ (x : Frames). in_else before h last ∷ x) tail)
turned-around (in_else before h first ∷ fs) last f a e = (f, e)

closed-around : (fs : Frames) (last : Code TextInstr ℕ) (f : Frame TextInstr ℕ) (a : Frames) → fs ≡ f ∷ a
    → (closed fs last).around ≡ a
closed-around [] last f a e = absurd cc
closed-around (in_region before r h ∷ fs) last f a e = cc
closed-around (in_then before h ∷ fs) last f a e = cc
closed-around (in_else before h first ∷ fs) last f a e = cc

pub else-turned : (s t : BodyDraft) (f : Frame TextInstr ℕ) (a : Frames) (hs : List Held) (h : ℕ) (bs : List ℕ)
    → Leaves s (f ∷ a) hs (h ∷ bs) → Takes role.Else token.ElseWord s t → Opened t a hs bs
else-turned s t f a hs h bs l k =
    subst (λ (x : BodyDraft). Opened x a hs bs) (sym k.taken) (by (settled s).blocks l.blocks)
  where
    by : (xs : List ℕ) → xs ≡ h ∷ bs → Opened (turn_by xs (settled s)) a hs bs
    by xs e =
        let turn = turned-around (settled s).code.around (settled s).code.last f a l.around in
        rw e (turn.0, h, record { idle = refl; around = turn.1; held = l.held; blocks = l.blocks })

pub ended-idle : (c : TokenKind) (s t : BodyDraft) (f : Frame TextInstr ℕ) (a : Frames) (hs : List Held) (h : ℕ)
    (bs : List ℕ)
    → Leaves s (f ∷ a) hs (h ∷ bs) → Takes role.End c s t → Idle t a hs bs
ended-idle c s t f a hs h bs l k =
    subst (λ (x : BodyDraft). Idle x a hs bs) (sym k.taken) (by (settled s).blocks l.blocks)
  where
    by : (xs : List ℕ) → xs ≡ h ∷ bs → Idle (end_by xs (settled s)) a hs bs
    by xs e = rw e (record {
      idle = refl;
      around = closed-around (settled s).code.around (settled s).code.last f a l.around;
      held = l.held;
      blocks = refl;
    })

-- ---- nested instructions

pub instrs-leave : (depth : ℕ) (s t : BodyDraft) (a : Frames) (hs : List Held) (bs : List ℕ)
    → length a + depth ≤ nesting_limit → Leaves s a hs bs → Star (Balances depth) s t → Leaves t a hs bs
instrs-leave depth s t a hs bs room l star =
    star-keeps {R = Balances depth} (λ (x : BodyDraft). Leaves x a hs bs) (λ x y b i. b a hs bs room i) star l
