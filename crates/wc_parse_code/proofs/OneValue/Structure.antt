-- What instructions say is what is read of their kept tokens.
use Rattle.std.proofs.Common.{◌≡◌, List, [], ◌∷◌, ◌++◌, Option, None, refl, sym, ap, ◌∙◌, subst, append_assoc}
use Rattle.std.proofs.Common.{true}
use Rattle.wc_ops.specs.declared.op.Op.TheVariants as op
use Rattle.wc_ops.specs.declared.val_type.ValType.{ValType}
use Rattle.wc_body.specs.Standard.Nested.{Region, Code, ◌⧺◌}
use Rattle.wc_body.specs.Stored.Rebuilt.{append-empty, append-assoc}
use Rattle.wc_syntax.specs.declared.role.Role.{Role}
use Rattle.wc_syntax.specs.declared.role.Role.TheVariants as role
use Rattle.wc_surface.specs.Standard.Identifiers.{Identifier}
use Rattle.wc_surface.specs.Standard.Written.Indices.{Index}
use Rattle.wc_surface.specs.Standard.Written.TypeUses.{Param, Signature, TypeUse}
use Rattle.wc_surface.specs.Standard.Written.Instructions.{MemArg, Plain, BlockType, Instrs}
use Rattle.wc_parse_code.specs.Standard.Tokens.{KeptToken}
use Rattle.wc_parse_code.specs.Standard.Productions.Tokens.{Said, ◌⊳◌, NamesInstruction, IsId}
use Rattle.wc_parse_code.specs.Standard.Productions.TypeUses.{AreTypes, IsParam, one, several, AreParams, AreResults}
use Rattle.wc_parse_code.specs.Standard.Productions.TypeUses.{IsSignature, IsTypeUse, inline, indexed, IsBlockType}
use Rattle.wc_parse_code.specs.Standard.Productions.TypeUses.{no_type, one_type, typed}
use Rattle.wc_parse_code.specs.Standard.Productions.Plain.{AreLabels, IsMemOffset, IsMemAlign, IsMemArg, IsPlain}
use Rattle.wc_parse_code.specs.Standard.Productions.Instructions.{IsRegion, IsHead, head, Part, Says}
use Rattle.wc_parse_code.proofs.OneValue.Reading.{Named, Headed, named, headed, Raw, Level, operands, ended, turned}
use Rattle.wc_parse_code.proofs.OneValue.Reading.{conditioned}
use Rattle.wc_parse_code.proofs.OneValue.Reading.{reading, is_use, is_part, read, AllRoles, roles-append, use-roles}
use Rattle.wc_parse_code.proofs.OneValue.Reading.{name-reads}

-- ---- the roles of parts

types-roles : {r : Role} {us : List Said} {ts : List ValType} → is_use r ≡ true → AreTypes r us ts → AllRoles is_use us
types-roles e AreTypes.none = AllRoles.none
types-roles e (AreTypes.more f rest) = AllRoles.more e (types-roles e rest)

param-roles : {us : List Said} {ps : List Param} → IsParam us ps → AllRoles is_use us
param-roles (one a b) = AllRoles.more refl (AllRoles.more refl AllRoles.none)
param-roles (several h) = types-roles refl h

params-roles : {us : List Said} {ps : List Param} → AreParams us ps → AllRoles is_use us
params-roles AreParams.none = AllRoles.none
params-roles (AreParams.more a b) = roles-append (param-roles a) (params-roles b)

results-roles : {us : List Said} {ts : List ValType} → AreResults us ts → AllRoles is_use us
results-roles AreResults.none = AllRoles.none
results-roles (AreResults.more a b) = roles-append (types-roles refl a) (results-roles b)

signature-roles : {us : List Said} {s : Signature} → IsSignature us s → AllRoles is_use us
signature-roles (IsSignature.both a b) = roles-append (params-roles a) (results-roles b)

pub type_use-roles : {us : List Said} {u : TypeUse} → IsTypeUse us u → AllRoles is_use us
type_use-roles (inline h) = signature-roles h
type_use-roles (indexed i h) = AllRoles.more refl (signature-roles h)

pub block-roles : {us : List Said} {t : BlockType} → IsBlockType us t → AllRoles is_use us
block-roles (no_type h) = type_use-roles h
block-roles (one_type h) = type_use-roles h
block-roles (typed h l) = type_use-roles h

pub id-roles : {r : Role} {us : List Said} {i : Option Identifier} → is_part r ≡ true → IsId r us i
    → AllRoles is_part us
id-roles e IsId.absent = AllRoles.none
id-roles e (IsId.there h) = AllRoles.more e AllRoles.none

labels-roles : {us : List Said} {xs : List Index} {x : Index} → AreLabels us xs x → AllRoles is_part us
labels-roles (AreLabels.default h) = AllRoles.more refl AllRoles.none
labels-roles (AreLabels.label h rest) = AllRoles.more refl (labels-roles rest)

mem-roles : {us : List Said} {m : MemArg} → IsMemArg us m → AllRoles is_part us
mem-roles (IsMemArg.both a b) = roles-append (offset-roles a) (align-roles b)
  where
    offset-roles : {us : List Said} {n : Option _} → IsMemOffset us n → AllRoles is_part us
    offset-roles IsMemOffset.absent = AllRoles.none
    offset-roles (IsMemOffset.there h) = AllRoles.more refl AllRoles.none

    align-roles : {us : List Said} {n : Option _} → IsMemAlign us n → AllRoles is_part us
    align-roles IsMemAlign.absent = AllRoles.none
    align-roles (IsMemAlign.there h) = AllRoles.more refl AllRoles.none

pub head-roles : {us : List Said} {label : Option Identifier} {ty : BlockType} → IsHead us label ty
    → AllRoles is_part us
head-roles (IsHead.both a b) = roles-append (id-roles refl a) (use-roles (block-roles b))

-- a name, and what belongs to it
pub record Front (r : Role) (us : List Said) : Type 0 where
  pub word : KeptToken
  pub parts : List Said
  pub is : us ≡ r ⊳ word ∷ parts
  pub all : AllRoles is_part parts

pub front : {r : Role} {us : List Said} {p : Plain} → IsPlain r us p → Front r us
front (IsPlain.simple_name e) = record { word = _; parts = []; is = refl; all = AllRoles.none }
front (IsPlain.index_name e h) = record { word = _; parts = _; is = refl; all = AllRoles.more refl AllRoles.none }
front (IsPlain.br_table_name e h) = record { word = _; parts = _; is = refl; all = labels-roles h }
front (IsPlain.call_indirect_name e h) = record { word = _; parts = _; is = refl; all = use-roles (type_use-roles h) }
front (IsPlain.access_name e h) = record { word = _; parts = _; is = refl; all = mem-roles h }
front (IsPlain.i32_const_name e h) = record { word = _; parts = _; is = refl; all = AllRoles.more refl AllRoles.none }
front (IsPlain.i64_const_name e h) = record { word = _; parts = _; is = refl; all = AllRoles.more refl AllRoles.none }

-- ---- what raw instructions mean

-- each instruction says this
pub data Means : Raw → Instrs → Type 0 where
  nothing : Means Code.empty Code.empty
  plain : {n : Named} {p : Plain} {after : Raw} {c : Instrs} → IsPlain n.role (n.role ⊳ n.word ∷ n.parts) p
      → Means after c → Means (Code.op n after) (Code.op p c)
  region : {w : KeptToken} {ps es : List Said} {r : Region} {label end_id : Option Identifier} {ty : BlockType}
      {first after : Raw} {c d : Instrs} → IsRegion w r → IsHead ps label ty → IsId role.EndLabel es end_id
      → Means first c → Means after d
      → Means (Code.choice (headed w ps [] es) first Code.empty after) (Code.region r (head w label ty None end_id) c d)
  choice : {w : KeptToken} {ps ls es : List Said} {label else_id end_id : Option Identifier} {ty : BlockType}
      {first second after : Raw} {c d e : Instrs} → NamesInstruction w op.If → IsHead ps label ty
      → IsId role.EndLabel ls else_id → IsId role.EndLabel es end_id → Means first c → Means second d → Means after e
      → Means (Code.choice (headed w ps ls es) first second after) (Code.choice (head w label ty else_id end_id) c d e)

means-append : {a b : Raw} {c d : Instrs} → Means a c → Means b d → Means (a ⧺ b) (c ⧺ d)
means-append Means.nothing m = m
means-append (Means.plain h rest) m = Means.plain h (means-append rest m)
means-append (Means.region r h e inside rest) m = Means.region r h e inside (means-append rest m)
means-append (Means.choice n h l e first second rest) m = Means.choice n h l e first second (means-append rest m)

-- these kept tokens are read as instructions that mean these
pub record Reads (us : List Said) (c : Instrs) : Type 0 where
  pub raw : Raw
  pub means : Means raw c
  pub reads : (xs : List Said) (behind : Raw) (ls : List Level) → read xs ≡ reading [] behind ls
      → read (us ++ xs) ≡ reading [] (raw ⧺ behind) ls

nothing-reads : Reads [] Code.empty
nothing-reads = record { raw = Code.empty; means = Means.nothing; reads = λ xs behind ls h. h }

both-read : {us vs : List Said} {c d : Instrs} → Reads us c → Reads vs d → Reads (us ++ vs) (c ⧺ d)
both-read {us = us} {vs = vs} a b = record {
  raw = a.raw ⧺ b.raw;
  means = means-append a.means b.means;
  reads = λ xs behind ls h.
      ap read (append_assoc us vs xs) ∙ a.reads (vs ++ xs) (b.raw ⧺ behind) ls (b.reads xs behind ls h)
      ∙ ap (λ (code : Raw). reading [] code ls) (sym (append-assoc a.raw b.raw behind));
}

plain-reads : {us : List Said} {p : Plain} → IsPlain role.Plain us p → Reads us (Code.op p Code.empty)
plain-reads {p = p} h =
    let f = front h in
    subst (λ (us : List Said). Reads us (Code.op p Code.empty)) (sym f.is) (record {
      raw = Code.op (named role.Plain f.word f.parts) Code.empty;
      means = Means.plain (subst (λ (us : List Said). IsPlain role.Plain us p) f.is h) Means.nothing;
      reads = λ xs behind ls e. name-reads role.Plain f.word xs behind ls refl f.all e;
    })

folded-plain-reads : (z : KeptToken) {us vs : List Said} {p : Plain} {c : Instrs} → IsPlain role.HeldPlain us p
    → Reads vs c → Reads (us ++ vs ++ role.HeldEnd ⊳ z ∷ []) (c ⧺ Code.op p Code.empty)
folded-plain-reads z {vs = vs} {p = p} {c = c} h b =
    let f = front h in
    let n : Named = named role.HeldPlain f.word f.parts in
    let Whole : List Said → Type 0 = λ us. Reads (us ++ vs ++ role.HeldEnd ⊳ z ∷ []) (c ⧺ Code.op p Code.empty) in
    subst Whole (sym f.is) (record {
      raw = b.raw ⧺ Code.op n Code.empty;
      means = means-append b.means
          (Means.plain (subst (λ (us : List Said). IsPlain role.HeldPlain us p) f.is h) Means.nothing);
      reads = λ xs behind ls e.
          let same : (f.parts ++ vs ++ role.HeldEnd ⊳ z ∷ []) ++ xs ≡ f.parts ++ (vs ++ role.HeldEnd ⊳ z ∷ xs) =
          simp append_assoc in
          let last : read (role.HeldEnd ⊳ z ∷ xs) ≡ reading [] Code.empty (operands behind ∷ ls) =
          name-reads role.HeldEnd z xs behind ls refl AllRoles.none e in
          ap (λ (all : List Said). read (role.HeldPlain ⊳ f.word ∷ all)) same
          ∙ name-reads role.HeldPlain f.word (vs ++ role.HeldEnd ⊳ z ∷ xs) (b.raw ⧺ Code.empty) (operands behind ∷ ls)
          refl f.all (b.reads (role.HeldEnd ⊳ z ∷ xs) Code.empty (operands behind ∷ ls) last)
          ∙ ap (λ (code : Raw). reading [] (code ⧺ Code.op n behind) ls) (append-empty b.raw)
          ∙ ap (λ (code : Raw). reading [] code ls) (sym (append-assoc b.raw (Code.op n Code.empty) behind));
    })

-- the part in front of an `end`, with its word and what belongs to that
region-reads : (z : KeptToken) {w : KeptToken} {us is xs : List Said} {r : Region}
    {label end_id : Option Identifier} {ty : BlockType} {c : Instrs} → IsRegion w r → IsHead us label ty
    → Reads is c → IsId role.EndLabel xs end_id
    → Reads (role.Begin ⊳ w ∷ us ++ is ++ role.End ⊳ z ∷ xs)
    (Code.region r (head w label ty None end_id) c Code.empty)
region-reads z {w = w} {us = us} {is = is} {xs = xs} r opening b e = record {
  raw = Code.choice (headed w us [] xs) b.raw Code.empty Code.empty;
  means = Means.region r opening e b.means Means.nothing;
  reads = λ rest behind ls h.
      let same : (us ++ is ++ role.End ⊳ z ∷ xs) ++ rest ≡ us ++ (is ++ role.End ⊳ z ∷ (xs ++ rest)) =
      simp append_assoc in
      let last = name-reads role.End z rest behind ls refl (id-roles refl e) h in
      ap (λ (all : List Said). read (role.Begin ⊳ w ∷ all)) same
      ∙ name-reads role.Begin w (is ++ role.End ⊳ z ∷ (xs ++ rest)) (b.raw ⧺ Code.empty) (ended xs behind ∷ ls) refl
      (head-roles opening)
      (b.reads (role.End ⊳ z ∷ (xs ++ rest)) Code.empty (ended xs behind ∷ ls) last)
      ∙ ap (λ (code : Raw). reading [] (Code.choice (headed w us [] xs) code Code.empty behind) ls)
      (append-empty b.raw);
}

-- the same of an if without a second part
if-reads : (z : KeptToken) {w : KeptToken} {us is xs : List Said} {label end_id : Option Identifier}
    {ty : BlockType} {c : Instrs} → NamesInstruction w op.If → IsHead us label ty → Reads is c
    → IsId role.EndLabel xs end_id
    → Reads (role.Begin ⊳ w ∷ us ++ is ++ role.End ⊳ z ∷ xs)
    (Code.choice (head w label ty None end_id) c Code.empty Code.empty)
if-reads z {w = w} {us = us} {is = is} {xs = xs} n opening b e = record {
  raw = Code.choice (headed w us [] xs) b.raw Code.empty Code.empty;
  means = Means.choice n opening IsId.absent e b.means Means.nothing Means.nothing;
  reads = λ rest behind ls h.
      let same : (us ++ is ++ role.End ⊳ z ∷ xs) ++ rest ≡ us ++ (is ++ role.End ⊳ z ∷ (xs ++ rest)) =
      simp append_assoc in
      let last = name-reads role.End z rest behind ls refl (id-roles refl e) h in
      ap (λ (all : List Said). read (role.Begin ⊳ w ∷ all)) same
      ∙ name-reads role.Begin w (is ++ role.End ⊳ z ∷ (xs ++ rest)) (b.raw ⧺ Code.empty) (ended xs behind ∷ ls) refl
      (head-roles opening)
      (b.reads (role.End ⊳ z ∷ (xs ++ rest)) Code.empty (ended xs behind ∷ ls) last)
      ∙ ap (λ (code : Raw). reading [] (Code.choice (headed w us [] xs) code Code.empty behind) ls)
      (append-empty b.raw);
}

-- and with one
if-else-reads : (y z : KeptToken) {w : KeptToken} {us is ys js xs : List Said}
    {label else_id end_id : Option Identifier} {ty : BlockType} {c d : Instrs} → NamesInstruction w op.If
    → IsHead us label ty → Reads is c → IsId role.EndLabel ys else_id → Reads js d
    → IsId role.EndLabel xs end_id
    → Reads (role.Begin ⊳ w ∷ us ++ is ++ role.Else ⊳ y ∷ ys ++ js ++ role.End ⊳ z ∷ xs)
    (Code.choice (head w label ty else_id end_id) c d Code.empty)
if-else-reads y z {w = w} {us = us} {is = is} {ys = ys} {js = js} {xs = xs} n opening a m b e = record {
  raw = Code.choice (headed w us ys xs) a.raw b.raw Code.empty;
  means = Means.choice n opening m e a.means b.means Means.nothing;
  reads = λ rest behind ls h.
      let end_row : List Said = role.End ⊳ z ∷ (xs ++ rest) in
      let else_row : List Said = role.Else ⊳ y ∷ (ys ++ (js ++ end_row)) in
      let same : (us ++ is ++ role.Else ⊳ y ∷ ys ++ js ++ role.End ⊳ z ∷ xs) ++ rest
      ≡ us ++ (is ++ else_row) = simp append_assoc in
      let last = name-reads role.End z rest behind ls refl (id-roles refl e) h in
      let second = b.reads end_row Code.empty (ended xs behind ∷ ls) last in
      let turn = name-reads role.Else y (js ++ end_row) (b.raw ⧺ Code.empty) (ended xs behind ∷ ls) refl
      (id-roles refl m) second in
      ap (λ (all : List Said). read (role.Begin ⊳ w ∷ all)) same
      ∙ name-reads role.Begin w (is ++ else_row) (a.raw ⧺ Code.empty)
      (turned xs ys (b.raw ⧺ Code.empty) behind ∷ ls) refl
      (head-roles opening)
      (a.reads else_row Code.empty (turned xs ys (b.raw ⧺ Code.empty) behind ∷ ls) turn)
      ∙ ap (λ (code : Raw). reading [] (Code.choice (headed w us ys xs) code (b.raw ⧺ Code.empty) behind) ls)
      (append-empty a.raw)
      ∙ ap (λ (code : Raw). reading [] (Code.choice (headed w us ys xs) a.raw code behind) ls)
      (append-empty b.raw);
}

-- a folded if without a second part
folded-then-reads : (t z : KeptToken) {w : KeptToken} {us cs is : List Said} {label : Option Identifier}
    {ty : BlockType} {c d : Instrs} → NamesInstruction w op.If → IsHead us label ty
    → Reads cs c → Reads is d
    → Reads (role.HeldBegin ⊳ w ∷ us ++ cs ++ role.Then ⊳ t ∷ is ++ role.End ⊳ z ∷ [])
    (c ⧺ Code.choice (head w label ty None None) d Code.empty Code.empty)
folded-then-reads t z {w = w} {us = us} {cs = cs} {is = is} n opening a b =
    let h : Headed = headed w us [] [] in record {
      raw = a.raw ⧺ Code.choice h b.raw Code.empty Code.empty;
      means = means-append a.means
          (Means.choice n opening IsId.absent IsId.absent b.means Means.nothing Means.nothing);
      reads = λ rest behind ls e.
          let end_row : List Said = role.End ⊳ z ∷ rest in
          let then_row : List Said = role.Then ⊳ t ∷ (is ++ end_row) in
          let same : (us ++ cs ++ role.Then ⊳ t ∷ is ++ role.End ⊳ z ∷ []) ++ rest
          ≡ us ++ (cs ++ then_row) = simp append_assoc in
          let last = name-reads role.End z rest behind ls refl AllRoles.none e in
          let first = b.reads end_row Code.empty (ended [] behind ∷ ls) last in
          let turn = name-reads role.Then t (is ++ end_row) (b.raw ⧺ Code.empty) (ended [] behind ∷ ls) refl
          AllRoles.none first in
          ap (λ (all : List Said). read (role.HeldBegin ⊳ w ∷ all)) same
          ∙ name-reads role.HeldBegin w (cs ++ then_row) (a.raw ⧺ Code.empty)
          (conditioned [] [] (b.raw ⧺ Code.empty) Code.empty behind ∷ ls) refl
          (head-roles opening)
          (a.reads then_row Code.empty (conditioned [] [] (b.raw ⧺ Code.empty) Code.empty behind ∷ ls) turn)
          ∙ ap (λ (code : Raw). reading [] (code ⧺ Code.choice h (b.raw ⧺ Code.empty) Code.empty behind) ls)
          (append-empty a.raw)
          ∙ ap (λ (code : Raw). reading [] (a.raw ⧺ Code.choice h code Code.empty behind) ls) (append-empty b.raw)
          ∙ ap (λ (code : Raw). reading [] code ls)
          (sym (append-assoc a.raw (Code.choice h b.raw Code.empty Code.empty) behind));
    }

-- and with one
folded-else-reads : (t y z : KeptToken) {w : KeptToken} {us cs is js : List Said} {label : Option Identifier}
    {ty : BlockType} {c d e : Instrs} → NamesInstruction w op.If → IsHead us label ty
    → Reads cs c → Reads is d → Reads js e
    → Reads (role.HeldBegin ⊳ w ∷ us ++ cs ++ role.Then ⊳ t ∷ is ++ role.Else ⊳ y ∷ js ++ role.End ⊳ z ∷ [])
    (c ⧺ Code.choice (head w label ty None None) d e Code.empty)
folded-else-reads t y z {w = w} {us = us} {cs = cs} {is = is} {js = js} n opening a b d =
    let h : Headed = headed w us [] [] in record {
      raw = a.raw ⧺ Code.choice h b.raw d.raw Code.empty;
      means = means-append a.means
          (Means.choice n opening IsId.absent IsId.absent b.means d.means Means.nothing);
      reads = λ rest behind ls e.
          let end_row : List Said = role.End ⊳ z ∷ rest in
          let else_row : List Said = role.Else ⊳ y ∷ (js ++ end_row) in
          let then_row : List Said = role.Then ⊳ t ∷ (is ++ else_row) in
          let same : (us ++ cs ++ role.Then ⊳ t ∷ is ++ role.Else ⊳ y ∷ js ++ role.End ⊳ z ∷ []) ++ rest
          ≡ us ++ (cs ++ then_row) = simp append_assoc in
          let last = name-reads role.End z rest behind ls refl AllRoles.none e in
          let second = d.reads end_row Code.empty (ended [] behind ∷ ls) last in
          let turn = name-reads role.Else y (js ++ end_row) (d.raw ⧺ Code.empty) (ended [] behind ∷ ls) refl
          AllRoles.none second in
          let first = b.reads else_row Code.empty (turned [] [] (d.raw ⧺ Code.empty) behind ∷ ls) turn in
          let then_read = name-reads role.Then t (is ++ else_row) (b.raw ⧺ Code.empty)
          (turned [] [] (d.raw ⧺ Code.empty) behind ∷ ls) refl AllRoles.none first in
          ap (λ (all : List Said). read (role.HeldBegin ⊳ w ∷ all)) same
          ∙ name-reads role.HeldBegin w (cs ++ then_row) (a.raw ⧺ Code.empty)
          (conditioned [] [] (b.raw ⧺ Code.empty) (d.raw ⧺ Code.empty) behind ∷ ls) refl
          (head-roles opening)
          (a.reads then_row Code.empty
          (conditioned [] [] (b.raw ⧺ Code.empty) (d.raw ⧺ Code.empty) behind ∷ ls) then_read)
          ∙ ap (λ (code : Raw). reading [] (code ⧺ Code.choice h (b.raw ⧺ Code.empty) (d.raw ⧺ Code.empty) behind) ls)
          (append-empty a.raw)
          ∙ ap (λ (code : Raw). reading [] (a.raw ⧺ Code.choice h code (d.raw ⧺ Code.empty) behind) ls)
          (append-empty b.raw)
          ∙ ap (λ (code : Raw). reading [] (a.raw ⧺ Code.choice h b.raw code behind) ls) (append-empty d.raw)
          ∙ ap (λ (code : Raw). reading [] code ls)
          (sym (append-assoc a.raw (Code.choice h b.raw d.raw Code.empty) behind));
    }

-- instructions are read as what means what they say
pub says-reads : {part : Part} {us : List Said} {c : Instrs} → Says part us c → Reads us c
says-reads Says.none = nothing-reads
says-reads (Says.more a b) = both-read (says-reads a) (says-reads b)
says-reads (Says.plain h) = plain-reads h
says-reads (Says.folded a) = says-reads a
says-reads (Says.region z r h a e) = region-reads z r h (says-reads a) e
says-reads (Says.if_then z n h a e) = if-reads z n h (says-reads a) e
says-reads (Says.if_else y z n h a m b e) = if-else-reads y z n h (says-reads a) m (says-reads b) e
says-reads Says.no_folded = nothing-reads
says-reads (Says.more_folded a b) = both-read (says-reads a) (says-reads b)
says-reads (Says.folded_plain z h a) = folded-plain-reads z h (says-reads a)
says-reads (Says.folded_region z r h a) = region-reads z r h (says-reads a) IsId.absent
says-reads (Says.folded_then t z n h a b) = folded-then-reads t z n h (says-reads a) (says-reads b)
says-reads (Says.folded_else t y z n h a b d) =
    folded-else-reads t y z n h (says-reads a) (says-reads b) (says-reads d)
