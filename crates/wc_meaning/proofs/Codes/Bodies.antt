-- The instructions of a body: one, the head of a block, and all of them inside one another.
use Rattle.std.proofs.Common.{◌≡◌, ℕ, suc, ◌-◌, List, [], ◌∷◌, ◌++◌, map, length, take, drop, Option, Some, None}
use Rattle.std.proofs.Common.{slice_get, slice_index_or, refl, ap, ap₂, ◌∙◌, arith}
use Rattle.std.proofs.lemmas.List.{map-append, drop-map, take-map, length_push, get_or_push, take_at}
use Rattle.std.proofs.lemmas.Grind.{flat_map-append}
use Rattle.std.proofs.lemmas.Option.{slice_get-map, get_or_from_slice_get}
use Rattle.std.specs.Prelude.{option_map, is_some, if◌then◌else◌}
use Rattle.std.specs.List.{flat_map}
use Rattle.std.specs.Option.{unwrap_or}
use Rattle.wc_ops.specs.declared.op.IndexOp.{IndexOp}
use Rattle.wc_ops.specs.declared.op.IndexOp.TheVariants.{Br, BrIf, Call, LocalGet, LocalSet, LocalTee, GlobalGet}
use Rattle.wc_ops.specs.declared.op.IndexOp.TheVariants.{GlobalSet}
use Rattle.wc_body.specs.declared.instr.Instr.{Instr}
use Rattle.wc_body.specs.declared.instr.Instr.TheVariants as binary
use Rattle.wc_body.specs.declared.instr.BlockType.{BlockType as ResolvedType}
use Rattle.wc_body.specs.declared.instr.BlockType.TheVariants.{Index as IndexOf}
use Rattle.wc_body.specs.Standard.Nested.{Region, Code, empty, op, region, choice}
use Rattle.wc_body.specs.Standard.Placed.{placed, mapped}
use Rattle.wc_body.specs.Standard.Throughout.{Throughout}
use Rattle.wc_ast.specs.declared.export.ExportKind.TheVariants as kind
use Rattle.wc_resolve_code.specs.declared.why.NameWhy.TheVariants.{UnknownId, LabelDiffers}
use Rattle.wc_spaces.specs.Standard.Spaces.{is_named, place_of}
use Rattle.wc_surface.specs.declared.type_use.User.{User as StoredUser}
use Rattle.wc_surface.specs.declared.type_use.User.TheVariants as user
use Rattle.wc_surface.specs.declared.instr.Operand.{Operand}
use Rattle.wc_surface.specs.declared.head.Head.{Head as StoredHead}
use Rattle.wc_surface.specs.declared.head.TextBody.{TextBody}
use Rattle.wc_surface.specs.Standard.Identifiers.{Identifier}
use Rattle.wc_surface.specs.Standard.Written.Indices.{Index, number, named}
use Rattle.wc_surface.specs.Standard.Written.TypeUses.{TypeUse}
use Rattle.wc_surface.specs.Standard.Written.Instructions.{Plain, simple, indexed, br_table, call_indirect, access}
use Rattle.wc_surface.specs.Standard.Written.Instructions.{i32_const, i64_const, BlockType, short, use_of, Head, Instrs}
use Rattle.wc_surface.specs.Standard.Written.Fields.{Field}
use Rattle.wc_parse_code.specs.Stored.TypeUses.{use_as}
use Rattle.wc_parse_code.specs.Stored.Rows.{Rows, index_token}
use Rattle.wc_parse_code.specs.Stored.Bodies.{Places, places_in, first_label, operand_as, plain_as, type_as}
use Rattle.wc_parse_code.specs.Stored.Bodies.{head_as, code_as, body_with}
use Rattle.wc_parse_field.specs.Stored.Fields.{field_as}
use Rattle.wc_resolve_code.specs.Standard.Contexts.{Declared, Context as StoredContext}
use Rattle.wc_resolve_code.specs.Standard.Operands as operands
use Rattle.wc_resolve_code.specs.Standard.Instructions as instructions
use Rattle.wc_resolve_code.specs.Standard.Heads as heads
use Rattle.wc_resolve_code.specs.Standard.Bodies as bodies
use Rattle.wc_resolve_func.specs.Standard.Contexts as contexts
use Rattle.wc_resolve_func.specs.Standard.Locals as old_locals
use Rattle.wc_meaning.specs.Standard.Contexts.{Space, Context, Faults, fault, bytes_in, index_in, index_faults}
use Rattle.wc_meaning.specs.Standard.Uses.{use_index}
use Rattle.wc_meaning.specs.Standard.Instructions.{space_of, resolved_plain, resolved_type, plain_faults, differing}
use Rattle.wc_meaning.specs.Standard.Instructions.{head_faults, resolved, instrs_faults}
use Rattle.wc_meaning.specs.Standard.Denoted.{context_of}
use Rattle.wc_meaning.specs.Stored.Placed.{IndexPlaced, LabelsPlaced, PlainPlaced, TypePlaced, HeadPlaced}
use Rattle.wc_meaning.proofs.Lists.{both, map-where, flat-where}
use Rattle.wc_meaning.proofs.Spaced.{space-texts}
use Rattle.wc_meaning.proofs.Types.Judged.{use-indexed}

-- a branch by labels whose default stands last
table-is : (xs : List ℕ) (y : ℕ) → instructions.table (xs ++ y ∷ []) ≡ binary.BrTable y xs
table-is xs y =
    let n : length (xs ++ y ∷ []) - 1 ≡ length xs = omega (arith, length_push xs y) in
    ap (λ (k : ℕ). binary.BrTable (slice_index_or (xs ++ y ∷ []) k 0) (take k (xs ++ y ∷ []))) n
    ∙ ap₂ (λ (d : ℕ) (ls : List ℕ). binary.BrTable d ls) (get_or_push xs y 0 (length xs) refl)
    (take_at xs (y ∷ []) (length xs) refl)

text-same : (i : Option Identifier) → heads.text_in i ≡ bytes_in i
text-same None = refl
text-same (Some i) = refl

differing-same : (label o : Option Identifier) → heads.differing label o ≡ differing label o
differing-same label None = refl
differing-same label (Some i) =
    ap (λ (t : Option (List ℕ)). if is_named i.text t then [] else fault i.token LabelDiffers) (text-same label)

region-both : (r : Region) {t u : ResolvedType} {a b x y : Code Instr ResolvedType} → t ≡ u → a ≡ b → x ≡ y
    → region r t a x ≡ region r u b y
region-both r e f g = λ i. region r (e i) (f i) (g i)

choice-both : {t u : ResolvedType} {a b p q x y : Code Instr ResolvedType} → t ≡ u → a ≡ b → p ≡ q → x ≡ y
    → choice t a p x ≡ choice u b q y
choice-both e f g h = λ i. choice (e i) (f i) (g i) (h i)

-- instructions with these rows, around which this is known
module _ (ws : List Field) (rows : Rows) (root : Instrs) (locals : Space) (declared : Declared)
    (locals_are : declared ≡ map bytes_in locals) where
  abbrev pub places : Places
  places = places_in rows

  abbrev pub body : TextBody
  body = body_with places rows root

  abbrev pub known : StoredContext
  known = contexts.context_of (map field_as ws) declared body

  abbrev pub around : Space → Context
  around labels = record (context_of ws) { locals = locals; labels = labels }

  -- ---- indices

  index-same : (ds : Declared) (space : Space) → ds ≡ map bytes_in space → (x : Index) → IndexPlaced rows x
      → operands.index_in ds rows.ids (operand_as places x) ≡ index_in space x
  index-same ds space e (number token n) h = refl
  index-same ds space e (named i) h =
      ap (operands.place_or_zero ds) h ∙ ap (λ (xs : Declared). unwrap_or (place_of i.text xs) 0) e

  faults-same : (ds : Declared) (space : Space) → ds ≡ map bytes_in space → (x : Index) → IndexPlaced rows x
      → operands.index_faults ds rows.ids (operand_as places x) ≡ index_faults space x
  faults-same ds space e (number token n) h = refl
  faults-same ds space e (named i) h =
      ap (operands.unknown ds) h
      ∙ ap (λ (xs : Declared). if is_some (place_of i.text xs) then [] else fault i.token UnknownId) e

  space-same : (o : IndexOp) (labels : Space) (inside : Declared) → inside ≡ map bytes_in labels
      → operands.space_of known inside o ≡ map bytes_in (space_of (around labels) o)
  space-same Br labels inside e = e
  space-same BrIf labels inside e = e
  space-same Call labels inside e = space-texts kind.Func ws
  space-same LocalGet labels inside e = locals_are
  space-same LocalSet labels inside e = locals_are
  space-same LocalTee labels inside e = locals_are
  space-same GlobalGet labels inside e = space-texts kind.Global ws
  space-same GlobalSet labels inside e = space-texts kind.Global ws

  -- ---- type uses

  use-found : (place : ℕ) (user : StoredUser) (token : ℕ) (u : TypeUse)
      → slice_get rows.uses place ≡ Some (use_as user token u)
      → instructions.type_at known place ≡ use_index (context_of ws) u
  use-found place user token u h =
      get_or_from_slice_get (map (old_locals.type_index (map field_as ws)) rows.uses) place _ 0
      (slice_get-map (old_locals.type_index (map field_as ws)) rows.uses place
      ∙ ap (option_map (old_locals.type_index (map field_as ws))) h)
      ∙ use-indexed ws user token u

  -- ---- the labels of a `br_table`

  labels-cut : (labels : List Index) (default : Index) → LabelsPlaced rows labels default
      → instructions.labels_at body (places.label_at (index_token (first_label labels default))) (suc (length labels))
      ≡ map (operand_as places) (labels ++ default ∷ [])
  labels-cut labels default h =
      let first : ℕ = places.label_at (index_token (first_label labels default)) in
      ap (take (suc (length labels))) (drop-map (operand_as places) first rows.labels)
      ∙ take-map (operand_as places) (suc (length labels)) (drop first rows.labels)
      ∙ ap (map (operand_as places)) h

  -- ---- an instruction

  pub plain-same : (p : Plain) (labels : Space) (inside : Declared) → inside ≡ map bytes_in labels → PlainPlaced rows p
      → instructions.resolved_instr known body inside (plain_as places p) ≡ resolved_plain (around labels) p
  plain-same (simple o) labels inside e h = refl
  plain-same (indexed o x) labels inside e h =
      ap (binary.Index o) (index-same (operands.space_of known inside o) (space_of (around labels) o)
      (space-same o labels inside e) x h)
  plain-same (br_table xs x) labels inside e h =
      ap (λ (os : List Operand). instructions.table (map (operands.index_in inside rows.ids) os)) (labels-cut xs x h.0)
      ∙ ap instructions.table
      (map-where (operand_as places) (IndexPlaced rows) (operands.index_in inside rows.ids) (index_in labels)
      (index-same inside labels e) (xs ++ x ∷ []) h.1
      ∙ map-append (index_in labels) xs (x ∷ []))
      ∙ table-is (map (index_in labels) xs) (index_in labels x)
  plain-same (call_indirect token u) labels inside e h =
      ap binary.CallIndirect (use-found (places.use_at token) user.CallIndirect token u h)
  plain-same (access o m) labels inside e h = refl
  plain-same (i32_const bits) labels inside e h = refl
  plain-same (i64_const bits) labels inside e h = refl

  pub plain-judged : (p : Plain) (labels : Space) (inside : Declared) → inside ≡ map bytes_in labels
      → PlainPlaced rows p
      → instructions.instr_faults known body inside (plain_as places p) ≡ plain_faults (around labels) p
  plain-judged (simple o) labels inside e h = refl
  plain-judged (indexed o x) labels inside e h =
      faults-same (operands.space_of known inside o) (space_of (around labels) o) (space-same o labels inside e) x h
  plain-judged (br_table xs x) labels inside e h =
      ap (λ (os : List Operand). flat_map (operands.index_faults inside rows.ids) os) (labels-cut xs x h.0)
      ∙ flat-where (operand_as places) (IndexPlaced rows) (operands.index_faults inside rows.ids) (index_faults labels)
      (faults-same inside labels e) (xs ++ x ∷ []) h.1
  plain-judged (call_indirect token u) labels inside e h = refl
  plain-judged (access o m) labels inside e h = refl
  plain-judged (i32_const bits) labels inside e h = refl
  plain-judged (i64_const bits) labels inside e h = refl

  -- ---- a head

  head-found : (h : Head) → HeadPlaced rows h → slice_get body.heads (places.head_at h.token) ≡ Some (head_as places h)
  head-found h k =
      slice_get-map (head_as places) rows.heads (places.head_at h.token) ∙ ap (option_map (head_as places)) k.0

  pub label-same : (h : Head) → HeadPlaced rows h → (labels : Space) (inside : Declared) → inside ≡ map bytes_in labels
      → heads.enter body inside (places.head_at h.token) ≡ map bytes_in (h.label ∷ labels)
  label-same h k labels inside e =
      ap (λ (o : Option StoredHead). heads.label_in o ∷ inside) (head-found h k)
      ∙ ap₂ (λ (t : Option (List ℕ)) (ts : Declared). t ∷ ts) (text-same h.label) e

  type-same : (labels : Space) (token : ℕ) (t : BlockType) → TypePlaced rows token t
      → heads.type_of known (type_as places token t) ≡ resolved_type (around labels) t
  type-same labels token (short None) h = refl
  type-same labels token (short (Some t)) h = refl
  type-same labels token (use_of u) h = ap IndexOf (use-found (places.use_at token) user.Block token u h)

  pub head-same : (h : Head) → HeadPlaced rows h → (labels : Space) (inside : Declared)
      → heads.resolved_head known body inside (places.head_at h.token) ≡ resolved_type (around labels) h.ty
  head-same h k labels inside = ap (heads.type_in known) (head-found h k) ∙ type-same labels h.token h.ty k.1

  pub head-judged : (h : Head) → HeadPlaced rows h
      → heads.head_faults body (places.head_at h.token) ≡ head_faults h
  head-judged h k =
      ap heads.faults_in (head-found h k) ∙ both (differing-same h.label h.else_id) (differing-same h.label h.end_id)

  -- ---- all of them

  -- instructions as they are stored, with numbers, inside these labels
  abbrev numbered : Declared → Instrs → Code Instr ResolvedType
  numbered inside c =
      mapped (heads.enter body) (instructions.resolved_instr known body) (heads.resolved_head known body) inside
      (code_as places c)

  -- and what is wrong with them
  abbrev judged : Declared → Instrs → Faults
  judged inside c = flat_map (bodies.mark_faults known body) (placed (heads.enter body) inside (code_as places c))

  pub all-same : (c : Instrs) (labels : Space) (inside : Declared) → inside ≡ map bytes_in labels
      → Throughout (PlainPlaced rows) (HeadPlaced rows) c → numbered inside c ≡ resolved (around labels) c
  all-same empty labels inside e t = refl
  all-same (op p next) labels inside e t =
      ap₂ (λ (i : Instr) (x : Code Instr ResolvedType). op i x) (plain-same p labels inside e t.0)
      (all-same next labels inside e t.1)
  all-same (region r h code next) labels inside e t =
      region-both r (head-same h t.0 labels inside)
      (all-same code (h.label ∷ labels) (heads.enter body inside (places.head_at h.token))
      (label-same h t.0 labels inside e) t.1)
      (all-same next labels inside e t.2)
  all-same (choice h first second next) labels inside e t =
      choice-both (head-same h t.0 labels inside)
      (all-same first (h.label ∷ labels) (heads.enter body inside (places.head_at h.token))
      (label-same h t.0 labels inside e) t.1)
      (all-same second (h.label ∷ labels) (heads.enter body inside (places.head_at h.token))
      (label-same h t.0 labels inside e) t.2)
      (all-same next labels inside e t.3)

  pub all-judged : (c : Instrs) (labels : Space) (inside : Declared) → inside ≡ map bytes_in labels
      → Throughout (PlainPlaced rows) (HeadPlaced rows) c → judged inside c ≡ instrs_faults (around labels) c
  all-judged empty labels inside e t = refl
  all-judged (op p next) labels inside e t =
      both (plain-judged p labels inside e t.0) (all-judged next labels inside e t.1)
  all-judged (region r h code next) labels inside e t =
      let within : Declared = heads.enter body inside (places.head_at h.token) in
      both (head-judged h t.0)
      (flat_map-append (bodies.mark_faults known body) (placed (heads.enter body) within (code_as places code))
      (placed (heads.enter body) inside (code_as places next))
      ∙ both (all-judged code (h.label ∷ labels) within (label-same h t.0 labels inside e) t.1)
      (all-judged next labels inside e t.2))
  all-judged (choice h first second next) labels inside e t =
      let within : Declared = heads.enter body inside (places.head_at h.token) in
      let same : within ≡ map bytes_in (h.label ∷ labels) = label-same h t.0 labels inside e in
      both (head-judged h t.0)
      (flat_map-append (bodies.mark_faults known body) (placed (heads.enter body) within (code_as places first))
      (placed (heads.enter body) within (code_as places second)
      ++ placed (heads.enter body) inside (code_as places next))
      ∙ both (all-judged first (h.label ∷ labels) within same t.1)
      (flat_map-append (bodies.mark_faults known body) (placed (heads.enter body) within (code_as places second))
      (placed (heads.enter body) inside (code_as places next))
      ∙ both (all-judged second (h.label ∷ labels) within same t.2) (all-judged next labels inside e t.3)))
