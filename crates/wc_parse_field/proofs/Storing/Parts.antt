-- Parts of fields, token by token.
use Rattle.std.proofs.Common.{◌≡◌, ℕ, suc, Bool, true, List, [], ◌∷◌, ◌++◌, Option, Some, None}
use Rattle.std.proofs.Common.{refl, sym, ap, ◌∙◌, subst, append_assoc, append-nil}
use Rattle.std.specs.Prelude.{map, option_map}
use Rattle.std.proofs.lemmas.List.{map-append}
use Rattle.wc_ast.specs.declared.limits.Limits.{Limits}
use Rattle.wc_ast.specs.declared.limits.GlobalType.{GlobalType}
use Rattle.wc_ast.specs.declared.export.ExportKind.{ExportKind}
use Rattle.wc_syntax.specs.declared.kind.Kind.{Kind}
use Rattle.wc_syntax.specs.declared.role.Role.TheVariants as role
use Rattle.wc_symbols.specs.declared.symbol.Value.{Value}
use Rattle.wc_surface.specs.declared.id.Index.{Index as StoredIndex}
use Rattle.wc_surface.specs.declared.local.Local.{Local as StoredLocal}
use Rattle.wc_surface.specs.Standard.Identifiers.{Identifier}
use Rattle.wc_surface.specs.Standard.Written.Indices.{Index}
use Rattle.wc_surface.specs.Standard.Written.Fields.{Import, Local, Declared}
use Rattle.wc_parse_code.specs.declared.use_draft.UseDraft.{UseDraft}
use Rattle.wc_parse_code.specs.Standard.Tokens.{KeptToken}
use Rattle.wc_parse_code.specs.Drafting.Words.{number_in}
use Rattle.wc_parse_code.specs.Standard.Productions.Tokens.{Said, ◌⊳◌, IsId, IsNatural, IsIndex, u32, bytes}
use Rattle.wc_parse_code.specs.Standard.Productions.Kept.{IsSpoken}
use Rattle.wc_parse_code.specs.Stored.TypeUses.{index_as}
use Rattle.wc_parse_code.proofs.Storing.Ordered.Following.{Follow}
use Rattle.wc_parse_code.proofs.Storing.Words.{number-is, stored-index}
use Rattle.wc_parse_field.specs.declared.names.Names.{Names}
use Rattle.wc_parse_field.specs.declared.locals_draft.LocalsDraft.{LocalsDraft}
use Rattle.wc_parse_field.specs.declared.contents.Contents.{Contents}
use Rattle.wc_parse_field.specs.declared.code_draft.CodeDraft.{CodeDraft}
use Rattle.wc_parse_field.specs.declared.field_draft.FieldDraft.{FieldDraft}
use Rattle.wc_parse_field.specs.Drafting.Fields.{name_of, with_export, with_inline_export, described, with_local}
use Rattle.wc_parse_field.specs.Drafting.Fields.{with_min, with_max, with_value_type, first_limits, first_global}
use Rattle.wc_parse_field.specs.Drafting.Following.{Takes}
use Rattle.wc_parse_field.specs.Standard.Productions.Parts.{IsKeyword, IsName, AreStrings, AreElements, AreExports}
use Rattle.wc_parse_field.specs.Standard.Productions.Parts.{IsDeclared}
use Rattle.wc_parse_field.specs.Standard.Productions.Parts.{IsImport, IsInlineImport, AreUnnamed, IsLocal, AreLocals}
use Rattle.wc_parse_field.specs.Standard.Productions.Parts.{AreLimits, IsGlobalType, IsTarget}
use Rattle.wc_parse_field.specs.Stored.Fields.{local_as}
use Rattle.wc_parse_field.proofs.NameLemmas.{name-kept}
use Rattle.wc_parse_field.proofs.Storing.Taking.{draft, names, contents, one-word, one-string}

-- the other tokens, as those that stand behind two parts, one after the other
pub in-two : {d e : FieldDraft} (us vs rest : List Said) → Takes d ((us ++ vs) ++ rest) e
    → Takes d (us ++ (vs ++ rest)) e
in-two {d = d} {e = e} us vs rest h =
    subst (λ (all : List Said). Takes d all e) (append_assoc us vs rest) h

-- ---- names

-- inline exports of a field of this kind are its own
abbrev pub Inline : Kind → Type 0
Inline k = (name : List ℕ) (n : Names) → with_export k name n ≡ with_inline_export name n

module _ {k : Kind} {t : ℕ} {x : ExportKind} {u : UseDraft} {l : LocalsDraft} {m : Limits} {g : GlobalType}
    {c : Contents} {b : CodeDraft} {e : FieldDraft} where
  pub id-taken : {xs : List (List ℕ)} {im : Option ℕ} {mo it : List ℕ} {us rest : List Said} {i : Option Identifier}
      → IsId role.FieldId us i → Takes (draft k t (names None xs im mo it) x u l m g c b) (us ++ rest) e
      → Takes (draft k t (names i xs im mo it) x u l m g c b) rest e
  id-taken IsId.absent h = h
  id-taken (IsId.there (bytes f)) h = one-word refl h

  exports-taken : Inline k → (i : Option Identifier) (im : Option ℕ) (mo it : List ℕ) (xs : List (List ℕ))
      {us rest : List Said} {ns : List (List ℕ)} → AreExports us ns
      → Takes (draft k t (names i xs im mo it) x u l m g c b) (us ++ rest) e
      → Takes (draft k t (names i (xs ++ ns) im mo it) x u l m g c b) rest e
  exports-taken f i im mo it xs {rest = rest} AreExports.none h =
      subst (λ (ys : List (List ℕ)). Takes (draft k t (names i ys im mo it) x u l m g c b) rest e)
      (sym (append-nil xs)) h
  exports-taken f i im mo it xs {rest = rest} (AreExports.more {us = us} {name = name} {names = ns} n others) h =
      let before : Names = names i xs im mo it in
      let one : Takes (draft k t (with_inline_export name before) x u l m g c b) (us ++ rest) e =
      subst (λ (n : Names). Takes (draft k t n x u l m g c b) (us ++ rest) e)
      (ap (λ (s : List ℕ). with_export k s before) (sym (name-kept name n.utf8)) ∙ f name before)
      (one-string refl n.string h) in
      subst (λ (ys : List (List ℕ)). Takes (draft k t (names i ys im mo it) x u l m g c b) rest e)
      (append_assoc xs (name ∷ []) ns)
      (exports-taken f i im mo it (xs ++ name ∷ []) others one)

  pub declared-taken : Inline k → {im : Option ℕ} {mo it : List ℕ} {us rest : List Said} {d : Declared}
      → IsDeclared us d → Takes (draft k t (names None [] im mo it) x u l m g c b) (us ++ rest) e
      → Takes (draft k t (names d.id d.exports im mo it) x u l m g c b) rest e
  declared-taken f {im = im} {mo = mo} {it = it} {rest = rest} (IsDeclared.both {us = us} {vs = vs} {i = i} a n) h =
      exports-taken f i im mo it [] n (id-taken a (in-two us vs rest h))

  pub import-taken : {w : KeptToken} {i : Option Identifier} {xs : List (List ℕ)} {im : Option ℕ}
      {us rest : List Said} {y : Import} → IsImport w us y → Takes (draft k t (names i xs im [] []) x u l m g c b)
      (us ++ rest) e
      → Takes (draft k t (names i xs im y.«module» y.item) x u l m g c b) rest e
  import-taken {i = i} {xs = xs} {im = im} {rest = rest}
      (IsImport.names {module_name = mo} {item_name = it} a n) h =
      subst (λ (s : List ℕ). Takes (draft k t (names i xs im s it) x u l m g c b) rest e) (sym (name-kept mo a.utf8))
      (subst (λ (s : List ℕ). Takes (draft k t (names i xs im (name_of mo) s) x u l m g c b) rest e)
      (sym (name-kept it n.utf8))
      (one-string refl n.string (one-string refl a.string h)))

  pub inline-taken : {i : Option Identifier} {xs : List (List ℕ)} {us rest : List Said} {y : Import}
      → IsInlineImport us y → Takes (draft k t (names i xs None [] []) x u l m g c b) (us ++ rest) e
      → Takes (draft k t (names i xs (Some y.token) y.«module» y.item) x u l m g c b) rest e
  inline-taken (IsInlineImport.word {w = w} (IsImport.names a n)) h =
      import-taken {w = w} (IsImport.names a n) (one-word refl h)

  -- the name of an export field
  pub item-taken : {w : KeptToken} {i : Option Identifier} {xs : List (List ℕ)} {im : Option ℕ} {mo name : List ℕ}
      {rest : List Said}
      → ((name : List ℕ) (n : Names) → with_export k name n ≡ record n { item = name }) → IsName w name
      → Takes (draft k t (names i xs im mo []) x u l m g c b) (role.ExportName ⊳ w ∷ rest) e
      → Takes (draft k t (names i xs im mo name) x u l m g c b) rest e
  item-taken {i = i} {xs = xs} {im = im} {mo = mo} {name = name} {rest = rest} f n h =
      subst (λ (n : Names). Takes (draft k t n x u l m g c b) rest e)
      (ap (λ (s : List ℕ). with_export k s (names i xs im mo [])) (sym (name-kept name n.utf8))
      ∙ f name (names i xs im mo [])) (one-string refl n.string h)

-- ---- what an import brings or an export lends

module _ {k : Kind} {t : ℕ} {n : Names} {u : UseDraft} {l : LocalsDraft} {m : Limits} {g : GlobalType}
    {c : Contents} {b : CodeDraft} {e : FieldDraft} where
  pub kind-taken : {w : KeptToken} {v : Kind} {x : ExportKind} {rest : List Said} → IsKeyword w v
      → Takes (draft k t n x u l m g c b) (role.Description ⊳ w ∷ rest) e
      → Takes (draft k t n (described v x) u l m g c b) rest e
  kind-taken {x = x} {rest = rest} f h =
      subst (λ (v : Kind). Takes (draft k t n (described v x) u l m g c b) rest e) f (one-word refl h)

-- ---- locals

-- these locals so far
abbrev pub locals_so : List StoredLocal → LocalsDraft
locals_so xs = record { id = None; locals = xs }

module _ {k : Kind} {t : ℕ} {n : Names} {x : ExportKind} {u : UseDraft} {m : Limits} {g : GlobalType}
    {c : Contents} {b : CodeDraft} {e : FieldDraft} where
  unnamed-taken : (xs : List StoredLocal) {us rest : List Said} {ls : List Local} → AreUnnamed us ls
      → Takes (draft k t n x u (locals_so xs) m g c b) (us ++ rest) e
      → Takes (draft k t n x u (locals_so (xs ++ map local_as ls)) m g c b) rest e
  unnamed-taken xs {rest = rest} AreUnnamed.none h =
      subst (λ (ys : List StoredLocal). Takes (draft k t n x u (locals_so ys) m g c b) rest e) (sym (append-nil xs)) h
  unnamed-taken xs {rest = rest} (AreUnnamed.more {w = w} {t = ty} {us = us} {ls = ls} f others) h =
      let one : StoredLocal = record { id = None; ty = ty; token = w.token } in
      subst (λ (ys : List StoredLocal). Takes (draft k t n x u (locals_so ys) m g c b) rest e)
      (append_assoc xs (one ∷ []) (map local_as ls))
      (unnamed-taken (xs ++ one ∷ []) others
      (subst (λ (v : Value). Takes (draft k t n x u (with_local v w.token (record { id = None; locals = xs })) m g c b)
      (us ++ rest) e) f (one-word refl h)))

  local-taken : (xs : List StoredLocal) {us rest : List Said} {ls : List Local} → IsLocal us ls
      → Takes (draft k t n x u (locals_so xs) m g c b) (us ++ rest) e
      → Takes (draft k t n x u (locals_so (xs ++ map local_as ls)) m g c b) rest e
  local-taken xs {rest = rest} (IsLocal.one {w = w} (bytes {w = i} p) f) h =
      let id : Identifier = record { token = i.token; text = i.text } in
      subst (λ (v : Value). Takes (draft k t n x u (with_local v w.token
      (record { id = Some id; locals = xs })) m g c b) rest e) f
      (one-word refl (one-word refl h))
  local-taken xs (IsLocal.several ls) h = unnamed-taken xs ls h

  pub locals-taken : (xs : List StoredLocal) {us rest : List Said} {ls : List Local} → AreLocals us ls
      → Takes (draft k t n x u (locals_so xs) m g c b) (us ++ rest) e
      → Takes (draft k t n x u (locals_so (xs ++ map local_as ls)) m g c b) rest e
  locals-taken xs {rest = rest} AreLocals.none h =
      subst (λ (ys : List StoredLocal). Takes (draft k t n x u (locals_so ys) m g c b) rest e) (sym (append-nil xs)) h
  locals-taken xs {rest = rest} (AreLocals.more {us = us} {vs = vs} {ks = ks} {ls = ls} a others) h =
      subst (λ (ys : List StoredLocal). Takes (draft k t n x u (locals_so ys) m g c b) rest e)
      (append_assoc xs (map local_as ks) (map local_as ls)
      ∙ ap (λ (ys : List StoredLocal). xs ++ ys) (sym (map-append local_as ks ls)))
      (locals-taken (xs ++ map local_as ks) others (local-taken xs a (in-two us vs rest h)))

-- ---- limits

number-in : {w : KeptToken} {n : ℕ} → IsSpoken w → IsNatural w n
    → number_in w.symbol.value ≡ Some n
number-in s h = number-is s (u32 h)

module _ {k : Kind} {t : ℕ} {n : Names} {x : ExportKind} {u : UseDraft} {l : LocalsDraft} {g : GlobalType}
    {c : Contents} {b : CodeDraft} {e : FieldDraft} where
  pub limits-taken : (lo hi : ℕ) {us rest : List Said} {m : Limits} → AreLimits us m → Follow lo us hi
      → Takes (draft k t n x u l first_limits g c b) (us ++ rest) e → Takes (draft k t n x u l m g c b) rest e
  limits-taken lo hi {rest = rest} (AreLimits.least a) f h =
      subst (λ (v : Option ℕ). Takes (draft k t n x u l (with_min v first_limits) g c b) rest e) (number-in f.0 a)
      (one-word refl h)
  limits-taken lo hi {rest = rest} (AreLimits.both {x = y} {n = least} a d) f h =
      subst (λ (v : Option ℕ). Takes (draft k t n x u l (with_max v (record { min = least; max = None })) g c b) rest e)
      (number-in f.3.0 d) (one-word refl
      (subst (λ (v : Option ℕ). Takes (draft k t n x u l (with_min v first_limits) g c b) (role.LimitsMax ⊳ y ∷ rest) e)
      (number-in f.0 a) (one-word refl h)))

-- ---- the type of a global

module _ {k : Kind} {t : ℕ} {n : Names} {x : ExportKind} {u : UseDraft} {l : LocalsDraft} {m : Limits}
    {c : Contents} {b : CodeDraft} {e : FieldDraft} where
  pub global-taken : {us rest : List Said} {g : GlobalType} → IsGlobalType us g
      → Takes (draft k t n x u l m first_global c b) (us ++ rest) e → Takes (draft k t n x u l m g c b) rest e
  global-taken {rest = rest} (IsGlobalType.constant f) h =
      subst (λ (v : Value). Takes (draft k t n x u l m (with_value_type v first_global) c b) rest e) f (one-word refl h)
  global-taken {rest = rest} (IsGlobalType.variable f) h =
      subst (λ (v : Value). Takes (draft k t n x u l m (with_value_type v
      (record first_global { mutable = true })) c b) rest e) f
      (one-word refl (one-word refl h))

-- ---- what stands in segments

module _ {k : Kind} {t : ℕ} {n : Names} {x : ExportKind} {u : UseDraft} {l : LocalsDraft} {m : Limits}
    {g : GlobalType} {b : CodeDraft} {e : FieldDraft} where
  pub index-taken : {inside : Bool} {y : Option StoredIndex} {xs : List StoredIndex} {bs : List ℕ} {w : KeptToken}
      {rest : List Said} {i : Index} → IsIndex w i → IsSpoken w
      → Takes (draft k t n x u l m g (contents inside y xs bs) b) (role.Target ⊳ w ∷ rest) e
      → Takes (draft k t n x u l m g (contents inside (Some (index_as i)) xs bs) b) rest e
  index-taken {inside = inside} {xs = xs} {bs = bs} {rest = rest} i s h =
      subst (λ (y : StoredIndex). Takes (draft k t n x u l m g (contents inside (Some y) xs bs) b) rest e)
      (stored-index s i)
      (one-word refl h)

  pub target-taken : (lo hi : ℕ) {inside : Bool} {xs : List StoredIndex} {bs : List ℕ} {us rest : List Said}
      {i : Option Index} → IsTarget us i → Follow lo us hi
      → Takes (draft k t n x u l m g (contents inside None xs bs) b) (us ++ rest) e
      → Takes (draft k t n x u l m g (contents inside (option_map index_as i) xs bs) b) rest e
  target-taken lo hi IsTarget.absent f h = h
  target-taken lo hi (IsTarget.there i) f h = index-taken i f.0 h

  pub elements-taken : (lo hi : ℕ) (inside : Bool) (y : Option StoredIndex) (xs : List StoredIndex) (bs : List ℕ)
      {us rest : List Said} {is : List Index} → AreElements us is → Follow lo us hi
      → Takes (draft k t n x u l m g (contents inside y xs bs) b) (us ++ rest) e
      → Takes (draft k t n x u l m g (contents inside y (xs ++ map index_as is) bs) b) rest e
  elements-taken lo hi inside y xs bs {rest = rest} AreElements.none f h =
      subst (λ (ys : List StoredIndex). Takes (draft k t n x u l m g (contents inside y ys bs) b) rest e)
      (sym (append-nil xs)) h
  elements-taken lo hi inside y xs bs {rest = rest} (AreElements.more {w = w} {us = us} {x = i}
      {xs = is} a others) f h =
      subst (λ (ys : List StoredIndex). Takes (draft k t n x u l m g (contents inside y ys bs) b) rest e)
      (append_assoc xs (index_as i ∷ []) (map index_as is))
      (elements-taken (suc w.token) hi inside y (xs ++ index_as i ∷ []) bs others f.3
      (subst (λ (i : StoredIndex). Takes (draft k t n x u l m g (contents inside y (xs ++ i ∷ []) bs) b) (us ++ rest) e)
      (stored-index f.0 a) (one-word refl h)))

  pub strings-taken : (inside : Bool) (y : Option StoredIndex) (xs : List StoredIndex) (bs : List ℕ)
      {us rest : List Said} {more : List ℕ} → AreStrings us more
      → Takes (draft k t n x u l m g (contents inside y xs bs) b) (us ++ rest) e
      → Takes (draft k t n x u l m g (contents inside y xs (bs ++ more)) b) rest e
  strings-taken inside y xs bs {rest = rest} AreStrings.none h =
      subst (λ (ys : List ℕ). Takes (draft k t n x u l m g (contents inside y xs ys) b) rest e) (sym (append-nil bs)) h
  strings-taken inside y xs bs {rest = rest} (AreStrings.more {bytes = front} {others = back} s others) h =
      subst (λ (ys : List ℕ). Takes (draft k t n x u l m g (contents inside y xs ys) b) rest e)
      (append_assoc bs front back)
      (strings-taken inside y xs (bs ++ front) others (one-string refl s h))
