-- Functions, and first values and offsets.
use Rattle.std.proofs.Common.{◌≡◌, ℕ, zero, suc, ◌<◌, List, [], ◌∷◌, ◌++◌, map, length}
use Rattle.std.proofs.Common.{Option, Some, None, slice_get, slice_index_or, refl, ap, ap₂, ◌∙◌, arith}
use Rattle.std.proofs.lemmas.Bool.{eq-eqb, ne_eqb}
use Rattle.std.specs.Option.{unwrap_or}
use Rattle.wc_ops.specs.declared.val_type.ValType.{ValType}
use Rattle.wc_ast.specs.declared.func.Func.{Func}
use Rattle.wc_ast.specs.declared.func_type.FuncType.{FuncType}
use Rattle.wc_body.specs.declared.instr.Instr.{Instr}
use Rattle.wc_body.specs.declared.instr.BlockType.{BlockType}
use Rattle.wc_body.specs.Standard.Nested.{Code}
use Rattle.wc_surface.specs.declared.type_use.User.TheVariants as user
use Rattle.wc_surface.specs.declared.type_use.ParamName.{ParamName}
use Rattle.wc_surface.specs.Standard.Identifiers.{Identifier}
use Rattle.wc_surface.specs.Standard.Written.TypeUses.{Param, TypeUse}
use Rattle.wc_surface.specs.Standard.Written.Instructions.{Instrs}
use Rattle.wc_surface.specs.Standard.Written.Fields.{Local, Field}
use Rattle.wc_parse_code.specs.Stored.TypeUses.{name_at, names_from, use_as}
use Rattle.wc_parse_code.specs.Stored.Rows.{rows_of}
use Rattle.wc_parse_code.specs.Stored.Bodies.{body_as}
use Rattle.wc_parse_field.specs.Stored.Fields.{local_as, field_as}
use Rattle.wc_resolve_code.specs.Standard.Contexts.{Declared}
use Rattle.wc_declare.specs.Standard.Spaces.{texts}
use Rattle.wc_resolve_func.specs.Standard.Locals as old
use Rattle.wc_resolve_func.specs.Standard.Funcs as old_funcs
use Rattle.wc_resolve_func.specs.Standard.Constants as old_constants
use Rattle.wc_meaning.specs.Standard.Contexts.{Space, bytes_in}
use Rattle.wc_meaning.specs.Standard.Gathered.{types_of}
use Rattle.wc_meaning.specs.Standard.Uses.{no_type, use_index}
use Rattle.wc_meaning.specs.Standard.Instructions.{resolved, instrs_faults}
use Rattle.wc_meaning.specs.Standard.Functions.{param_count, param_space, local_space, inside_func, func_of}
use Rattle.wc_meaning.specs.Standard.Denoted.{context_of}
use Rattle.wc_meaning.specs.Stored.Placed.{IsPlaced}
use Rattle.wc_meaning.proofs.Lists.{both, mapped-same}
use Rattle.wc_meaning.proofs.Spaced.{texts-same}
use Rattle.wc_meaning.proofs.Types.Typed.{types-same}
use Rattle.wc_meaning.proofs.Types.Judged.{use-indexed}
use Rattle.wc_meaning.proofs.Codes.Bodies.{all-same, all-judged}

-- ---- the identifiers of parameters

-- no parameter before these has this place
later-id : (place from : ℕ) (o : Option Identifier) (ns : List ParamName) → place < from → old.id_at place ns ≡ None
    → old.id_at place (name_at from o ++ ns) ≡ None
later-id place from None ns e h = h
later-id place from (Some i) ns e h = rw (ne_eqb from place (λ (same : from ≡ place). omega (arith, e, same)))

later-behind : (place from : ℕ) (o : Option Identifier) (ns : List ParamName) → place < from
    → old.behind place ns ≡ ns → old.behind place (name_at from o ++ ns) ≡ name_at from o ++ ns
later-behind place from None ns e h = h
later-behind place from (Some i) ns e h = rw (ne_eqb from place (λ (same : from ≡ place). omega (arith, e, same)))

no-id : (place from : ℕ) (ps : List Param) → place < from → old.id_at place (names_from from ps) ≡ None
no-id place from [] e = refl
no-id place from (p ∷ ps) e =
    later-id place from p.id (names_from (suc from) ps) e (no-id place (suc from) ps (omega (arith, e)))

none-behind : (place from : ℕ) (ps : List Param) → place < from
    → old.behind place (names_from from ps) ≡ names_from from ps
none-behind place from [] e = refl
none-behind place from (p ∷ ps) e =
    later-behind place from p.id (names_from (suc from) ps) e (none-behind place (suc from) ps (omega (arith, e)))

own-id : (place : ℕ) (o : Option Identifier) (ns : List ParamName) → old.id_at place ns ≡ None
    → old.id_at place (name_at place o ++ ns) ≡ o
own-id place None ns h = h
own-id place (Some i) ns h = rw (eq-eqb place place refl)

own-behind : (place : ℕ) (o : Option Identifier) (ns : List ParamName) → old.behind place ns ≡ ns
    → old.behind place (name_at place o ++ ns) ≡ ns
own-behind place None ns h = h
own-behind place (Some i) ns h = rw (eq-eqb place place refl)

params-same : (count place : ℕ) (ps : List Param)
    → old.params_from place count (names_from place ps) ≡ param_space count ps
params-same zero place ps = refl
params-same (suc n) place [] = ap (λ (ds : Space). None ∷ ds) (params-same n (suc place) [])
params-same (suc n) place (p ∷ ps) =
    let rest : List ParamName = names_from (suc place) ps in
    ap₂ (λ (i : Option Identifier) (ds : Space). i ∷ ds)
    (own-id place p.id rest (no-id place (suc place) ps (omega arith)))
    (ap (λ (ns : List ParamName). old.params_from (suc place) n ns)
    (own-behind place p.id rest (none-behind place (suc place) ps (omega arith)))
    ∙ params-same n (suc place) ps)

-- ---- how many there are

count-at : (ts : List FuncType) (n : ℕ)
    → slice_index_or (map (λ t. length t.params) ts) n 0 ≡ length (unwrap_or (slice_get ts n) no_type).params
count-at [] n = refl
count-at (t ∷ ts) zero = refl
count-at (t ∷ ts) (suc n) = count-at ts n

module _ (ws : List Field) where
  count-same : (token : ℕ) (u : TypeUse)
      → old.param_count (map field_as ws) (use_as user.Func token u) ≡ param_count (context_of ws) u
  count-same token u =
      ap₂ (λ (ts : List FuncType) (i : ℕ). slice_index_or (map (λ t. length t.params) ts) i 0) (types-same ws)
      (use-indexed ws user.Func token u)
      ∙ count-at (types_of ws) (use_index (context_of ws) u)

  locals-same : (token : ℕ) (u : TypeUse) (ls : List Local)
      → old.local_space (map field_as ws) (use_as user.Func token u) (map local_as ls)
      ≡ local_space (context_of ws) u ls
  locals-same token u ls =
      both (ap (λ (n : ℕ). old.params_from 0 n (names_from 0 u.signature.params)) (count-same token u)
      ∙ params-same (param_count (context_of ws) u) 0 u.signature.params)
      (mapped-same local_as (λ l. l.id) (λ l. l.id) (λ l. refl) ls)

  -- the locals of a function, as they are looked up
  abbrev stored_locals : ℕ → TypeUse → List Local → Declared
  stored_locals token u ls = texts (old.local_space (map field_as ws) (use_as user.Func token u) (map local_as ls))

  locals-texts : (token : ℕ) (u : TypeUse) (ls : List Local)
      → stored_locals token u ls ≡ map bytes_in (local_space (context_of ws) u ls)
  locals-texts token u ls =
      texts-same (old.local_space (map field_as ws) (use_as user.Func token u) (map local_as ls))
      ∙ ap (map bytes_in) (locals-same token u ls)

  func-parts : {t s : ℕ} {ts ss : List ValType} {x y : Code Instr BlockType} → t ≡ s → ts ≡ ss → x ≡ y
      → ◌≡◌ {A = Func} (record { ty = t; locals = ts; body = x }) (record { ty = s; locals = ss; body = y })
  func-parts e f g = λ i. record { ty = e i; locals = f i; body = g i }

  pub func-same : (token : ℕ) (u : TypeUse) (ls : List Local) (c : Instrs) → IsPlaced c
      → old_funcs.func_of (map field_as ws) (use_as user.Func token u) (map local_as ls) (body_as c)
      ≡ func_of (context_of ws) u ls c
  func-same token u ls c h =
      func-parts (use-indexed ws user.Func token u) (mapped-same local_as (λ l. l.ty) (λ l. l.ty) (λ l. refl) ls)
      (all-same ws (rows_of c) c (local_space (context_of ws) u ls) (stored_locals token u ls)
      (locals-texts token u ls) c [] [] refl h)

  pub func-judged : (token : ℕ) (u : TypeUse) (ls : List Local) (c : Instrs) → IsPlaced c
      → old_funcs.func_faults (map field_as ws) (use_as user.Func token u) (map local_as ls) (body_as c)
      ≡ instrs_faults (inside_func (context_of ws) u ls) c
  func-judged token u ls c h =
      all-judged ws (rows_of c) c (local_space (context_of ws) u ls) (stored_locals token u ls)
      (locals-texts token u ls) c [] [] refl h

  pub constant-same : (c : Instrs) → IsPlaced c
      → old_constants.constant_of (map field_as ws) (body_as c) ≡ resolved (context_of ws) c
  constant-same c h = all-same ws (rows_of c) c [] [] refl c [] [] refl h

  pub constant-judged : (c : Instrs) → IsPlaced c
      → old_constants.constant_faults (map field_as ws) (body_as c) ≡ instrs_faults (context_of ws) c
  constant-judged c h = all-judged ws (rows_of c) c [] [] refl c [] [] refl h
