-- A type use that is said is stored.
use Rattle.std.proofs.Common.{◌≡◌, ℕ, suc, ◌+◌, ◌≤◌, ◌^◌, List, [], ◌∷◌, ◌++◌, length, Option, Some, None}
use Rattle.std.proofs.Common.{refl, sym, ap, ◌∙◌, append_assoc, append-nil, arith}
use Rattle.std.specs.Prelude.{map, option_map}
use Rattle.std.proofs.lemmas.List.{length-append, length-map, map-append}
use Rattle.wc_ops.specs.declared.val_type.ValType.{ValType as ValueType}
use Rattle.wc_syntax.specs.declared.role.Role.TheVariants as role
use Rattle.wc_symbols.specs.declared.symbol.Value.{Value}
use Rattle.wc_surface.specs.declared.id.Index.{Index as StoredIndex}
use Rattle.wc_surface.specs.declared.type_use.User.{User}
use Rattle.wc_surface.specs.declared.type_use.ParamName.{ParamName}
use Rattle.wc_surface.specs.Standard.Identifiers.{Identifier}
use Rattle.wc_surface.specs.Standard.Written.TypeUses.{Param, Signature, TypeUse}
use Rattle.wc_parse_code.specs.declared.body_draft.BodyDraft.{BodyDraft}
use Rattle.wc_parse_code.specs.declared.use_draft.UseDraft.{UseDraft}
use Rattle.wc_parse_code.specs.Drafting.Uses.{started_use, with_param, with_result}
use Rattle.wc_parse_code.specs.Standard.Productions.Tokens.{Said, bytes}
use Rattle.wc_parse_code.specs.Standard.Productions.TypeUses.{AreTypes, unnamed, IsParam, one, several, AreParams}
use Rattle.wc_parse_code.specs.Standard.Productions.TypeUses.{AreResults, IsSignature, both, IsTypeUse}
use Rattle.wc_parse_code.specs.Standard.Productions.TypeUses.{inline, indexed}
use Rattle.wc_parse_code.specs.Drafting.Following.{take_said}
use Rattle.wc_parse_code.specs.Stored.TypeUses.{index_as, names_from, name_at}
use Rattle.wc_parse_code.proofs.Storing.Ordered.Following.{Follow, said-append, follow-length}
use Rattle.wc_parse_code.proofs.Storing.Words.{behind, stored-index}

-- a type use with these, which awaits no parameter
abbrev pub draft_use : User → ℕ → Option StoredIndex → List ValueType → List ParamName → List ValueType → UseDraft
draft_use user token index params names results = record {
  user = user;
  token = token;
  index = index;
  params = params;
  pending = None;
  names = names;
  results = results;
}

-- the same type use is being written in this body
abbrev pub writes : BodyDraft → UseDraft → BodyDraft
writes d u = record d { written = u }

-- the types of parameters
abbrev pub types_of : List Param → List ValueType
types_of ps = map (λ p. p.ty) ps

-- what is written of a type use
abbrev pub written_as : User → ℕ → TypeUse → UseDraft
written_as user token u =
    draft_use user token (option_map index_as u.index) (types_of u.signature.params) (names_from 0 u.signature.params)
    u.signature.results

-- ---- parameters

unnamed-types : (ts : List ValueType) → types_of (unnamed ts) ≡ ts
unnamed-types [] = refl
unnamed-types (t ∷ ts) = ap (λ (xs : List ValueType). t ∷ xs) (unnamed-types ts)

unnamed-names : (n : ℕ) (ts : List ValueType) → names_from n (unnamed ts) ≡ []
unnamed-names n [] = refl
unnamed-names n (t ∷ ts) = unnamed-names (suc n) ts

names-append : (n m : ℕ) (ps qs : List Param) → m ≡ n + length ps
    → names_from n (ps ++ qs) ≡ names_from n ps ++ names_from m qs
names-append n m [] qs e =
    let same : n ≡ m = omega (arith, e) in ap (λ (k : ℕ). names_from k qs) same
names-append n m (p ∷ ps) qs e =
    ap (λ (xs : List ParamName). name_at n p.id ++ xs) (names-append (suc n) m ps qs (omega (arith, e)))
    ∙ sym (append_assoc (name_at n p.id) (names_from (suc n) ps) (names_from m qs))

module _ (d : BodyDraft) (user : User) (token : ℕ) (index : Option StoredIndex) where
  -- with these so far
  abbrev at : List ValueType → List ParamName → List ValueType → BodyDraft
  at params names results = writes d (draft_use user token index params names results)

  types-said : {us : List Said} {ts : List ValueType} → AreTypes role.ParamType us ts
      → (ps : List ValueType) (ns : List ParamName) (rs : List ValueType)
      → take_said (at ps ns rs) us ≡ at (ps ++ ts) ns rs
  types-said AreTypes.none ps ns rs = ap (λ (xs : List ValueType). at xs ns rs) (sym (append-nil ps))
  types-said (AreTypes.more {w = w} {t = t} {us = us} {ts = ts} e rest) ps ns rs =
      ap (λ (v : Value). take_said (writes d (with_param (draft_use user token index ps ns rs) v)) us) e
      ∙ ap (λ (xs : List ParamName). take_said (at (ps ++ t ∷ []) xs rs) us) (append-nil ns)
      ∙ types-said rest (ps ++ t ∷ []) ns rs
      ∙ ap (λ (xs : List ValueType). at xs ns rs) (append_assoc ps (t ∷ []) ts)

  param-said : {us : List Said} {qs : List Param} → IsParam us qs
      → (ps : List ValueType) (ns : List ParamName) (rs : List ValueType) → length ps + length qs ≤ 2 ^ 32
      → take_said (at ps ns rs) us ≡ at (ps ++ types_of qs) (ns ++ names_from (length ps) qs) rs
  param-said (one {w = w} {t = t} (bytes {w = i} e) f) ps ns rs room =
      let i : Identifier = record { token = i.token; text = i.text } in
      ap (λ (v : Value). writes d (with_param (record (draft_use user token index ps ns rs) { pending = Some i }) v)) f
      ∙ ap (λ (n : ℕ). at (ps ++ t ∷ []) (ns ++ record { place = n; id = i } ∷ []) rs)
      (behind ps (omega (arith, room)))
  param-said (several {us = us} {ts = ts} h) ps ns rs room =
      types-said h ps ns rs
      ∙ ap (λ (xs : List ValueType). at (ps ++ xs) ns rs) (sym (unnamed-types ts))
      ∙ ap (λ (xs : List ParamName). at (ps ++ types_of (unnamed ts)) xs rs)
      (sym (append-nil ns) ∙ ap (λ (xs : List ParamName). ns ++ xs) (sym (unnamed-names (length ps) ts)))

  params-said : {us : List Said} {qs : List Param} → AreParams us qs
      → (ps : List ValueType) (ns : List ParamName) (rs : List ValueType) → length ps + length qs ≤ 2 ^ 32
      → take_said (at ps ns rs) us ≡ at (ps ++ types_of qs) (ns ++ names_from (length ps) qs) rs
  params-said AreParams.none ps ns rs room =
      ap (λ (xs : List ValueType). at xs ns rs) (sym (append-nil ps))
      ∙ ap (λ (xs : List ParamName). at (ps ++ []) xs rs) (sym (append-nil ns))
  params-said (AreParams.more {us = us} {vs = vs} {ps = qs} {qs = qs'} a b) ps ns rs room =
      let all : length (qs ++ qs') ≡ length qs + length qs' = length-append qs qs' in
      let longer : length (ps ++ types_of qs) ≡ length ps + length qs =
      length-append ps (types_of qs) ∙ ap (λ (n : ℕ). length ps + n) (length-map qs (λ p. p.ty)) in
      said-append (at ps ns rs) us vs
      ∙ ap (λ (e : BodyDraft). take_said e vs) (param-said a ps ns rs (omega (arith, room, all)))
      ∙ params-said b (ps ++ types_of qs) (ns ++ names_from (length ps) qs) rs (omega (arith, room, all, longer))
      ∙ ap (λ (xs : List ValueType).
      at xs ((ns ++ names_from (length ps) qs) ++ names_from (length (ps ++ types_of qs)) qs') rs)
      (append_assoc ps (types_of qs) (types_of qs')
      ∙ ap (λ (xs : List ValueType). ps ++ xs) (sym (map-append (λ (p : Param). p.ty) qs qs')))
      ∙ ap (λ (xs : List ParamName). at (ps ++ types_of (qs ++ qs')) xs rs)
      (append_assoc ns (names_from (length ps) qs) (names_from (length (ps ++ types_of qs)) qs')
      ∙ ap (λ (xs : List ParamName). ns ++ xs)
      (sym (names-append (length ps) (length (ps ++ types_of qs)) qs qs' longer)))

  -- ---- results

  result-said : {us : List Said} {ts : List ValueType} → AreTypes role.ResultType us ts
      → (ps : List ValueType) (ns : List ParamName) (rs : List ValueType)
      → take_said (at ps ns rs) us ≡ at ps ns (rs ++ ts)
  result-said AreTypes.none ps ns rs = ap (λ (xs : List ValueType). at ps ns xs) (sym (append-nil rs))
  result-said (AreTypes.more {w = w} {t = t} {us = us} {ts = ts} e rest) ps ns rs =
      ap (λ (v : Value). take_said (writes d (with_result (draft_use user token index ps ns rs) v)) us) e
      ∙ result-said rest ps ns (rs ++ t ∷ [])
      ∙ ap (λ (xs : List ValueType). at ps ns xs) (append_assoc rs (t ∷ []) ts)

  results-said : {us : List Said} {ts : List ValueType} → AreResults us ts
      → (ps : List ValueType) (ns : List ParamName) (rs : List ValueType)
      → take_said (at ps ns rs) us ≡ at ps ns (rs ++ ts)
  results-said AreResults.none ps ns rs = ap (λ (xs : List ValueType). at ps ns xs) (sym (append-nil rs))
  results-said (AreResults.more {us = us} {vs = vs} {ts = ts} {rs = qs} a b) ps ns rs =
      said-append (at ps ns rs) us vs
      ∙ ap (λ (e : BodyDraft). take_said e vs) (result-said a ps ns rs)
      ∙ results-said b ps ns (rs ++ ts)
      ∙ ap (λ (xs : List ValueType). at ps ns xs) (append_assoc rs ts qs)

  signature-said : {us : List Said} {s : Signature} → IsSignature us s → length s.params ≤ 2 ^ 32
      → take_said (at [] [] []) us ≡ at (types_of s.params) (names_from 0 s.params) s.results
  signature-said (both {us = us} {vs = vs} {ps = ps} {rs = rs} a b) room =
      said-append (at [] [] []) us vs
      ∙ ap (λ (e : BodyDraft). take_said e vs) (params-said a [] [] [] (omega (arith, room)))
      ∙ results-said b (types_of ps) (names_from 0 ps) []

-- ---- no more parameters than tokens

types-length : {us : List Said} {ts : List ValueType} → AreTypes role.ParamType us ts → length us ≡ length ts
types-length AreTypes.none = refl
types-length (AreTypes.more e rest) = ap suc (types-length rest)

unnamed-length : (ts : List ValueType) → length (unnamed ts) ≡ length ts
unnamed-length [] = refl
unnamed-length (t ∷ ts) = ap suc (unnamed-length ts)

param-length : {us : List Said} {ps : List Param} → IsParam us ps → length ps ≤ length us
param-length (one a b) = omega arith
param-length (several {us = us} {ts = ts} h) = omega (arith, types-length h, unnamed-length ts)

params-length : {us : List Said} {ps : List Param} → AreParams us ps → length ps ≤ length us
params-length AreParams.none = omega arith
params-length (AreParams.more {us = us} {vs = vs} {ps = ps} {qs = qs} a b) =
    omega (arith, param-length a, params-length b, length-append us vs, length-append ps qs)

signature-length : {us : List Said} {s : Signature} → IsSignature us s → length s.params ≤ length us
signature-length (both {us = us} {vs = vs} a b) = omega (arith, params-length a, length-append us vs)

-- ---- type uses

-- the tokens of a type use write just it
pub use-said : (lo hi : ℕ) {us : List Said} {u : TypeUse} → IsTypeUse us u → Follow lo us hi → hi ≤ 2 ^ 32
    → (d : BodyDraft) (user : User) (token : ℕ)
    → take_said (writes d (started_use user token)) us ≡ writes d (written_as user token u)
use-said lo hi (inline {us = us} h) f room d user token =
    signature-said d user token None h (omega (arith, room, signature-length h, follow-length lo hi us f))
use-said lo hi (indexed {w = w} {us = us} {x = x} i h) f room d user token =
    ap (λ (y : StoredIndex). take_said (writes d (draft_use user token (Some y) [] [] [])) us) (stored-index f.0 i)
    ∙ signature-said d user token (Some (index_as x)) h
    (omega (arith, room, signature-length h, follow-length (suc w.token) hi us f.3))
