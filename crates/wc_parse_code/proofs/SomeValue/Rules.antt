-- What each rule's kept tokens say: types, plain instructions, and instructions.
use Rattle.std.proofs.Common.{◌≡◌, ℕ, List, [], ◌∷◌, ◌++◌, Option, Some, None, inl, inr, refl}
use Rattle.std.proofs.Common.{subst}
use Rattle.wc_ops.specs.declared.val_type.ValType.{ValType}
use Rattle.wc_body.specs.Standard.Nested.{Region}
use Rattle.wc_syntax.specs.declared.kind.Kind.{Kind}
use Rattle.wc_syntax.specs.declared.kind.Kind.TheVariants as kind
use Rattle.wc_syntax.specs.declared.role.Role.{Role}
use Rattle.wc_syntax.specs.declared.role.Role.TheVariants as role
use Rattle.wc_syntax.specs.Standard.Phrases.{param, result, Phrase, Keep, ◌·◌}
use Rattle.wc_syntax.specs.Standard.Phrases.{Many, The, Maybe, token}
use Rattle.wc_syntax.specs.Standard.Types.{lp, rp, index, param_body, result_body, typeuse_body}
use Rattle.wc_syntax.specs.Standard.Instructions.{literal32, literal64, memarg, plaininstr, head as head_phrase}
use Rattle.wc_symbols.specs.Standard.Ranges.{FitsKind}
use Rattle.wc_surface.specs.Standard.Identifiers.{Identifier}
use Rattle.wc_surface.specs.Standard.Written.Indices.{Index}
use Rattle.wc_surface.specs.Standard.Written.TypeUses.{Param, Signature, TypeUse}
use Rattle.wc_surface.specs.Standard.Written.Instructions.{MemArg, Plain, BlockType}
use Rattle.wc_parse_code.specs.Standard.Tokens.{KeptToken}
use Rattle.wc_parse_code.specs.Standard.Productions.Tokens.{Said, ◌⊳◌, IsIdentifier, IsId}
use Rattle.wc_parse_code.specs.Standard.Productions.Tokens.{IsIndex, IsLiteral}
use Rattle.wc_parse_code.specs.Standard.Productions.TypeUses.{AreTypes, IsParam, AreParams, AreResults, signature}
use Rattle.wc_parse_code.specs.Standard.Productions.TypeUses.{IsSignature, type_use, IsTypeUse, IsLong, IsBlockType}
use Rattle.wc_parse_code.specs.Standard.Productions.Plain.{AreLabels, IsMemOffset, IsMemAlign, IsMemArg, IsPlain}
use Rattle.wc_parse_code.specs.Standard.Productions.Instructions.{IsRegion, IsHead}
use Rattle.wc_parse_code.specs.Standard.Productions.Kept.{IsSpoken}
use Rattle.wc_parse_code.proofs.SomeValue.Phrases.{Star, Nothing, OneToken, RuleSays, Are, behind, before, parts, alone}
use Rattle.wc_parse_code.proofs.SomeValue.Phrases.{word_then}
use Rattle.wc_parse_code.proofs.SomeValue.Spoken.{spoken-fits, spoken-short, spoken-wide}

-- ---- tokens

-- a value of this kind
pub fits : {w : KeptToken} {k : Kind} → w.symbol.kind ≡ k → IsSpoken w → FitsKind k w.symbol.value
fits {w = w} e s = subst (λ (k : Kind). FitsKind k w.symbol.value) e (spoken-fits s)

pub types-are : (r : Role) {us : List Said} → Star (OneToken r kind.ValType) us → (ts : List ValType) × AreTypes r us ts
types-are r Star.stop = ([], AreTypes.none)
types-are r (Star.go (OneToken.one e s) more) =
    let t = fits e s in
    let rest = types-are r more in
    (t.0 ∷ rest.0, AreTypes.more t.1 rest.1)

-- ---- types

pub param-says : {us : List Said} → Are param_body us → (ps : List Param) × IsParam us ps
param-says (inl s) = word_then (λ us. (ps : List Param) × IsParam us ps) (behind (behind s))
    (λ i rest e h more. alone (λ us. (ps : List Param) × IsParam (role.ParamId ⊳ i ∷ us) ps) (before more)
    (λ w f g. (_, IsParam.one (IsIdentifier.bytes e) (fits f g).1)))
param-says (inr s) =
    let ts = types-are role.ParamType (before (behind (behind s))) in (_, IsParam.several ts.1)

pub result-says : {us : List Said} → Are result_body us → (ts : List ValType) × AreTypes role.ResultType us ts
result-says s = types-are role.ResultType (before (behind (behind s)))

pub params-are : {us : List Said} → Star (RuleSays param) us → (ps : List Param) × AreParams us ps
params-are Star.stop = ([], AreParams.none)
params-are (Star.go h more) = let rest = params-are more in (_, AreParams.more h.1 rest.1)

results-are : {us : List Said} → Star (RuleSays result) us → (ts : List ValType) × AreResults us ts
results-are Star.stop = ([], AreResults.none)
results-are (Star.go h more) = let rest = results-are more in (_, AreResults.more h.1 rest.1)

pub signature-says : {us : List Said} → Are (Many (The param) · Many (The result)) us
    → (s : Signature) × IsSignature us s
signature-says s = parts (λ us. (s : Signature) × IsSignature us s) s
    (λ front rest a b. (_, IsSignature.both (params-are a).1 (results-are b).1))

pub index-says : (r : Role) (P : List Said → Type 0) {us : List Said} → Are (index r) us
    → ((w : KeptToken) (x : Index) → IsIndex w x → P (r ⊳ w ∷ [])) → P us
index-says r P (inl (OneToken.one e s)) each =
    let n = fits e s in each _ _ (IsIndex.u32 (record { kind_is = e; value_is = n.1 }))
index-says r P (inr (OneToken.one e s)) each = each _ _ (IsIndex.id (IsIdentifier.bytes e))

-- "(" "type" index ")"
abbrev type_part : Phrase
type_part = lp · token kind.TypeWord · index role.TypeIndex · rp

with-index : {front rest : List Said} → Are (Maybe type_part) front → (s : Signature) × IsSignature rest s
    → (u : TypeUse) × IsTypeUse (front ++ rest) u
with-index (inl Nothing.nothing) b = (_, IsTypeUse.inline b.1)
with-index {rest = rest} (inr a) b =
    index-says role.TypeIndex (λ us. (u : TypeUse) × IsTypeUse (us ++ rest) u) (before (behind (behind a)))
    (λ w x h. (_, IsTypeUse.indexed h b.1))

pub typeuse-says : {us : List Said} → Are typeuse_body us → (u : TypeUse) × IsTypeUse us u
typeuse-says s = parts (λ us. (u : TypeUse) × IsTypeUse us u) s (λ front rest a b. with-index a (signature-says b))

-- ---- plain instructions

labels-says : {w : KeptToken} {x : Index} {us : List Said} → IsIndex w x → Star (Are (index role.Index)) us
    → (xs : List Index) × (last : Index) × AreLabels (role.Index ⊳ w ∷ us) xs last
labels-says h Star.stop = ([], _, AreLabels.default h)
labels-says {w = w} {x = x} h (Star.go {vs = vs} i more) =
    index-says role.Index (λ us. (xs : List Index) × (last : Index) × AreLabels (role.Index ⊳ w ∷ (us ++ vs)) xs last) i
    (λ v y k. let rest = labels-says k more in (x ∷ rest.0, rest.1, AreLabels.label h rest.2))

offset-says : {us : List Said} → Are (Maybe (Keep role.MemOffset kind.MemOffset)) us
    → (n : Option ℕ) × IsMemOffset us n
offset-says (inl Nothing.nothing) = (None, IsMemOffset.absent)
offset-says (inr (OneToken.one e s)) = (_, IsMemOffset.there (fits e s).1)

align-says : {us : List Said} → Are (Maybe (Keep role.MemAlign kind.MemAlign)) us → (n : Option ℕ) × IsMemAlign us n
align-says (inl Nothing.nothing) = (None, IsMemAlign.absent)
align-says (inr (OneToken.one e s)) = (_, IsMemAlign.there (fits e s).1)

memarg-says : {us : List Said} → Are memarg us → (m : MemArg) × IsMemArg us m
memarg-says s = parts (λ us. (m : MemArg) × IsMemArg us m) s
    (λ front rest a b. (_, IsMemArg.both (offset-says a).1 (align-says b).1))

literal32-says : (P : List Said → Type 0) {us : List Said} → Are literal32 us
    → ((w : KeptToken) (b : ℕ) → IsLiteral 32 w b → P (role.Literal ⊳ w ∷ [])) → P us
literal32-says P (inl (OneToken.one e s)) each =
    let t = spoken-short e refl s in each _ _ (IsLiteral.spelled t.1 t.2)
literal32-says P (inr (OneToken.one e s)) each =
    let t = spoken-short e refl s in each _ _ (IsLiteral.spelled t.1 t.2)

literal64-says : (P : List Said → Type 0) {us : List Said} → Are literal64 us
    → ((w : KeptToken) (b : ℕ) → IsLiteral 64 w b → P (role.Literal ⊳ w ∷ [])) → P us
literal64-says P (inl (OneToken.one e s)) each =
    let t = spoken-wide e refl s in each _ _ (IsLiteral.spelled t.1 t.2)
literal64-says P (inr (inl (OneToken.one e s))) each =
    let t = spoken-wide e refl s in each _ _ (IsLiteral.spelled t.1 t.2)
literal64-says P (inr (inr (inl (OneToken.one e s)))) each =
    let t = spoken-wide e refl s in each _ _ (IsLiteral.spelled t.1 t.2)
literal64-says P (inr (inr (inr (OneToken.one e s)))) each =
    let t = spoken-wide e refl s in each _ _ (IsLiteral.spelled t.1 t.2)

-- these kept tokens say some plain instruction
abbrev SomePlain : Role → List Said → Type 0
SomePlain r us = (p : Plain) × IsPlain r us p

pub plain-says : (r : Role) {us : List Said} → Are (plaininstr r) us → SomePlain r us
plain-says r (inl (OneToken.one e s)) = (_, IsPlain.simple_name (fits e s).1)
plain-says r (inr (inl m)) = word_then (SomePlain r) m
    (λ w rest e s h. index-says role.Index (λ us. SomePlain r (r ⊳ w ∷ us)) h
    (λ v x k. (_, IsPlain.index_name (fits e s).1 k)))
plain-says r (inr (inr (inl m))) = word_then (SomePlain r) m
    (λ w rest e s h. parts (λ us. SomePlain r (r ⊳ w ∷ us)) h
    (λ front others a b. index-says role.Index (λ us. SomePlain r (r ⊳ w ∷ (us ++ others))) a
    (λ v x k. (_, IsPlain.br_table_name (fits e s) (labels-says k b).2))))
plain-says r (inr (inr (inr (inl m)))) = word_then (SomePlain r) m
    (λ w rest e s h. (_, IsPlain.call_indirect_name (fits e s) h.1))
plain-says r (inr (inr (inr (inr (inl m))))) = word_then (SomePlain r) m
    (λ w rest e s h. (_, IsPlain.access_name (fits e s).1 (memarg-says h).1))
plain-says r (inr (inr (inr (inr (inr (inl m)))))) = word_then (SomePlain r) m
    (λ w rest e s h. literal32-says (λ us. SomePlain r (r ⊳ w ∷ us)) h
    (λ v b k. (_, IsPlain.i32_const_name (fits e s) k)))
plain-says r (inr (inr (inr (inr (inr (inr m)))))) = word_then (SomePlain r) m
    (λ w rest e s h. literal64-says (λ us. SomePlain r (r ⊳ w ∷ us)) h
    (λ v b k. (_, IsPlain.i64_const_name (fits e s) k)))

-- ---- heads

pub id-says : (r : Role) {us : List Said} → Are (Maybe (Keep r kind.Id)) us → (i : Option Identifier) × IsId r us i
id-says r (inl Nothing.nothing) = (None, IsId.absent)
id-says r (inr (OneToken.one e s)) = (_, IsId.there (IsIdentifier.bytes e))

block-by : {us : List Said} (i : Option Index) (ps : List Param) (rs : List ValType)
    → IsTypeUse us (type_use i (signature ps rs)) → (t : BlockType) × IsBlockType us t
block-by None [] [] h = (_, IsBlockType.no_type h)
block-by None [] (t ∷ []) h = (_, IsBlockType.one_type h)
block-by None [] (t ∷ r ∷ rs) h = (_, IsBlockType.typed h IsLong.by_results)
block-by None (p ∷ ps) rs h = (_, IsBlockType.typed h IsLong.by_param)
block-by (Some x) ps rs h = (_, IsBlockType.typed h IsLong.by_index)

-- the head of a block
pub record SomeHead (us : List Said) : Type 0 where
  pub label : Option Identifier
  pub ty : BlockType
  pub is : IsHead us label ty

pub head-says : {us : List Said} → Are head_phrase us → SomeHead us
head-says s = parts SomeHead s
    (λ front rest a b. let t = block-by b.0.index b.0.signature.params b.0.signature.results b.1 in
    record { label = (id-says role.Label a).0; ty = t.0; is = IsHead.both (id-says role.Label a).1 t.1 })

pub region-says : {w : KeptToken} → w.symbol.kind ≡ kind.Region → IsSpoken w → (r : Region) × IsRegion w r
region-says e s = by-name (fits e s)
  where
    by-name : {w : KeptToken} → FitsKind kind.Region w.symbol.value → (r : Region) × IsRegion w r
    by-name (inl e) = (_, IsRegion.block_word e)
    by-name (inr e) = (_, IsRegion.loop_word e)
