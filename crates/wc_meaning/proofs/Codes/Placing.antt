-- What the instructions of a text name is found at its places.
use Rattle.std.proofs.Common.{ℕ, suc, ◌+◌, ◌≤◌, ◌^◌, List, ◌∷◌, ◌++◌, length, refl, arith}
use Rattle.wc_tokens.specs.Standard.Lexemes.{Lexeme}
use Rattle.wc_syntax.specs.declared.role.Role.TheVariants as role
use Rattle.wc_surface.specs.Standard.Written.Instructions.{Instrs}
use Rattle.wc_surface.specs.Standard.Written.Fields.{Declared, Function, Global, Field, func_field, global_field}
use Rattle.wc_parse_code.specs.Standard.Tokens.{KeptToken}
use Rattle.wc_parse_code.specs.Standard.Productions.Tokens.{Said, ◌⊳◌}
use Rattle.wc_parse_code.proofs.Storing.Ordered.Following.{Follow, follow-range, part}
use Rattle.wc_parse_code.proofs.Storing.Ordered.Derived.{derived-follow}
use Rattle.wc_parse_field.specs.Standard.Productions.Parts.{IsOffset}
use Rattle.wc_parse_field.specs.Standard.Productions.Fields.{IsFunction, IsGlobal, IsField, AreFields}
use Rattle.wc_parse.specs.Standard.Productions.{SaysFields}
use Rattle.wc_parse.proofs.Pairs.{each-length}
use Rattle.wc_parse.proofs.Saying.Written.{all-spoken}
use Rattle.wc_meaning.specs.Stored.Placed.{IsPlaced, FieldPlaced, ArePlaced}
use Rattle.wc_meaning.proofs.Codes.Finding.{says-placed}

function-placed : {us : List Said} {f : Function} → IsFunction us f → (token : ℕ) (d : Declared) (lo hi : ℕ)
    → Follow lo us hi → hi ≤ 2 ^ 32 → FieldPlaced (func_field token d f)
function-placed (IsFunction.imported m u) token d lo hi f e = tt
function-placed (IsFunction.code {us = us} {vs = vs} {ws = ws} u ls s) token d lo hi f e =
    let p = part lo hi (us ++ vs) ws f in says-placed s p.mid hi p.last e

global-placed : {us : List Said} {g : Global} → IsGlobal us g → (d : Declared) (lo hi : ℕ) → Follow lo us hi
    → hi ≤ 2 ^ 32 → FieldPlaced (global_field d g)
global-placed (IsGlobal.imported m g) d lo hi f e = tt
global-placed (IsGlobal.init {us = us} {vs = vs} g s) d lo hi f e =
    let p = part lo hi us vs f in says-placed s p.mid hi p.last e

offset-placed : {us : List Said} {c : Instrs} → IsOffset us c → (lo hi : ℕ) → Follow lo us hi → hi ≤ 2 ^ 32
    → IsPlaced c
offset-placed (IsOffset.word s) lo hi f e = says-placed s lo hi f e
offset-placed (IsOffset.short s) lo hi f e = says-placed s lo hi f e

-- an offset between what stands before and behind it
between : (lo hi : ℕ) (us vs ws : List Said) {c : Instrs} → IsOffset vs c → Follow lo (us ++ vs ++ ws) hi
    → hi ≤ 2 ^ 32 → IsPlaced c
between lo hi us vs ws o f e =
    let p = part lo hi (us ++ vs) ws f in
    let q = part lo p.mid us vs p.first in
    offset-placed o q.mid p.mid q.last (omega (arith, e, follow-range p.mid hi ws p.last))

field-placed : {w : KeptToken} {us : List Said} {f : Field} → IsField w us f → (lo hi : ℕ) → Follow lo us hi
    → hi ≤ 2 ^ 32 → FieldPlaced f
field-placed (IsField.type_word k i s) lo hi f e = tt
field-placed (IsField.import_word k m d) lo hi f e = tt
field-placed {w = w} (IsField.func_word {us = us} {vs = vs} {d = d} k i g) lo hi f e =
    let p = part lo hi us vs f in function-placed g w.token d p.mid hi p.last e
field-placed (IsField.table_word k i t) lo hi f e = tt
field-placed (IsField.memory_word k i m) lo hi f e = tt
field-placed (IsField.global_word {us = us} {vs = vs} {d = d} k i g) lo hi f e =
    let p = part lo hi us vs f in global-placed g d p.mid hi p.last e
field-placed (IsField.export_word k n i x) lo hi f e = tt
field-placed (IsField.start_word k x) lo hi f e = tt
field-placed (IsField.elem_word {us = us} {vs = vs} {ws = ws} k t o xs) lo hi f e = between lo hi us vs ws o f e
field-placed (IsField.data_word {us = us} {vs = vs} {ws = ws} k m o b) lo hi f e = between lo hi us vs ws o f e

fields-placed : {us : List Said} {fs : List Field} → AreFields us fs → (lo hi : ℕ) → Follow lo us hi → hi ≤ 2 ^ 32
    → ArePlaced fs
fields-placed AreFields.none lo hi f e = tt
fields-placed (AreFields.more z {w = w} {us = us} {vs = vs} h others) lo hi f e =
    let p = part (suc w.token) hi us (role.FieldEnd ⊳ z ∷ vs) f.3 in
    let below : p.mid ≤ 2 ^ 32 = omega (arith, e, follow-range p.mid hi (role.FieldEnd ⊳ z ∷ vs) p.last) in
    (field-placed h (suc w.token) p.mid p.first below, fields-placed others (suc z.token) hi p.last.3 e)

pub text-placed : (ts : List Lexeme) (fields : List Field) → length ts ≤ 2 ^ 32 → SaysFields ts fields
    → ArePlaced fields
text-placed ts fields small s =
    let follow = derived-follow 0 s.kinds s.words s.text refl (all-spoken s.are_kept) in
    let less : 0 + length s.kinds ≤ 2 ^ 32 = omega (arith, small, each-length s.are_kinds) in
    fields-placed s.says 0 (0 + length s.kinds) follow less
