-- The places of what parts of a field say.
use Rattle.std.proofs.Common.{◌≡◌, ℕ, List, Option, Bool, true, false, nat_lt, refl, sym, subst}
use Rattle.wc_ast.specs.declared.limits.Limits.{Limits}
use Rattle.wc_ast.specs.declared.limits.GlobalType.{GlobalType}
use Rattle.wc_syntax.specs.declared.role.Role.{Role}
use Rattle.wc_syntax.specs.declared.role.Role.TheVariants as role
use Rattle.wc_surface.specs.Standard.Identifiers.{Identifier}
use Rattle.wc_surface.specs.Standard.Written.Indices.{Index}
use Rattle.wc_surface.specs.Standard.Written.TypeUses.{Signature, TypeUse}
use Rattle.wc_surface.specs.Standard.Written.Instructions.{Plain, Instrs}
use Rattle.wc_surface.specs.Standard.Written.Fields.{Import, Local, Declared}
use Rattle.wc_parse_code.specs.Standard.Tokens.{KeptToken}
use Rattle.wc_parse_code.specs.Standard.Productions.Tokens.{Said, IsId}
use Rattle.wc_parse_code.specs.Standard.Productions.TypeUses.{IsSignature, IsTypeUse}
use Rattle.wc_parse_code.specs.Standard.Productions.Plain.{IsPlain}
use Rattle.wc_parse_code.specs.Standard.Productions.Instructions.{Part, Says}
use Rattle.wc_parse_code.proofs.OneValue.Reading.{is_use, is_part, AllRoles, roles-append}
use Rattle.wc_parse_code.proofs.OneValue.Structure.{type_use-roles, id-roles, head-roles, front}
use Rattle.wc_parse_field.specs.Standard.Productions.Parts.{AreStrings, AreElements, AreExports, IsDeclared, IsImport}
use Rattle.wc_parse_field.specs.Standard.Productions.Parts.{IsInlineImport, AreUnnamed, IsLocal, AreLocals, AreLimits}
use Rattle.wc_parse_field.specs.Standard.Productions.Parts.{IsGlobalType, IsOffset, IsTarget}
use Rattle.wc_parse_field.proofs.OneValue.Cutting.{place, before, AllBefore, Starts, starts-append, AllAt, at-append}
use Rattle.wc_parse_field.proofs.OneValue.Cutting.{at-before}

-- ---- parts of one place

pub id-at : {r : Role} {n : ℕ} {us : List Said} {i : Option Identifier} → place r ≡ n → IsId r us i → AllAt n us
id-at e IsId.absent = AllAt.none
id-at e (IsId.there h) = AllAt.more e AllAt.none

pub exports-at : {us : List Said} {names : List (List ℕ)} → AreExports us names → AllAt 1 us
exports-at AreExports.none = AllAt.none
exports-at (AreExports.more n others) = AllAt.more refl (exports-at others)

pub import-at : {w : KeptToken} {us : List Said} {m : Import} → IsImport w us m → AllAt 2 us
import-at (IsImport.names m i) = AllAt.more refl (AllAt.more refl AllAt.none)

pub inline-at : {us : List Said} {m : Import} → IsInlineImport us m → AllAt 2 us
inline-at (IsInlineImport.word m) = AllAt.more refl (import-at m)

pub target-at : {us : List Said} {t : Option Index} → IsTarget us t → AllAt 2 us
target-at IsTarget.absent = AllAt.none
target-at (IsTarget.there h) = AllAt.more refl AllAt.none

no-use : false ≡ true → ⊥
no-use e = cc

use-place : (r : Role) → is_use r ≡ true → place r ≡ 3
use-place role.TypeIndex e = refl
use-place role.ParamId e = refl
use-place role.ParamType e = refl
use-place role.ResultType e = refl
use-place _ e = absurd (no-use e)

uses-at : {us : List Said} → AllRoles is_use us → AllAt 3 us
uses-at AllRoles.none = AllAt.none
uses-at (AllRoles.more {r = r} e others) = AllAt.more (use-place r e) (uses-at others)

pub use-at : {us : List Said} {u : TypeUse} → IsTypeUse us u → AllAt 3 us
use-at h = uses-at (type_use-roles h)

pub signature-at : {us : List Said} {s : Signature} → IsSignature us s → AllAt 3 us
signature-at h = use-at (IsTypeUse.inline h)

unnamed-at : {us : List Said} {ls : List Local} → AreUnnamed us ls → AllAt 4 us
unnamed-at AreUnnamed.none = AllAt.none
unnamed-at (AreUnnamed.more t others) = AllAt.more refl (unnamed-at others)

local-at : {us : List Said} {ls : List Local} → IsLocal us ls → AllAt 4 us
local-at (IsLocal.one i t) = AllAt.more refl (AllAt.more refl AllAt.none)
local-at (IsLocal.several ls) = unnamed-at ls

pub locals-at : {us : List Said} {ls : List Local} → AreLocals us ls → AllAt 4 us
locals-at AreLocals.none = AllAt.none
locals-at (AreLocals.more l others) = at-append (local-at l) (locals-at others)

pub limits-at : {us : List Said} {l : Limits} → AreLimits us l → AllAt 5 us
limits-at (AreLimits.least n) = AllAt.more refl AllAt.none
limits-at (AreLimits.both n m) = AllAt.more refl (AllAt.more refl AllAt.none)

pub global-at : {us : List Said} {g : GlobalType} → IsGlobalType us g → AllAt 5 us
global-at (IsGlobalType.constant t) = AllAt.more refl AllAt.none
global-at (IsGlobalType.variable t) = AllAt.more refl (AllAt.more refl AllAt.none)

pub elements-at : {us : List Said} {xs : List Index} → AreElements us xs → AllAt 8 us
elements-at AreElements.none = AllAt.none
elements-at (AreElements.more i others) = AllAt.more refl (elements-at others)

pub strings-at : {us : List Said} {bytes : List ℕ} → AreStrings us bytes → AllAt 8 us
strings-at AreStrings.none = AllAt.none
strings-at (AreStrings.more s others) = AllAt.more refl (strings-at others)

pub declared-before : (n : ℕ) {us : List Said} {d : Declared} → before n role.FieldId ≡ true
    → before n role.ExportName ≡ true → IsDeclared us d → AllBefore n us
declared-before n e f (IsDeclared.both i names) =
    roles-append (at-before n e (id-at refl i)) (at-before n f (exports-at names))

-- ---- instructions: the words have one place, and what belongs to them comes before the next one

-- the token belongs to instructions
abbrev pub is_code : Role → Bool
is_code role.Plain = true
is_code role.HeldPlain = true
is_code role.HeldEnd = true
is_code role.Begin = true
is_code role.HeldBegin = true
is_code role.Then = true
is_code role.Else = true
is_code role.End = true
is_code r = is_part r

part-code : (r : Role) → is_part r ≡ true → is_code r ≡ true
part-code role.Plain e = absurd (no-use e)
part-code role.HeldPlain e = absurd (no-use e)
part-code role.HeldEnd e = absurd (no-use e)
part-code role.Begin e = absurd (no-use e)
part-code role.HeldBegin e = absurd (no-use e)
part-code role.Then e = absurd (no-use e)
part-code role.Else e = absurd (no-use e)
part-code role.End e = absurd (no-use e)
part-code _ e = e

role-before : (r : Role) → is_code r ≡ true → before 8 r ≡ true
role-before role.Plain e = refl
role-before role.HeldPlain e = refl
role-before role.HeldEnd e = refl
role-before role.Begin e = refl
role-before role.HeldBegin e = refl
role-before role.Then e = refl
role-before role.Else e = refl
role-before role.End e = refl
role-before role.TypeIndex e = refl
role-before role.ParamId e = refl
role-before role.ParamType e = refl
role-before role.ResultType e = refl
role-before role.Label e = refl
role-before role.EndLabel e = refl
role-before role.Index e = refl
role-before role.MemOffset e = refl
role-before role.MemAlign e = refl
role-before role.Literal e = refl
role-before _ e = absurd (no-use e)

-- what comes before one place comes before the next
pub later : {us : List Said} → AllBefore 8 us → AllBefore 9 us
later AllRoles.none = AllRoles.none
later (AllRoles.more {r = r} e others) = AllRoles.more (later-role r e) (later others)
  where
    later-role : (r : Role) → before 8 r ≡ true → before 9 r ≡ true
    later-role role.Field e = absurd (no-use e)
    later-role role.FieldEnd e = absurd (no-use e)
    later-role _ e = refl

parts-code : {us : List Said} → AllRoles is_part us → AllRoles is_code us
parts-code AllRoles.none = AllRoles.none
parts-code (AllRoles.more {r = r} e others) = AllRoles.more (part-code r e) (parts-code others)

plain-code : {r : Role} {us : List Said} {p : Plain} → is_code r ≡ true → IsPlain r us p → AllRoles is_code us
plain-code e h =
    let f = front h in subst (AllRoles is_code) (sym f.is) (AllRoles.more e (parts-code f.all))

plain-starts : {n : ℕ} {r : Role} {us : List Said} {p : Plain} → before n r ≡ false → IsPlain r us p → Starts n us
plain-starts {n = n} e h = let f = front h in subst (Starts n) (sym f.is) (Starts.at e)

pub code-roles : {p : Part} {us : List Said} {c : Instrs} → Says p us c → AllRoles is_code us
code-roles Says.none = AllRoles.none
code-roles (Says.more a b) = roles-append (code-roles a) (code-roles b)
code-roles (Says.plain h) = plain-code refl h
code-roles (Says.folded a) = code-roles a
code-roles (Says.region z r h a e) =
    AllRoles.more refl (roles-append (roles-append (parts-code (head-roles h)) (code-roles a))
    (AllRoles.more refl (parts-code (id-roles refl e))))
code-roles (Says.if_then z n h a e) =
    AllRoles.more refl (roles-append (roles-append (parts-code (head-roles h)) (code-roles a))
    (AllRoles.more refl (parts-code (id-roles refl e))))
code-roles (Says.if_else y z n h a m b e) =
    AllRoles.more refl (roles-append (roles-append (roles-append (roles-append (parts-code (head-roles h))
    (code-roles a)) (AllRoles.more refl (parts-code (id-roles refl m)))) (code-roles b))
    (AllRoles.more refl (parts-code (id-roles refl e))))
code-roles Says.no_folded = AllRoles.none
code-roles (Says.more_folded a b) = roles-append (code-roles a) (code-roles b)
code-roles (Says.folded_plain z h a) =
    roles-append (roles-append (plain-code refl h) (code-roles a)) (AllRoles.more refl AllRoles.none)
code-roles (Says.folded_region z r h a) =
    AllRoles.more refl (roles-append (roles-append (parts-code (head-roles h)) (code-roles a))
    (AllRoles.more refl AllRoles.none))
code-roles (Says.folded_then t z n h a b) =
    AllRoles.more refl (roles-append (roles-append (roles-append (parts-code (head-roles h)) (code-roles a))
    (AllRoles.more refl (code-roles b))) (AllRoles.more refl AllRoles.none))
code-roles (Says.folded_else t y z n h a b d) =
    AllRoles.more refl (roles-append (roles-append (roles-append (roles-append (parts-code (head-roles h))
    (code-roles a)) (AllRoles.more refl (code-roles b))) (AllRoles.more refl (code-roles d)))
    (AllRoles.more refl AllRoles.none))

pub code-before : {p : Part} {us : List Said} {c : Instrs} → Says p us c → AllBefore 8 us
code-before h = all (code-roles h)
  where
    all : {us : List Said} → AllRoles is_code us → AllBefore 8 us
    all AllRoles.none = AllRoles.none
    all (AllRoles.more {r = r} e others) = AllRoles.more (role-before r e) (all others)

pub code-starts : {n : ℕ} {p : Part} {us : List Said} {c : Instrs} → nat_lt 7 n ≡ false → Says p us c → Starts n us
code-starts e Says.none = Starts.nothing
code-starts e (Says.more a b) = starts-append (code-starts e a) (code-starts e b)
code-starts e (Says.plain h) = plain-starts e h
code-starts e (Says.folded a) = code-starts e a
code-starts e (Says.region z r h a i) = Starts.at e
code-starts e (Says.if_then z n h a i) = Starts.at e
code-starts e (Says.if_else y z n h a m b i) = Starts.at e
code-starts e Says.no_folded = Starts.nothing
code-starts e (Says.more_folded a b) = starts-append (code-starts e a) (code-starts e b)
code-starts e (Says.folded_plain z h a) =
    starts-append (starts-append (plain-starts e h) (code-starts e a)) (Starts.at e)
code-starts e (Says.folded_region z r h a) = Starts.at e
code-starts e (Says.folded_then t z n h a b) = Starts.at e
code-starts e (Says.folded_else t y z n h a b d) = Starts.at e

-- an offset is instructions of some kind
pub offset-part : {us : List Said} {c : Instrs} → IsOffset us c → (p : Part) × Says p us c
offset-part (IsOffset.word h) = (_, h)
offset-part (IsOffset.short h) = (_, h)
