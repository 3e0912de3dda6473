-- How a field's function, table, memory or global is given, which its first token tells.
use Rattle.std.proofs.Common.{◌≡◌, ℕ, List, [], ◌∷◌, ◌++◌, Bool, true, false, refl, sym, subst}
use Rattle.wc_ast.specs.declared.limits.Limits.{Limits}
use Rattle.wc_ast.specs.declared.limits.GlobalType.{GlobalType}
use Rattle.wc_syntax.specs.declared.role.Role.{Role}
use Rattle.wc_syntax.specs.declared.role.Role.TheVariants as role
use Rattle.wc_surface.specs.Standard.Written.Indices.{Index}
use Rattle.wc_surface.specs.Standard.Written.TypeUses.{TypeUse}
use Rattle.wc_surface.specs.Standard.Written.Instructions.{Instrs}
use Rattle.wc_surface.specs.Standard.Written.Fields.{Import, Local, Function, Table, Memory, Global}
use Rattle.wc_parse_code.specs.Standard.Productions.Tokens.{Said, ◌⊳◌}
use Rattle.wc_parse_code.specs.Standard.Productions.TypeUses.{IsTypeUse}
use Rattle.wc_parse_code.specs.Standard.Productions.Instructions.{Says, instrs}
use Rattle.wc_parse_code.proofs.OneValue.Reading.{AllRoles, roles-append}
use Rattle.wc_parse_code.proofs.OneValue.Parts.{same-use}
use Rattle.wc_parse_code.proofs.OneValue.Same.{one_value}
use Rattle.wc_parse_field.specs.Standard.Productions.Parts.{AreStrings, AreElements, IsInlineImport, AreLocals}
use Rattle.wc_parse_field.specs.Standard.Productions.Parts.{AreLimits, IsGlobalType}
use Rattle.wc_parse_field.specs.Standard.Productions.Fields.{IsFunction, IsTable, IsMemory, IsGlobal}
use Rattle.wc_parse_field.proofs.OneValue.Cutting.{before, AllBefore, Starts, starts-append, Cut, cut, at-before}
use Rattle.wc_parse_field.proofs.OneValue.Cutting.{at-starts}
use Rattle.wc_parse_field.proofs.OneValue.Places.{inline-at, use-at, locals-at, limits-at, global-at, elements-at}
use Rattle.wc_parse_field.proofs.OneValue.Places.{strings-at, code-before, later, code-starts}
use Rattle.wc_parse_field.proofs.OneValue.Parts.{same-inline, same-locals, same-limits, same-global, same-elements}
use Rattle.wc_parse_field.proofs.OneValue.Parts.{same-strings}

-- the first token is the word of an inline import
abbrev imports : List Said → Bool
imports [] = false
imports (r ⊳ w ∷ us) = before 3 r

no-import : {us : List Said} → Starts 3 us → imports us ≡ false
no-import Starts.nothing = refl
no-import (Starts.at e) = e

-- the role is that of the word of a segment
abbrev is_segment : Role → Bool
is_segment role.Segment = true
is_segment _ = false

-- the first token is the word of a segment
abbrev inside : List Said → Bool
inside [] = false
inside (r ⊳ w ∷ us) = is_segment r

-- the tokens behind the first one
abbrev behind : List Said → List Said
behind [] = []
behind (r ⊳ w ∷ us) = us

-- ---- functions

-- what a function's tokens are, by whether it is imported
abbrev SaysFunction : Bool → List Said → Function → Type 0
SaysFunction true us f =
    (m : Import) × (u : TypeUse) × Cut 3 (λ us. IsInlineImport us m) (λ us. IsTypeUse us u) us
    × (f ≡ Function.imported m u)
SaysFunction false us f = (u : TypeUse) × (ls : List Local) × (c : Instrs)
    × Cut 5 (Cut 4 (λ us. IsTypeUse us u) (λ us. AreLocals us ls)) (λ us. Says instrs us c) us
    × (f ≡ Function.code u ls c)

says-function : {us : List Said} {f : Function} → IsFunction us f → SaysFunction (imports us) us f
says-function (IsFunction.imported (IsInlineImport.word m) u) =
    let i = IsInlineImport.word m in
    (_, _, cut (at-before 3 refl (inline-at i)) (at-starts refl (use-at u)) i u, refl)
says-function {f = f} (IsFunction.code {us = us} {vs = vs} {ws = ws} u ls c) =
    subst (λ (b : Bool). SaysFunction b (us ++ vs ++ ws) f)
    (sym (no-import (starts-append (starts-append (at-starts refl (use-at u)) (at-starts refl (locals-at ls)))
    (code-starts refl c)))) (
      _,
      _,
      _,
      cut (roles-append (at-before 5 refl (use-at u)) (at-before 5 refl (locals-at ls))) (code-starts refl c)
          (cut (at-before 4 refl (use-at u)) (at-starts refl (locals-at ls)) u ls) c,
      refl,
    )

function-by : (b : Bool) (us : List Said) {f g : Function} → SaysFunction b us f → SaysFunction b us g → f ≡ g
function-by true us a b = cc (a.3, b.3, same-inline a.2.first b.2.first, same-use a.2.second b.2.second)
function-by false us a b =
    cc (
      a.4,
      b.4,
      same-use a.3.first.first b.3.first.first,
      same-locals a.3.first.second b.3.first.second,
      one_value a.3.second b.3.second,
    )

pub same-function : {us : List Said} {f g : Function} → IsFunction us f → IsFunction us g → f ≡ g
same-function {us = us} a b = function-by (imports us) us (says-function a) (says-function b)

pub function-before : {us : List Said} {f : Function} → IsFunction us f → AllBefore 9 us
function-before (IsFunction.imported m u) = roles-append (at-before 9 refl (inline-at m)) (at-before 9 refl (use-at u))
function-before (IsFunction.code u ls c) =
    roles-append (roles-append (at-before 9 refl (use-at u)) (at-before 9 refl (locals-at ls))) (later (code-before c))

pub function-starts : {us : List Said} {f : Function} → IsFunction us f → Starts 2 us
function-starts (IsFunction.imported m u) =
    starts-append (at-starts refl (inline-at m)) (at-starts refl (use-at u))
function-starts (IsFunction.code u ls c) =
    starts-append (starts-append (at-starts refl (use-at u)) (at-starts refl (locals-at ls))) (code-starts refl c)

-- ---- tables

-- what a table's tokens are, by whether it is imported, and else by whether it holds a segment
abbrev SaysTable : Bool → Bool → List Said → Table → Type 0
SaysTable true _ us t =
    (m : Import) × (l : Limits) × Cut 3 (λ us. IsInlineImport us m) (λ us. AreLimits us l) us
    × (t ≡ Table.imported m l)
SaysTable false false us t = (l : Limits) × AreLimits us l × (t ≡ Table.limits l)
SaysTable false true us t = (xs : List Index) × AreElements (behind us) xs × (t ≡ Table.elements xs)

says-table : {us : List Said} {t : Table} → IsTable us t → SaysTable (imports us) (inside us) us t
says-table (IsTable.imported (IsInlineImport.word m) l) =
    let i = IsInlineImport.word m in
    (_, _, cut (at-before 3 refl (inline-at i)) (at-starts refl (limits-at l)) i l, refl)
says-table (IsTable.limits (AreLimits.least n)) = (_, AreLimits.least n, refl)
says-table (IsTable.limits (AreLimits.both n m)) = (_, AreLimits.both n m, refl)
says-table (IsTable.elements xs) = (_, xs, refl)

table-by : (b c : Bool) (us : List Said) {t u : Table} → SaysTable b c us t → SaysTable b c us u → t ≡ u
table-by true c us a b = cc (a.3, b.3, same-inline a.2.first b.2.first, same-limits a.2.second b.2.second)
table-by false false us a b = cc (a.2, b.2, same-limits a.1 b.1)
table-by false true us a b = cc (a.2, b.2, same-elements a.1 b.1)

pub same-table : {us : List Said} {t u : Table} → IsTable us t → IsTable us u → t ≡ u
same-table {us = us} a b = table-by (imports us) (inside us) us (says-table a) (says-table b)

pub table-before : {us : List Said} {t : Table} → IsTable us t → AllBefore 9 us
table-before (IsTable.imported m l) = roles-append (at-before 9 refl (inline-at m)) (at-before 9 refl (limits-at l))
table-before (IsTable.limits l) = at-before 9 refl (limits-at l)
table-before (IsTable.elements xs) = AllRoles.more refl (at-before 9 refl (elements-at xs))

pub table-starts : {us : List Said} {t : Table} → IsTable us t → Starts 2 us
table-starts (IsTable.imported m l) = starts-append (at-starts refl (inline-at m)) (at-starts refl (limits-at l))
table-starts (IsTable.limits l) = at-starts refl (limits-at l)
table-starts (IsTable.elements xs) = Starts.at refl

-- ---- memories

-- the same of a memory
abbrev SaysMemory : Bool → Bool → List Said → Memory → Type 0
SaysMemory true _ us t = (m : Import) × (l : Limits) × Cut 3 (λ us. IsInlineImport us m) (λ us. AreLimits us l) us
    × (t ≡ Memory.imported m l)
SaysMemory false false us t = (l : Limits) × AreLimits us l × (t ≡ Memory.limits l)
SaysMemory false true us t = (bytes : List ℕ) × AreStrings (behind us) bytes × (t ≡ Memory.bytes bytes)

says-memory : {us : List Said} {t : Memory} → IsMemory us t → SaysMemory (imports us) (inside us) us t
says-memory (IsMemory.imported (IsInlineImport.word m) l) =
    let i = IsInlineImport.word m in
    (_, _, cut (at-before 3 refl (inline-at i)) (at-starts refl (limits-at l)) i l, refl)
says-memory (IsMemory.limits (AreLimits.least n)) = (_, AreLimits.least n, refl)
says-memory (IsMemory.limits (AreLimits.both n m)) = (_, AreLimits.both n m, refl)
says-memory (IsMemory.bytes s) = (_, s, refl)

memory-by : (b c : Bool) (us : List Said) {t u : Memory} → SaysMemory b c us t → SaysMemory b c us u → t ≡ u
memory-by true c us a b = cc (a.3, b.3, same-inline a.2.first b.2.first, same-limits a.2.second b.2.second)
memory-by false false us a b = cc (a.2, b.2, same-limits a.1 b.1)
memory-by false true us a b = cc (a.2, b.2, same-strings a.1 b.1)

pub same-memory : {us : List Said} {t u : Memory} → IsMemory us t → IsMemory us u → t ≡ u
same-memory {us = us} a b = memory-by (imports us) (inside us) us (says-memory a) (says-memory b)

pub memory-before : {us : List Said} {t : Memory} → IsMemory us t → AllBefore 9 us
memory-before (IsMemory.imported m l) = roles-append (at-before 9 refl (inline-at m)) (at-before 9 refl (limits-at l))
memory-before (IsMemory.limits l) = at-before 9 refl (limits-at l)
memory-before (IsMemory.bytes s) = AllRoles.more refl (at-before 9 refl (strings-at s))

pub memory-starts : {us : List Said} {t : Memory} → IsMemory us t → Starts 2 us
memory-starts (IsMemory.imported m l) = starts-append (at-starts refl (inline-at m)) (at-starts refl (limits-at l))
memory-starts (IsMemory.limits l) = at-starts refl (limits-at l)
memory-starts (IsMemory.bytes s) = Starts.at refl

-- ---- globals

-- what a global's tokens are, by whether it is imported
abbrev SaysGlobal : Bool → List Said → Global → Type 0
SaysGlobal true us t = (m : Import) × (g : GlobalType) × Cut 3 (λ us. IsInlineImport us m) (λ us. IsGlobalType us g) us
    × (t ≡ Global.imported m g)
SaysGlobal false us t = (g : GlobalType) × (c : Instrs) × Cut 6 (λ us. IsGlobalType us g) (λ us. Says instrs us c) us
    × (t ≡ Global.init g c)

says-global : {us : List Said} {t : Global} → IsGlobal us t → SaysGlobal (imports us) us t
says-global (IsGlobal.imported (IsInlineImport.word m) g) =
    let i = IsInlineImport.word m in
    (_, _, cut (at-before 3 refl (inline-at i)) (at-starts refl (global-at g)) i g, refl)
says-global (IsGlobal.init (IsGlobalType.constant t) c) =
    let g = IsGlobalType.constant t in (_, _, cut (at-before 6 refl (global-at g)) (code-starts refl c) g c, refl)
says-global (IsGlobal.init (IsGlobalType.variable t) c) =
    let g = IsGlobalType.variable t in (_, _, cut (at-before 6 refl (global-at g)) (code-starts refl c) g c, refl)

global-by : (b : Bool) (us : List Said) {t u : Global} → SaysGlobal b us t → SaysGlobal b us u → t ≡ u
global-by true us a b = cc (a.3, b.3, same-inline a.2.first b.2.first, same-global a.2.second b.2.second)
global-by false us a b = cc (a.3, b.3, same-global a.2.first b.2.first, one_value a.2.second b.2.second)

pub same-global-field : {us : List Said} {t u : Global} → IsGlobal us t → IsGlobal us u → t ≡ u
same-global-field {us = us} a b = global-by (imports us) us (says-global a) (says-global b)

pub global-field-before : {us : List Said} {t : Global} → IsGlobal us t → AllBefore 9 us
global-field-before (IsGlobal.imported m g) =
    roles-append (at-before 9 refl (inline-at m)) (at-before 9 refl (global-at g))
global-field-before (IsGlobal.init g c) = roles-append (at-before 9 refl (global-at g)) (later (code-before c))

pub global-field-starts : {us : List Said} {t : Global} → IsGlobal us t → Starts 2 us
global-field-starts (IsGlobal.imported m g) =
    starts-append (at-starts refl (inline-at m)) (at-starts refl (global-at g))
global-field-starts (IsGlobal.init g c) = starts-append (at-starts refl (global-at g)) (code-starts refl c)
