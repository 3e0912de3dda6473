-- Kept tokens read from the last one on: so each name has what belongs to it, and each part of a block what it is in.
use Rattle.std.proofs.Common.{◌≡◌, List, [], ◌∷◌, ◌++◌, Bool, true, false, if◌then◌else◌}
use Rattle.std.proofs.Common.{refl, ap, ◌∙◌, append-nil}
use Rattle.wc_body.specs.Standard.Nested.{Code, ◌⧺◌}
use Rattle.wc_syntax.specs.declared.role.Role.{Role}
use Rattle.wc_syntax.specs.declared.role.Role.TheVariants as role
use Rattle.wc_parse_code.specs.Standard.Tokens.{KeptToken}
use Rattle.wc_parse_code.specs.Standard.Productions.Tokens.{Said, ◌⊳◌}

-- the name of an instruction in which none is nested, and what belongs to it
pub record Named : Type 0 where
  pub role : Role
  pub word : KeptToken
  pub parts : List Said

-- the word of a block, what belongs to it, and what stands behind `else` and `end`
pub record Headed : Type 0 where
  pub word : KeptToken
  pub parts : List Said
  pub else_parts : List Said
  pub end_parts : List Said

abbrev pub named : Role → KeptToken → List Said → Named
named r w ps = record { role = r; word = w; parts = ps }

abbrev pub headed : KeptToken → List Said → List Said → List Said → Headed
headed w ps else_ps end_ps = record { word = w; parts = ps; else_parts = else_ps; end_parts = end_ps }

-- instructions, of which nothing else is read yet; a block or a loop is an if without a second part
abbrev pub Raw : Type 0
Raw = Code Named Headed

-- what is open where one reads from the right, with what stands behind it: operands; a part in front of an `end`; one
-- in front of an `else`; the condition in front of a `then`
pub data Level : Type 0 where
  operands : Raw → Level
  ended : (end_parts : List Said) (after : Raw) → Level
  turned : (end_parts else_parts : List Said) (second after : Raw) → Level
  conditioned : (end_parts else_parts : List Said) (first second after : Raw) → Level

-- what belongs to the name that is still to come, the instructions of the innermost level, and the levels
pub record Reading : Type 0 where
  pub parts : List Said
  pub code : Raw
  pub levels : List Level

abbrev pub reading : List Said → Raw → List Level → Reading
reading ps c ls = record { parts = ps; code = c; levels = ls }

-- the token belongs to a type use
abbrev pub is_use : Role → Bool
is_use role.TypeIndex = true
is_use role.ParamId = true
is_use role.ParamType = true
is_use role.ResultType = true
is_use _ = false

-- the token belongs to the name of an instruction
abbrev pub is_part : Role → Bool
is_part role.TypeIndex = true
is_part role.ParamId = true
is_part role.ParamType = true
is_part role.ResultType = true
is_part role.Label = true
is_part role.EndLabel = true
is_part role.Index = true
is_part role.MemOffset = true
is_part role.MemAlign = true
is_part role.Literal = true
is_part _ = false

-- a name, or what ends a part, in front of what was read
abbrev pub name_read : Role → KeptToken → List Said → Raw → List Level → Reading
name_read role.Plain w ps c ls = reading [] (Code.op (named role.Plain w ps) c) ls
name_read role.HeldPlain w ps c (operands after ∷ ls) = reading [] (c ⧺ Code.op (named role.HeldPlain w ps) after) ls
name_read role.HeldEnd w ps c ls = reading [] Code.empty (operands c ∷ ls)
name_read role.End w ps c ls = reading [] Code.empty (ended ps c ∷ ls)
name_read role.Else w ps c (ended e after ∷ ls) = reading [] Code.empty (turned e ps c after ∷ ls)
name_read role.Then w ps c (ended e after ∷ ls) = reading [] Code.empty (conditioned e [] c Code.empty after ∷ ls)
name_read role.Then w ps c (turned e p second after ∷ ls) =
    reading [] Code.empty (conditioned e p c second after ∷ ls)
name_read role.Begin w ps c (ended e after ∷ ls) = reading [] (Code.choice (headed w ps [] e) c Code.empty after) ls
name_read role.Begin w ps c (turned e p second after ∷ ls) =
    reading [] (Code.choice (headed w ps p e) c second after) ls
name_read role.HeldBegin w ps c (conditioned e p first second after ∷ ls) =
    reading [] (c ⧺ Code.choice (headed w ps p e) first second after) ls
name_read _ w ps c ls = reading [] c ls

-- any kept token in front of what was read
abbrev token_read : Role → KeptToken → Reading → Reading
token_read r w at =
    if is_part r then reading (r ⊳ w ∷ at.parts) at.code at.levels else name_read r w at.parts at.code at.levels

-- kept tokens, read
abbrev pub read : List Said → Reading
read [] = reading [] Code.empty []
read (r ⊳ w ∷ us) = token_read r w (read us)

-- all of these roles
pub data AllRoles (p : Role → Bool) : List Said → Type 0 where
  none : AllRoles p []
  more : {r : Role} {w : KeptToken} {us : List Said} → p r ≡ true → AllRoles p us → AllRoles p (r ⊳ w ∷ us)

pub roles-append : {p : Role → Bool} {us vs : List Said} → AllRoles p us → AllRoles p vs → AllRoles p (us ++ vs)
roles-append none b = b
roles-append (more e rest) b = more e (roles-append rest b)

no-use : false ≡ true → ⊥
no-use e = cc

use-is-part : (r : Role) → is_use r ≡ true → is_part r ≡ true
use-is-part role.TypeIndex e = refl
use-is-part role.ParamId e = refl
use-is-part role.ParamType e = refl
use-is-part role.ResultType e = refl
use-is-part _ e = absurd (no-use e)

pub use-roles : {us : List Said} → AllRoles is_use us → AllRoles is_part us
use-roles none = none
use-roles (more {r = r} e rest) = more (use-is-part r e) (use-roles rest)

-- the token in front of these, as a part or as a name
abbrev put : Bool → Role → KeptToken → List Said → Reading
put part r w us =
    if part then reading (r ⊳ w ∷ (read us).parts) (read us).code (read us).levels
    else name_read r w (read us).parts (read us).code (read us).levels

parts-read : {ps : List Said} → AllRoles is_part ps → (xs : List Said)
    → read (ps ++ xs) ≡ reading (ps ++ (read xs).parts) (read xs).code (read xs).levels
parts-read none xs = refl
parts-read (more {r = r} {w = w} {us = us} e rest) xs =
    ap (λ (part : Bool). put part r w (us ++ xs)) e
    ∙ ap (λ (at : Reading). reading (r ⊳ w ∷ at.parts) at.code at.levels) (parts-read rest xs)

-- a name, what belongs to it, and what was read behind them
pub name-reads : (r : Role) (w : KeptToken) {ps : List Said} (xs : List Said) (c : Raw) (ls : List Level)
    → is_part r ≡ false → AllRoles is_part ps → read xs ≡ reading [] c ls
    → read (r ⊳ w ∷ (ps ++ xs)) ≡ name_read r w ps c ls
name-reads r w {ps} xs c ls e all h =
    ap (λ (part : Bool). put part r w (ps ++ xs)) e
    ∙ ap (λ (at : Reading). name_read r w at.parts at.code at.levels)
    (parts-read all xs ∙ ap (λ (at : Reading). reading (ps ++ at.parts) at.code at.levels) h)
    ∙ ap (λ (all : List Said). name_read r w all c ls) (append-nil ps)
