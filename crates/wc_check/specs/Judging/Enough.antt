-- What is around a body gives all that its instructions need, so that they break no rule (Core 1.0, 3.3).
use Rattle.std.specs.Prelude.{ℕ, ◌≡◌, ◌+◌, ◌-◌, ◌<◌, ◌≤◌, ◌^◌, max, Bool, true, false, cond, List, [], ◌∷◌, length}
use Rattle.std.specs.Int.{bit_at}
use Rattle.wc_ast.specs.declared.limits.GlobalType.{GlobalType}
use Rattle.wc_body.specs.declared.needs.Needs.{Needs}
use Rattle.wc_body.specs.declared.needs.OwnNeeds.{OwnNeeds}
use Rattle.wc_check.specs.declared.bodies.Known.{Known}
use Rattle.wc_check.specs.declared.context.Context.{Context}
use Rattle.wc_check.specs.Standard.InstructionRules.{is_constant_at}

-- so many are needed, and there are as many; it isn't told how many where there is no room for more
abbrev pub HasRoom : ℕ → ℕ → Type 0
HasRoom count needed = (needed < 2 ^ 32 - 1) × (needed ≤ count)

-- for each of these globals, where the run of mutable ones begins that it ends, or what follows it where it is
-- constant; before them stand so many, and the run that these end begins there
abbrev pub run_starts : ℕ → ℕ → List GlobalType → List ℕ
run_starts place start [] = []
run_starts place start (g ∷ gs) =
    cond g.mutable start (place + 1) ∷ run_starts (place + 1) (cond g.mutable start (place + 1)) gs

-- none of the globals from the one place up to the other is constant
abbrev pub AreSettable : List GlobalType → ℕ → ℕ → Type 0
AreSettable globals first end = (n : ℕ) → first ≤ n → n < end → is_constant_at globals n ≡ false

-- none of the globals is constant whose bit is 1
abbrev pub AreMarkedSettable : List GlobalType → ℕ → Type 0
AreMarkedSettable globals bits = (n : ℕ) → bit_at bits n ≡ 1 → is_constant_at globals n ≡ false

-- of what a body needs, that which doesn't hang on the function's locals or on the globals that are set
pub record HasCommon (c : Context) (needs : Needs) : Type 0 where
  pub types : HasRoom c.types needs.types
  pub funcs : HasRoom c.funcs needs.funcs
  pub globals : HasRoom (length c.globals) needs.globals
  pub table : needs.table ≡ true → 0 < c.tables
  pub memory : needs.memory ≡ true → 0 < c.mems
  pub outer_label : needs.outer_label ≡ false
  pub over_aligned : needs.over_aligned ≡ false

-- it holds of what a body needs, as far as it is known
pub record IsKnown (c : Context) (known : Known) (needs : Needs) : Type 0 where
  pub common : known.has_common ≡ true → HasCommon c needs
  pub settable : known.low_settable ≡ true → AreMarkedSettable c.globals needs.set_below_64

-- room for the other indices, in a function of so many locals
pub record HasOwnRooms (c : Context) (local_count : ℕ) (own : OwnNeeds) : Type 0 where
  pub set_globals : HasRoom (length c.globals) own.set_globals
  pub locals : HasRoom local_count own.locals

-- the lowest global to be asked of, where this is the lowest that is set: where it is known of those below 64 that none
-- that is set is constant, they aren't asked of
abbrev pub first_asked : Bool → ℕ → ℕ
first_asked low_settable lowest = cond low_settable (max lowest 64) lowest

-- and none of the globals from there on up to the highest that is set is constant
pub record HasOwn (c : Context) (low_settable : Bool) (local_count : ℕ) (own : OwnNeeds) : Type 0 where
  pub rooms : HasOwnRooms c local_count own
  pub settable : AreSettable c.globals (first_asked low_settable own.lowest_set_global) own.set_globals
