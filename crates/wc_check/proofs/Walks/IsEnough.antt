-- What is around a body gives all that its instructions need.
use Rattle.std.specs.Prelude.{ℕ, ◌≡◌, ◌<◌, ◌≤◌, true, false, length}
use Rattle.std.specs.Int.{bit_at}
use Rattle.wc_body.specs.declared.needs.Needs.{Needs}
use Rattle.wc_check.specs.declared.context.Context.{Context}
use Rattle.wc_check.specs.Judging.Enough.{HasRoom}
use Rattle.wc_check.specs.Standard.InstructionRules.{is_constant_at}

-- there is room for each index, in a function of so many locals, and no instruction breaks a rule whatever is around
pub record HasRooms (c : Context) (local_count : ℕ) (needs : Needs) : Type 0 where
  pub types : HasRoom c.types needs.types
  pub funcs : HasRoom c.funcs needs.funcs
  pub globals : HasRoom (length c.globals) needs.globals
  pub set_globals : HasRoom (length c.globals) needs.set_globals
  pub locals : HasRoom local_count needs.locals
  pub table : needs.table ≡ true → 0 < c.tables
  pub memory : needs.memory ≡ true → 0 < c.mems
  pub outer_label : needs.outer_label ≡ false
  pub over_aligned : needs.over_aligned ≡ false

-- and no global is constant that may be set: one from the lowest up to the highest, which has its bit where it is below
-- 64
pub record IsEnough (c : Context) (local_count : ℕ) (needs : Needs) : Type 0 where
  pub rooms : HasRooms c local_count needs
  pub settable :
      (n : ℕ) → needs.lowest_set_global ≤ n → n < needs.set_globals → (n < 64 → bit_at needs.set_below_64 n ≡ 1)
      → is_constant_at c.globals n ≡ false
