use Rattle.std.proofs.Common.{◌≡◌, Bool, true, false}
use Rattle.wc_symbols.proofs.Spelling.Utf8Lemmas.{whole-none, whole-some}
use Rattle.wc_symbols.proofs.utf8.is_whole.Goals as goal

pub returns-in-Some : goal.returns-in-Some
returns-in-Some c =
    λ read k. whole-some c.in-Some.tail read c.is_closed.result (rw c.in-Some.is at k) c.is_closed.ensures

pub returns-in-None : goal.returns-in-None
returns-in-None c = λ read k. (
  (λ (h : ◌≡◌ {A = Bool} false true). absurd cc),
  (λ u. absurd (whole-none read (rw c.in-None.is at k) u)),
)
