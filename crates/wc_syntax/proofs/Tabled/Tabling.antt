-- The table is right.
use Rattle.std.proofs.Common.{ℕ, zero, suc, refl}
use Rattle.wc_syntax.specs.declared.place.Frame.{Frame}
use Rattle.wc_syntax.specs.declared.place.Frame.TheVariants as frame
use Rattle.wc_syntax.proofs.Tabled.Agreement.{Tabled}

pub tabled : (d : ℕ) (f : Frame) → Tabled d f
tabled zero frame.Start = record { agrees = refl; ends = refl; all-lead = refl }
tabled zero _ = record { agrees = refl; ends = refl; all-lead = refl }
tabled (suc d) frame.Start = record { agrees = refl; ends = refl; all-lead = refl }
tabled (suc d) _ = record { agrees = refl; ends = refl; all-lead = refl }
