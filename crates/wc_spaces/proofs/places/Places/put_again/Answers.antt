use Rattle.wc_spaces.proofs.FirstStays.{no_place}
use Rattle.wc_spaces.proofs.places.Places.put_again.Goals as goal

pub returns-in-Ok : goal.returns-in-Ok
returns-in-Ok c = λ h. c.in-Ok.ensures.ok

pub returns-in-Err : goal.returns-in-Err
returns-in-Err c = λ h q. absurd (no_place _ c.in-Err.ensures.absent h)
