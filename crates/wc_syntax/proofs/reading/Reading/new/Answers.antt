use Rattle.std.proofs.Common.{List, [], reverse, subst, sym}
use Rattle.wc_syntax.specs.declared.place.Place.TheVariants as place
use Rattle.wc_syntax.specs.declared.place.Frame.{Frame}
use Rattle.wc_syntax.specs.declared.place.Frame.TheVariants as frame
use Rattle.wc_syntax.specs.Standard.Reading.{IsRead, nothing_read, standing}
use Rattle.wc_syntax.proofs.reading.Reading.new.Goals as goal

pub returns : goal.returns
returns c =
    let d = c.args.limit in
    subst (λ (w : List Frame). IsRead d [] [] (standing d place.Done frame.Start (reverse w))) (sym c.new.ensures.items)
    nothing_read
