use Rattle.std.proofs.Common.{ℕ, List, ◌∷◌, [], ◌++◌, ap, ◌∙◌}
use Rattle.wc_body.specs.Standard.Entries.{nested}
use Rattle.wc_body.specs.Reading.Unpacked.{unpacked}
use Rattle.wc_body.proofs.Packing.EntryBytes.{kept-bytes, kept-fits}
use Rattle.wc_body.proofs.kept.bodies.Bodies.push_spelled.Goals as goal

pub returns-clause-ok : goal.returns-clause-ok
returns-clause-ok c =
    let row = c.in-Some.row.now in
    let body = c.in-Some.ensures.1 in
    let spelled = kept-bytes row body.packed body.whole in (
      nested (unpacked row),
      c.in-Some.ensures.0 ∙ ap (λ (x : List ℕ). x ++ 0x0B ∷ []) spelled,
      kept-fits row body.packed body.whole,
      c.in_ok-push_row.ensures.ok,
    )
