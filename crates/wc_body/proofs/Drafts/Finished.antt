-- What is built, once nothing is open.
use Rattle.std.proofs.Common.{◌≡◌, ℕ, Bool, false, List, [], ◌++◌, length, sym, ap, ◌∙◌}
use Rattle.std.proofs.lemmas.List.{append-nil, nil_from_length}
use Rattle.wc_body.specs.declared.builder.Part.{Part}
use Rattle.wc_body.specs.declared.needs.Needs.{Needs}
use Rattle.wc_body.specs.Standard.Entries.{nested, drafted}
use Rattle.wc_body.specs.Standard.Needed.{nothing}
use Rattle.wc_body.specs.Reading.Unpacked.{packed, unpacked}
use Rattle.wc_body.specs.Drafting.NeededAlong.{needs_along}
use Rattle.wc_body.specs.Drafting.OpenParts.{part_in}
use Rattle.wc_body.specs.Drafting.PackedBody.{IsBody, IsStarted}
use Rattle.wc_body.proofs.Drafts.BuildingLemmas.{building-whole, depth-is}
use Rattle.wc_body.proofs.Drafts.NeedsLemmas.{needs-flatten}
use Rattle.wc_body.proofs.Drafts.Runs.FrontRun.{Fronted}

pub started-body : (x : List ℕ) (parts : List Part) (after_else : Bool) (needs : Needs)
    → IsStarted x parts after_else needs → length (drafted (unpacked x)).around ≡ 0 → IsBody x needs
started-body x parts after_else needs s z =
    let whole = (building-whole part_in _ parts s.building z).0 in
    record {
      packed = s.packed;
      whole = whole;
      needed =
          s.needed ∙ ap (λ ms. needs_along nothing 0 ms) (sym whole.whole) ∙ needs-flatten (nested (unpacked x));
    }

-- where all bytes are those of the entries that they begin with, and none of these is open
pub fronted-body : (x : List ℕ) (parts : List Part) (needs : Needs) (rest : List ℕ)
    → Fronted [] (drafted (unpacked [])) x rest parts needs → length rest ≡ 0
    → length parts ≡ 0 → IsBody x needs
fronted-body x parts needs rest f none closed =
    let is : x ≡ packed f.es =
    f.split ∙ ap (λ (y : List ℕ). packed f.es ++ y) (nil_from_length rest none) ∙ append-nil (packed f.es) in
    let started : IsStarted x parts false needs = rw is f.started in
    let depth = depth-is part_in _ parts started.building in
    started-body x parts false needs started (sym depth ∙ closed)
