use Rattle.std.proofs.Common.{sym, ◌∙◌, subst, List, ℕ}
use Rattle.wc_spaces.specs.Kept.Types.{AreTypes}
use Rattle.wc_spaces.proofs.Listing.{known, known-place, unknown, unknown-place, same-count}
use Rattle.wc_spaces.proofs.types.Types.find_or_add.Goals as goal

pub returns-in-Some-clause-types : goal.returns-in-Some-clause-types
returns-in-Some-clause-types c = λ ts w.
    subst (λ (x : List (List ℕ)). AreTypes x c.args.self.now)
    (sym (known ts c.args.key.now c.in-Some.place (sym (c.in-Some.ensures ∙ w.placed c.args.key.now)))) w

pub returns-in-Some-clause-place : goal.returns-in-Some-clause-place
returns-in-Some-clause-place c = λ ts w. known-place ts c.args.key.now c.in-Some.place (sym (c.in-Some.ensures
    ∙ w.placed c.args.key.now))

pub returns-in_ok-add-in-None-clause-types : goal.returns-in_ok-add-in-None-clause-types
returns-in_ok-add-in-None-clause-types c = λ ts w.
    subst (λ (x : List (List ℕ)). AreTypes x c.add.new.self) (sym (unknown ts c.args.key.now (sym (c.in-None.ensures
    ∙ w.placed c.args.key.now))))
    (c.in_ok-add-in-None.ensures.types ts w)

pub returns-in_ok-add-in-None-clause-place : goal.returns-in_ok-add-in-None-clause-place
returns-in_ok-add-in-None-clause-place c = λ ts w.
    unknown-place ts c.args.key.now _ (c.len-place.ensures ∙ c.args.self.now.keys.ok.0
    ∙ same-count ts c.args.self.now w)
    (sym (c.in-None.ensures ∙ w.placed c.args.key.now))
