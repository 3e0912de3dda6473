use Rattle.std.proofs.Common.{◌≡◌, ◌+◌, ◌++◌, [], ◌∷◌, append_assoc, arith, ◌∙◌, sym, ap}
use Rattle.std.specs.Prelude.{slice_get, Some}
use Rattle.std.proofs.lemmas.List.{length_push}
use Rattle.wc_check.specs.declared.fault.Item.TheVariants as items
use Rattle.wc_check.specs.Judging.Verdicts.{verdict}
use Rattle.wc_check.specs.Standard.Rules.{at, each}
use Rattle.wc_check.specs.Standard.Spaces.{module_context}
use Rattle.wc_check.specs.Standard.Broken.{broken_export}
use Rattle.wc_check.proofs.Lists.SpaceLemmas.{slice_get-between}
use Rattle.wc_check.proofs.Lists.VerdictLemmas.{judged-passes}
use Rattle.wc_check.proofs.Lists.HashLemmas.{distinct-rules}
use Rattle.wc_check.proofs.exports.check_distinct_exports.Goals as goal

pub loop-export-preserved : goal.loop-export-preserved
loop-export-preserved c =
    let m = c.args.module.now in let n = c.loop-export.place in let e = c.in-Some.export in
    let before = c.loop-export.yielded in let behind = c.next.new.self in
    let left : before ++ e ∷ behind ≡ m.exports = rw c.in-Some.ensures.steps at c.loop-export.invariant.left in
    let there : slice_get m.exports n ≡ Some e =
    rw left at (slice_get-between before behind e n c.loop-export.invariant.place) in
    let found = rw c.requires.rules at c.space_rule.ensures in
    let none = judged-passes (items.Export n) _ _ _ c.judge.ensures found c.in_ok-judge.was in
    let passes : broken_export m n e ≡ []
    = ap (λ ws. at (items.Export n) ws) (distinct-rules (module_context m) m.exports n e c.requires.distinct there)
    ∙ none in
    record {
      left = append_assoc before (e ∷ []) behind ∙ left;
      place = omega (arith, length_push before e, c.loop-export.invariant.place);
      rest =
          sym (ap (λ broken. verdict (broken ++ each (broken_export m) (n + 1) behind)) passes)
          ∙ rw c.in-Some.ensures.steps at c.loop-export.invariant.rest;
    }
