use Rattle.std.proofs.Common.{ap, sym, ◌∙◌, subst}
use Rattle.wc_parse.specs.declared.text_draft.TextDraft.{TextDraft}
use Rattle.wc_tokens.specs.Standard.Streams.{Unread}
use Rattle.wc_parse.specs.Kept.Passing.{SaysWhole}
use Rattle.wc_parse.proofs.Saying.Passing.{passes-none, passes-more}
use Rattle.wc_parse.proofs.wholes.take_repeated.Goals as goal

pub loop-count-init : goal.loop-count-init
loop-count-init c = record { passes = passes-none; fresh = c.requires }

pub loop-count-preserved : goal.loop-count-preserved
loop-count-preserved c =
    let between = sym c.is_between.ensures ∙ c.if-is_between.true in
    record {
      passes = rw c.in_ok-push.ensures
          (passes-more c.loop-count.invariant.passes between c.loop-count.invariant.fresh
          (subst
          (λ (u : Unread).
          SaysWhole u c.loop-count.count c.in-Some.whole.field c.in-Some.whole.count c.whole_like.new.ahead)
          c.ahead-ahead.ensures (rw c.in-Some.is at c.in_ok-whole.ensures.says)));
      fresh = ap (λ (d : TextDraft). d.field) c.in_ok-push.ensures ∙ c.loop-count.invariant.fresh;
    }
