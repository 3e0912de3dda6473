use Rattle.std.proofs.Common.{◌∙◌, [], rules}
use Rattle.wc_print.specs.Standard.Printed.{text}
use Rattle.wc_print.specs.Standard.Layout.{layout}
use Rattle.wc_print.proofs.outlet.print_to.Goals as goal

pub returns-clause-sends : goal.returns-clause-sends
returns-clause-sends g c =
    let has = c.put_module.ensures.layout.all c.new-out.result [] c.new-out.ensures.begun in
    let sent = c.finish.ensures.sent _ (text (layout c.args.module.now)) has in
    let same = c.finish.ensures.same ∙ has.same in
    search rules

pub returns-clause-failed : goal.returns-clause-failed
returns-clause-failed g c =
    let has = c.put_module.ensures.layout.all c.new-out.result [] c.new-out.ensures.begun in
    let same = c.finish.ensures.same ∙ has.same in
    search rules

pub returns-clause-again : goal.returns-clause-again
returns-clause-again g c =
    let has = c.put_module.ensures.layout.all c.new-out.result [] c.new-out.ensures.begun in
    let again = c.finish.ensures.again _ (text (layout c.args.module.now)) has in
    let same = c.finish.ensures.same ∙ has.same in
    search rules

pub returns-clause-flushed : goal.returns-clause-flushed
returns-clause-flushed g c =
    let has = c.put_module.ensures.layout.all c.new-out.result [] c.new-out.ensures.begun in
    let flushed = c.finish.ensures.flushed _ (text (layout c.args.module.now)) has in
    let same = c.finish.ensures.same ∙ has.same in
    search rules

pub returns-clause-flushed_behind_all : goal.returns-clause-flushed_behind_all
returns-clause-flushed_behind_all g c =
    let has = c.put_module.ensures.layout.all c.new-out.result [] c.new-out.ensures.begun in
    let flushed_behind_all = c.finish.ensures.flushed_behind_all _ (text (layout c.args.module.now)) has in
    let same = c.finish.ensures.same ∙ has.same in
    search rules
