use Rattle.std.proofs.Common.{◌+◌, ◌-◌, ◌≤◌, ◌∙◌, ap, length, refl, rules, arith}
use Rattle.std.proofs.lemmas.List.{take_at}
use Rattle.wc_device.specs.Standard.Device.{device_inner, read_count}
use Rattle.wc_binary.proofs.reading.Entry.{decodes-fed, near-fed, cut-fed, ends-fed, fails-at}
use Rattle.wc_binary.proofs.reading.Entry.{never-again, same-lender, none-failed, unspent}
use Rattle.wc_binary.proofs.reading.Exact.{fed-only, fed-only-fault}
use Rattle.wc_binary.proofs.decoder.decode_from.Goals as goal

pub returns-clause-decodes : goal.returns-clause-decodes
returns-clause-decodes g c =
    let copied = c.copy_from_slice.ensures.after in
    let front = take_at _ _ _ (ap length copied) ∙ copied in
    decodes-fed _ _ c.whole_module.result c.whole_module.ensures c.args.front.now _ front _ (refl, refl)

pub returns-clause-only : goal.returns-clause-only
returns-clause-only g c = fed-only c.args.front.now _ c.whole_module.result (returns-clause-decodes g c)

pub returns-clause-only_fault : goal.returns-clause-only_fault
returns-clause-only_fault g c = fed-only-fault c.args.front.now _ c.whole_module.result (returns-clause-decodes g c)

pub returns-clause-near : goal.returns-clause-near
returns-clause-near g c =
    let copied = c.copy_from_slice.ensures.after in
    let front = take_at _ _ _ (ap length copied) ∙ copied in
    let feed = c.whole_module.new.source in
    let count = read_count feed.device.now in
    let le : count ≤ count - (feed.end - feed.at) + 4096 = omega (arith, feed.within, feed.ordered, feed.counted) in
    let near = near-fed _ _ c.whole_module.result c.whole_module.ensures c.args.front.now _ front
    (g.R.Read.remaining (device_inner c.args.device.now)) (refl, refl) count refl le in
    let lent = same-lender _ _ c.whole_module.result c.whole_module.ensures in
    search rules

pub returns-clause-cut : goal.returns-clause-cut
returns-clause-cut g c =
    let copied = c.copy_from_slice.ensures.after in
    let front = take_at _ _ _ (ap length copied) ∙ copied in
    cut-fed _ _ c.whole_module.result c.whole_module.ensures c.args.front.now _ front _ (refl, refl)

pub returns-clause-end : goal.returns-clause-end
returns-clause-end g c =
    let ends = ends-fed _ _ _ _ c.whole_module.result refl refl c.whole_module.ensures in
    search rules

pub returns-clause-first_failure : goal.returns-clause-first_failure
returns-clause-first_failure g c =
    let none = none-failed _ c.requires.well in
    let fails = fails-at _ _ c.whole_module.result none c.whole_module.ensures in
    search rules

pub returns-clause-again : goal.returns-clause-again
returns-clause-again g c ended =
    let fresh = unspent _ _ c.requires.well ended in
    let again = never-again _ _ c.whole_module.result fresh c.whole_module.ensures in
    search rules
