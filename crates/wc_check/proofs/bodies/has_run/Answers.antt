use Rattle.std.proofs.Common.{◌-◌, length, refl, sym}
use Rattle.std.proofs.lemmas.Bool.{leb-true, ltb-true}
use Rattle.std.proofs.lemmas.Option.{slice_get_read}
use Rattle.wc_check.proofs.Walks.RunLemmas.{some-number, settable-run}
use Rattle.wc_check.proofs.bodies.has_run.Goals as goal

pub returns-in-Some : goal.returns-in-Some
returns-in-Some c = λ yes globals is.
    let starts = c.args.starts.now in let start = c.in-Some.start.now in
    let lt = ltb-true (c.args.end - 1) (length starts) (sym c.in-Some.ensures.lookup.0) in
    let at = slice_get_read starts (length starts) (c.args.end - 1) start refl lt c.in-Some.ensures.lookup.1 in
    settable-run globals c.args.first c.args.end start (some-number c.args.end c.if-end-eq0.false) (rw is at at)
    (leb-true start c.args.first yes)
