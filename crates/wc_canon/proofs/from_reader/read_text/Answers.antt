use Rattle.wc_canon.proofs.Streams.{all-read, all-counted, begins-as, text-judged, text-refused, near-read}
use Rattle.wc_canon.proofs.FailedReads.{text-cut-told}
use Rattle.wc_canon.proofs.from_reader.read_text.Goals as goal

pub returns-in_err-read_rest-clause-cut : goal.returns-in_err-read_rest-clause-cut
returns-in_err-read_rest-clause-cut g c = λ x all.
    text-cut-told x _ _ (begins-as x _ _ _ c.requires.some c.requires.is_text all)
    (λ at is. c.in_err-read_rest.ensures.cut at is x all) c.from_residual.ensures.1

pub returns-in_err-module-clause-judges : goal.returns-in_err-module-clause-judges
returns-in_err-module-clause-judges g c = λ x all.
    let e = c.in_ok-read_rest.ensures in
    let whole = all-read x _ _ _ (e.whole x all) e.all c.deref.ensures.value in
    text-refused x _ _ _ whole (begins-as x _ _ _ c.requires.some c.requires.is_text all) c.in_err-module.ensures.fault
    c.from_residual-in_err-module.ensures.1

pub returns-clause-judges : goal.returns-clause-judges
returns-clause-judges g c = λ x all.
    let e = c.in_ok-read_rest.ensures in
    let whole = all-read x _ _ _ (e.whole x all) e.all c.deref.ensures.value in
    text-judged x _ _ whole (begins-as x _ _ _ c.requires.some c.requires.is_text all) c.in_ok-module.ensures.ok

pub returns-in_err-module-clause-near : goal.returns-in_err-module-clause-near
returns-in_err-module-clause-near g c = λ x all.
    let seen = c.deref.ensures.value in
    let e = c.in_ok-read_rest.ensures in
    let whole = all-read x _ _ _ (e.whole x all) e.all seen in
    near-read x _ _ _ (all-counted x _ _ _ whole seen e.count) c.from_residual-in_err-module.ensures.1

pub returns-clause-near : goal.returns-clause-near
returns-clause-near g c = λ x all.
    let seen = c.deref.ensures.value in
    let e = c.in_ok-read_rest.ensures in
    let whole = all-read x _ _ _ (e.whole x all) e.all seen in
    all-counted x _ _ _ whole seen e.count
