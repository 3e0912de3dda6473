use Rattle.wc_readback.proofs.NameLemmas.Reading.{text-of}
use Rattle.wc_readback.proofs.names.printing.text_of.Goals as goal

pub returns-clause-back : goal.returns-clause-back
returns-clause-back c = λ none short. rw c.in_ok-printed.ensures.layout
    (text-of c.args.module.now c.module_fits.ensures c.module_has_few_locals.ensures none
    c.in_ok-printed.ensures.printable (rw c.in_ok-printed.ensures.layout at short))
