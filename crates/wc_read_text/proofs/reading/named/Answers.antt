use Rattle.wc_read_text.proofs.Stages.{names-told, text-read}
use Rattle.wc_read_text.proofs.reading.named.Goals as goal

pub returns-in-Ok-clause-ok : goal.returns-in-Ok-clause-ok
returns-in-Ok-clause-ok c = text-read c.args.text.now c.args.surface.now c.in-Ok.module c.in-Ok.ensures.ok

pub returns-in-Err-Bad-clause-fault : goal.returns-in-Err-Bad-clause-fault
returns-in-Err-Bad-clause-fault c =
    names-told c.args.text.now c.args.surface.now c.in-Err-Bad.token c.byte_of.result c.in-Err-Bad.why
    (rw c.in-Err-Bad.field-0-is at c.in-Err-Bad.ensures.fault) c.byte_of.ensures
