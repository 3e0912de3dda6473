use Rattle.wc_print.proofs.Writing.Stringing.{plain-put}
use Rattle.wc_print.proofs.short.write_name.Goals as goal

pub returns-clause-put : goal.returns-clause-put
returns-clause-put c =
    plain-put c.args.name.now _ _ _ _ c.type_inv.name c.requires.short.1 c.write-begin.ensures.bytes
    c.write-end.ensures.bytes c.write.ensures.bytes
