use Rattle.std.proofs.Common.{refl}
use Rattle.wc_binary.proofs.reading.Entry.{decodes-told}
use Rattle.wc_binary.proofs.reading.Exact.{decodes-only, decodes-only-fault}
use Rattle.wc_binary.proofs.decoder.decode.Goals as goal

pub returns-clause-only : goal.returns-clause-only
returns-clause-only c =
    decodes-only c.args.bytes.now c.whole_module.result
    (decodes-told c.args.bytes.now _ _ refl refl c.whole_module.result c.whole_module.ensures)

pub returns-clause-only_fault : goal.returns-clause-only_fault
returns-clause-only_fault c =
    decodes-only-fault c.args.bytes.now c.whole_module.result
    (decodes-told c.args.bytes.now _ _ refl refl c.whole_module.result c.whole_module.ensures)
