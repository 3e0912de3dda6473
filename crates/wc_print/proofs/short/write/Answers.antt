use Rattle.std.proofs.Common.{arith, refl}
use Rattle.wc_print.proofs.Writing.Paging.{all-kept}
use Rattle.wc_print.proofs.short.write.Goals as goal

pub returns-clause-bytes : goal.returns-clause-bytes
returns-clause-bytes c =
    all-kept c.args.room.now c.args.bytes.now _ _ c.args.at _ refl (omega arith) c.copy_from_slice.ensures.after
