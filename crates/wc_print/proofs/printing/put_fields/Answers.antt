use Rattle.wc_print.proofs.Writing.Going.{chain}
use Rattle.wc_print.proofs.printing.put_fields.Goals as goal

pub returns : goal.returns
returns g c =
    chain (rw c.as_slice.ensures at c.put_all.ensures)
    (chain c.put_imports.ensures
    (chain c.put_funcs.ensures
    (chain (rw c.as_slice-2.ensures at c.put_tables.ensures)
    (chain (rw c.as_slice-3.ensures at c.put_memories.ensures)
    (chain (rw c.as_slice-4.ensures at c.put_all-2.ensures)
    (chain c.put_exports.ensures
    (chain c.put_start.ensures
    (chain (rw c.as_slice-5.ensures at c.put_all-3.ensures)
    (rw c.as_slice-6.ensures at c.put_all-4.ensures)))))))))
