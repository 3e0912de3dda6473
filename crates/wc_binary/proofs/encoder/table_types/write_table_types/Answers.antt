use Rattle.std.proofs.Common.{[]}
use Rattle.std.proofs.lemmas.Result.{err_from_is_err_and}
use Rattle.wc_body.specs.Standard.ValueBytes.{vector_bytes}
use Rattle.wc_binary.specs.Writing.Values.{FitsLimits, table_type_bytes}
use Rattle.wc_binary.proofs.spelling.Encoding.{item-fails, get_or-any}
use Rattle.wc_binary.proofs.encoder.table_types.write_table_types.Goals as goal

pub returns-in_err-write_table_type : goal.returns-in_err-write_table_type
returns-in_err-write_table_type c =
    let p = err_from_is_err_and c.from_residual-in_err-write_table_type.result
    c.from_residual-in_err-write_table_type.ensures.1 in
    rw (p.1, p.2)
    (item-fails FitsLimits c.args.tables.now c.loop-table.table-index _
    (get_or-any c.args.tables.now c.loop-table.table-index _ _ c.loop-table-test.true) c.loop-table-test.true
    c.loop-table.out.items c.write_table_type.new.out.items [] c.args.out.now.items c.write_table_type.new.out.items
    (vector_bytes table_type_bytes c.args.tables.now)
    c.in_err-write_table_type.field-0.0 c.in_err-write_table_type.ensures)
