use Rattle.wc_print.proofs.Writing.Whole.{layout-printable, whole}
use Rattle.wc_print.proofs.printing.put_module.Goals as goal

pub returns-clause-layout : goal.returns-clause-layout
returns-clause-layout g c = whole c.args.module.now c.put.ensures c.put_fields.ensures c.put-2.ensures

pub returns-clause-printable : goal.returns-clause-printable
returns-clause-printable g c = layout-printable c.args.module.now c.put_fields.ensures.spelled
