use Rattle.wc_declare.specs.Standard.Types.{uses_of}
use Rattle.wc_declare.specs.Standard.Uses.{use_faults}
use Rattle.wc_declare.proofs.Faults.{faults-on}
use Rattle.wc_declare.proofs.Growing.{fields-next}
use Rattle.wc_declare.proofs.judging.judge_fields.Goals as goal

pub loop-field-preserved : goal.loop-field-preserved
loop-field-preserved c = λ ds ts a p.
    faults-on (use_faults ds ts) c.loop-field.noted.first _ _ _ (uses_of c.field-item.result) _
    (fields-next c.args.fields.now c.loop-field.field-index c.field-item.result c.loop-field-test.true c.field-item.is)
    (c.judge_field.ensures ds ts a p) (c.loop-field.invariant ds ts a p)
