use Rattle.std.proofs.Math.ListN.{drop_of_length-le}
use Rattle.wc_resolve.proofs.Walking.{listed-more, told-more, telling-ends}
use Rattle.wc_resolve.proofs.lists.gather.Goals as goal

pub loop-field-preserved : goal.loop-field-preserved
loop-field-preserved c =
    let fs = c.args.fields.now in
    let at = c.loop-field.field-index in
    let told = c.in_ok-put_field.ensures in
    record {
      few = c.count_field-counts.ensures.few at c.loop-field.invariant.few;
      listing = listed-more fs at c.field-item.result c.loop-field-test.true c.field-item.is c.loop-field.counts _
          c.loop-field.lists _ c.count_field-counts.ensures.counts (told.lists fs c.requires.declared)
          c.loop-field.invariant.listing;
      telling = told-more fs at c.field-item.result c.loop-field-test.true c.field-item.is c.loop-field.notes _
          (told.notes fs c.requires.declared) c.loop-field.invariant.telling;
    }

pub returns-clause-noted : goal.returns-clause-noted
returns-clause-noted c =
    let fs = c.args.fields.now in
    let past = drop_of_length-le fs c.loop-field-test.false in
    c.join_all.ensures fs (telling-ends fs c.loop-field.notes (rw past at c.loop-field.invariant.telling))
