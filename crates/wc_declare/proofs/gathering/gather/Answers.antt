use Rattle.std.proofs.Common.{arith}
use Rattle.std.proofs.Math.ListN.{drop_of_length-le}
use Rattle.wc_declare.proofs.Walking.{few-more, few-enough, walking-begins, walking-more, spaces-end, types-end}
use Rattle.wc_declare.proofs.Walking.{notes-end}
use Rattle.wc_declare.proofs.gathering.gather.Goals as goal

pub loop-field-init : goal.loop-field-init
loop-field-init c = record {
  few = c.in_ok-no_spaces.ensures.few;
  count = omega (arith, c.new.ensures.count);
  walking = walking-begins c.args.fields.now _ _ c.in_ok-no_spaces.ensures.spaces c.new.ensures.types
      c.no_notes-notes.ensures;
}

pub put_field-requires-clause-spaces : goal.put_field-requires-clause-spaces
put_field-requires-clause-spaces c =
    few-enough c.loop-field.field-index _ c.loop-field.gathered.spaces c.loop-field-test.true c.requires
    c.loop-field.invariant.few

pub loop-field-preserved : goal.loop-field-preserved
loop-field-preserved c =
    let fs = c.args.fields.now in
    let grown = c.in_ok-put_field.ensures in
    record {
      few = few-more c.loop-field.field-index c.field-item.result c.loop-field.gathered.spaces _ _ _
          c.loop-field.invariant.few grown.spaces;
      count = omega (arith, grown.types.count, c.loop-field.invariant.count);
      walking = walking-more fs c.loop-field.field-index c.field-item.result c.loop-field-test.true c.field-item.is
          c.loop-field.gathered _ c.loop-field.notes _ grown c.loop-field.invariant.walking;
    }

pub returns-clause-spaces : goal.returns-clause-spaces
returns-clause-spaces c =
    let fs = c.args.fields.now in
    let past = drop_of_length-le fs c.loop-field-test.false in
    spaces-end fs c.loop-field.gathered c.loop-field.notes (rw past at c.loop-field.invariant.walking)

pub returns-clause-types : goal.returns-clause-types
returns-clause-types c =
    let fs = c.args.fields.now in
    let past = drop_of_length-le fs c.loop-field-test.false in
    types-end fs c.loop-field.gathered c.loop-field.notes (rw past at c.loop-field.invariant.walking)

pub returns-clause-noted : goal.returns-clause-noted
returns-clause-noted c =
    let fs = c.args.fields.now in
    let past = drop_of_length-le fs c.loop-field-test.false in
    c.join_all.ensures fs
    (notes-end fs c.loop-field.gathered c.loop-field.notes (rw past at c.loop-field.invariant.walking))
