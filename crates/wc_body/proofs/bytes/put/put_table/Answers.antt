use Rattle.std.proofs.Common.{◌<◌, ◌^◌, [], ◌∷◌, length, refl, ap, ◌∙◌, append_assoc, rules}
use Rattle.std.proofs.lemmas.List.{append-nil}
use Rattle.wc_leb128.specs.Writing.Bytes.{unsigned_bytes}
use Rattle.wc_body.specs.Standard.ValueBytes.{Fits32}
use Rattle.wc_body.proofs.Packing.PutBytes.{next-written, next-fits, table-put, none-left, on-ok}
use Rattle.wc_body.proofs.bytes.put.put_table.Goals as goal

pub loop-label-init : goal.loop-label-init
loop-label-init c = record {
  left = c.into_iter-label-iterator.ensures.into_iter_gives;
  written = rw (c.in_ok-write_number.ensures, c.new-table.ensures.items, c.len.ensures, append-nil) refl;
  fits = tt;
}

pub loop-label-preserved : goal.loop-label-preserved
loop-label-preserved c =
    let before = c.loop-label.yielded in
    let fits : Fits32 c.in-Some.label = search rules in
    record {
      left = append_assoc before (c.in-Some.label ∷ []) c.next.new.self
          ∙ rw c.in-Some.ensures.steps at c.loop-label.invariant.left;
      written = next-written before c.loop-label.table.items c.write_number-in-loop-label.new.table.items
          (unsigned_bytes (length c.args.labels)) c.in-Some.label
          c.loop-label.invariant.written c.in_ok-write_number-2.ensures;
      fits = next-fits before c.in-Some.label c.loop-label.invariant.fits fits;
    }

pub returns-clause-ok : goal.returns-clause-ok
returns-clause-ok c =
    let i = c.loop-label.invariant in
    let all = none-left c.loop-label.yielded c.loop-label.label-iterator c.args.labels i.left c.in-None.ensures.steps.0
    in
    table-put c.put_all.result c.args.bytes.now.items c.put_all.new.bytes.items c.as_slice.result.now
    c.as_slice-2.result.now c.loop-label.yielded c.args.labels c.args.default c.put_all.ensures.ok
    (c.as_slice.ensures.value ∙ i.written) all (c.as_slice-2.ensures ∙ c.shortest_u-default.ensures.bytes
    ∙ ap unsigned_bytes c.from.ensures)

pub returns-clause-fits : goal.returns-clause-fits
returns-clause-fits c =
    let i = c.loop-label.invariant in
    let all = none-left c.loop-label.yielded c.loop-label.label-iterator c.args.labels i.left c.in-None.ensures.steps.0
    in
    let few : length c.args.labels < 2 ^ 32 = search rules in
    let default : Fits32 c.args.default = search rules in
    on-ok c.put_all.result ((few, rw all at i.fits), default)
