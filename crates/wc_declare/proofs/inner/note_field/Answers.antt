use Rattle.std.proofs.Common.{List, [], ap}
use Rattle.wc_surface.specs.Standard.WrittenLocals.{written_out}
use Rattle.wc_surface.specs.declared.type_use.ParamName.{ParamName}
use Rattle.wc_surface.specs.declared.local.Local.{Local}
use Rattle.wc_declare.specs.Standard.Spaces.{texts}
use Rattle.wc_declare.specs.Standard.Inner.{param_ids, local_ids, names_of, locals_of, token_beyond, too_many}
use Rattle.wc_declare.proofs.Naming.{none-seen, field-faults}
use Rattle.wc_declare.proofs.inner.note_field.Goals as goal

pub returns : goal.returns
returns c =
    let w = none-seen c.new-seen.result c.new-seen.ensures in
    let xs = param_ids c.params_of.result.now in
    let ls = written_out c.groups_of-groups.result.now in
    field-faults c.args.noted.now.first c.note_params.new.noted.first c.note_locals.new.noted.first _ xs (local_ids ls)
    (param_ids (names_of c.args.field.now)) (local_ids (locals_of c.args.field.now)) (too_many (token_beyond ls))
    (too_many (token_beyond (locals_of c.args.field.now)))
    (ap (λ (x : List ParamName). param_ids x) c.params_of.ensures)
    (ap (λ (x : List Local). local_ids x) c.groups_of-groups.ensures.written)
    (ap (λ (x : List Local). too_many (token_beyond x)) c.groups_of-groups.ensures.written)
    (c.in_ok-note_params.ensures.noted [] w)
    (c.in_ok-note_locals.ensures.noted (texts xs) (c.in_ok-note_params.ensures.names [] w))
    c.note_beyond.ensures
