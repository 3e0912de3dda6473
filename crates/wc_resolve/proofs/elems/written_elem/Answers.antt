use Rattle.std.proofs.Common.{List, ◌++◌, ap, ◌∙◌}
use Rattle.wc_spaces.specs.Standard.Least.{least_from}
use Rattle.wc_surface.specs.declared.id.Index.{Index}
use Rattle.wc_declare.specs.declared.kind.SpaceKind.TheVariants as kind
use Rattle.wc_declare.proofs.Faults.{before}
use Rattle.wc_resolve_func.specs.Standard.Constants.{constant_faults}
use Rattle.wc_resolve.specs.Standard.Indices.{declared_in, unknown_in, unknown_of}
use Rattle.wc_resolve.proofs.elems.written_elem.Goals as goal

pub returns-clause-noted : goal.returns-clause-noted
returns-clause-noted c = λ all w.
    let elem = c.args.elem.now in
    let ds = declared_in kind.Func all in
    before _ _ _ (unknown_in (declared_in kind.Table all) elem.table)
    (constant_faults all elem.offset ++ unknown_of ds elem.funcs)
    (rw c.get.ensures.value at c.resolve_optional-table.ensures.noted (declared_in kind.Table all) w.spaces.tables)
    (before _ _ _ (constant_faults all elem.offset) (unknown_of ds elem.funcs) (c.in_ok-offset.ensures.noted all w)
    (c.in_ok-funcs.ensures.noted ds w.spaces.funcs
    ∙ ap (λ (xs : List Index). least_from c.resolve_constant.new.noted.first (unknown_of ds xs)) c.as_slice.ensures))
