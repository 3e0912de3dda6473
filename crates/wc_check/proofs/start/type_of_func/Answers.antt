use Rattle.std.proofs.Common.{◌≡◌, ◌≤◌, ◌<◌, ◌-◌, length, map, sym, ◌∙◌}
use Rattle.wc_check.specs.Standard.Spaces.{imported_funcs}
use Rattle.wc_check.proofs.Lists.SpaceLemmas.{func_start, slice_get-front, slice_get-back}
use Rattle.wc_check.proofs.start.type_of_func.Goals as goal

pub returns : goal.returns
returns c =
    let m = c.args.module.now in
    let imported = imported_funcs m.imports in
    let start : c.args.context.now.funcs - c.len.result ≡ length imported
    = rw (c.requires, c.len.ensures) (func_start m) in
    let le : length imported ≤ c.args.index = rw start at c.if-index-start.false in
    c.type_at.ensures
    ∙ rw (c.types.ensures, start) (sym (slice_get-back imported (map (λ f. f.ty) m.funcs) c.args.index le))

pub returns-then-index-start : goal.returns-then-index-start
returns-then-index-start c =
    let m = c.args.module.now in
    let imported = imported_funcs m.imports in
    let start : c.args.context.now.funcs - c.len.result ≡ length imported
    = rw (c.requires, c.len.ensures) (func_start m) in
    let lt : c.args.index < length imported = rw start at c.if-index-start.true in
    c.type_of_import.ensures
    ∙ sym (slice_get-front imported (map (λ f. f.ty) m.funcs) c.args.index lt)
