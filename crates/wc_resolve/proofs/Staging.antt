-- Stage after stage, and part after part.
use Rattle.std.proofs.Common.{◌≡◌, List, ◌++◌, Option, Some, None, refl, sym, ap, ◌∙◌}
use Rattle.wc_resolve_code.specs.declared.why.NameWhy.{NameWhy}
use Rattle.wc_spaces.specs.declared.noted.Fault.{Fault}
use Rattle.wc_spaces.specs.Standard.Least.{least_from}
use Rattle.wc_surface.specs.declared.field.Field.{Field}
use Rattle.wc_declare.proofs.Faults.{before}
use Rattle.wc_resolve.specs.Standard.Globals.{all_global_faults}
use Rattle.wc_resolve.specs.Standard.Exports.{all_export_faults}
use Rattle.wc_resolve.specs.Standard.Start.{all_start_faults}
use Rattle.wc_resolve.specs.Standard.Segments.{all_elem_faults, all_data_faults}
use Rattle.wc_resolve.specs.Standard.Funcs.{all_func_faults}
use Rattle.wc_resolve.specs.Standard.Denoted.{reference_faults}

pub references-told : (fs : List Field) (o a b c d e f : Option (Fault NameWhy))
    → a ≡ least_from o (all_global_faults fs)
    → b ≡ least_from a (all_export_faults fs) → c ≡ least_from b (all_start_faults fs)
    → d ≡ least_from c (all_elem_faults fs)
    → e ≡ least_from d (all_data_faults fs) → f ≡ least_from e (all_func_faults fs)
    → f ≡ least_from o (reference_faults fs)
references-told fs o a b c d e f ha hb hc hd he hf =
    let exports = all_export_faults fs in
    let starts = all_start_faults fs in
    let elems = all_elem_faults fs in
    let datas = all_data_faults fs in
    let funcs = all_func_faults fs in
    before o a f (all_global_faults fs) (exports ++ (starts ++ (elems ++ (datas ++ funcs)))) ha
    (before a b f exports (starts ++ (elems ++ (datas ++ funcs))) hb
    (before b c f starts (elems ++ (datas ++ funcs)) hc
    (before c d f elems (datas ++ funcs) hd (before d e f datas funcs he hf))))
