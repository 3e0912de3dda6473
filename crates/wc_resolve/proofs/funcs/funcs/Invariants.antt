use Rattle.std.proofs.Common.{◌≡◌, ◌++◌, drop}
use Rattle.std.specs.List.{flat_map}
use Rattle.wc_spaces.specs.Standard.Least.{least_from}
use Rattle.wc_resolve.specs.Standard.Funcs.{field_funcs, funcs_of, field_func_faults, all_func_faults}
use Rattle.wc_resolve.proofs.funcs.funcs.Given as goal

abbrev pub invariant-loop-field : goal.invariant-loop-field
invariant-loop-field l = record {
  funcs : l.out ++ flat_map (field_funcs l.fields) (drop l.field-index l.fields) ≡ funcs_of l.fields;
  noted : least_from l.noted.first (flat_map (field_func_faults l.fields) (drop l.field-index l.fields))
      ≡ least_from l.initial.noted.first (all_func_faults l.fields);
}
