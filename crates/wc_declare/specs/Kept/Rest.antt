-- What is left of a key.
use Rattle.std.specs.Prelude.{ℕ, Bool, true, false, List, [], map}
use Rattle.wc_ops.specs.declared.val_type.ValType.{ValType}
use Rattle.wc_surface.specs.Kept.Keyed.{byte_type, params_in, results_in}

-- parameters to come, in front of the zero or behind it
abbrev pub rest_params : Bool → List ℕ → List ValType
rest_params true bytes = []
rest_params false bytes = params_in bytes

-- results to come
abbrev pub rest_results : Bool → List ℕ → List ValType
rest_results true bytes = map byte_type bytes
rest_results false bytes = results_in bytes
