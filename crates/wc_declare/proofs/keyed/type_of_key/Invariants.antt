use Rattle.std.proofs.Common.{◌≡◌, ◌++◌, drop}
use Rattle.wc_surface.specs.Kept.Keyed.{params_in, results_in}
use Rattle.wc_declare.specs.Kept.Rest.{rest_params, rest_results}
use Rattle.wc_declare.proofs.keyed.type_of_key.Given as goal

abbrev pub invariant-loop-byte : goal.invariant-loop-byte
invariant-loop-byte l = record {
  params : l.reading.params.items ++ rest_params l.reading.behind (drop l.byte-index l.key) ≡ params_in l.key;
  results : l.reading.results.items ++ rest_results l.reading.behind (drop l.byte-index l.key) ≡ results_in l.key;
}
