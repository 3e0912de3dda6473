use Rattle.std.proofs.Common.{◌≡◌, drop}
use Rattle.wc_spaces.specs.Standard.Least.{least_from}
use Rattle.wc_declare.specs.Standard.Uses.{param_faults}
use Rattle.wc_declare.proofs.judging.judge_params.Given as goal

abbrev pub invariant-loop-name : goal.invariant-loop-name
invariant-loop-name l = least_from l.noted.first (param_faults l.user (drop l.name-index l.names))
    ≡ least_from l.initial.noted.first (param_faults l.user l.names)
