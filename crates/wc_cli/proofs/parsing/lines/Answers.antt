use Rattle.std.proofs.Common.{◌≡◌, ◌∙◌, [], ap, map}
use Rattle.clap.specs.Words.{takes, HasKind}
use Rattle.wc_cli.proofs.ErrorKinds.{program-kinds}
use Rattle.wc_cli.proofs.parsing.lines.Goals as goal

pub returns-clause-err : goal.returns-clause-err
returns-clause-err c =
    λ t. c.in-Err.ensures.passes (ap (λ a. takes a (map (λ s. s.now) c.args.words.now)) c.in_ok-wcanon.ensures ∙ t)

pub returns-in-Some-clause-kinds : goal.returns-in-Some-clause-kinds
returns-in-Some-clause-kinds c = program-kinds (λ k. k ≡ []) _ _ c.in_ok-wcanon.ensures c.in-Ok.ensures.kinds

pub returns-clause-kinds : goal.returns-clause-kinds
returns-clause-kinds c =
    program-kinds (λ k. HasKind k c.in-Err.error) _ _ c.in_ok-wcanon.ensures c.in-Err.ensures.kinds
