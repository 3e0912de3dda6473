use Rattle.std.proofs.Common.{◌≡◌, map, take}
use Rattle.wc_cli.specs.Standard.Asked.{asked_by, Tell}
use Rattle.wc_cli.proofs.parsing.told_lines.Given as goal

abbrev pub invariant-loop-path : goal.invariant-loop-path
invariant-loop-path l =
    map asked_by l.lines.items ≡ map (λ s. Tell l.ask s.now l.named) (take l.path-index l.paths)
