use Rattle.std.proofs.Common.{◌≡◌, ◌∙◌, ℕ, List, [], ◌∷◌, map, length, nat_lt, Bool, ap, refl, sym, arith}
use Rattle.std.proofs.lemmas.List.{take_all, length-map}
use denote.Ref.{Bor}
use Rattle.wc_cli.specs.declared.command_line.Ask.{Ask}
use Rattle.wc_cli.specs.Standard.Asked.{Asked, Tell}
use Rattle.wc_cli.proofs.parsing.told_lines.Goals as goal

-- a line for each path, whether the paths are read first or last
told-paths : (ask : Ask) (named : Bool) (ps : List (Bor (List ℕ)))
    → map (λ s. Tell ask s.now named) ps ≡ map (λ p. Tell ask p named) (map (λ s. s.now) ps)
told-paths ask named [] = refl
told-paths ask named (p ∷ ps) = ap (λ (rest : List Asked). Tell ask p.now named ∷ rest) (told-paths ask named ps)

pub returns : goal.returns
returns c =
    let ask = c.args.ask in
    let ps = c.args.paths.now in
    let named = nat_lt 1 (length ps) in
    let texts : List (List ℕ) = map (λ s. s.now) ps in
    c.loop-path.invariant ∙ ap (map (λ s. Tell ask s.now named)) (take_all _ ps (omega arith)) ∙ told-paths ask named ps
    ∙ ap (λ (n : ℕ). map (λ p. Tell ask p (nat_lt 1 n)) texts) (sym (length-map ps _))
