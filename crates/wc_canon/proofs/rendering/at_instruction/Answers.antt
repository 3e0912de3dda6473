use Rattle.std.proofs.Common.{ℕ, List, ◌++◌, ap, append-nil, codes, decimal}
use Rattle.wc_canon.proofs.rendering.at_instruction.Goals as goal

pub returns : goal.returns
returns c =
    let front : List ℕ → List ℕ =
    λ t. codes "func "
    ++ (decimal c.args.func ++ (codes " instruction " ++ (decimal c.args.number ++ (codes ": " ++ t)))) in
    ap front (append-nil c.args.text.now)
