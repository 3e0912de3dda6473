use Rattle.std.proofs.Common.{◌∷◌, refl}
use Rattle.wc_tokens.proofs.Decided.HeadLaws.{idchar-dollar, BeginsToken-id, BeginsToken-word}
use Rattle.wc_tokens.proofs.heads.identifier.Goals as goal

pub returns-then-after-rest : goal.returns-then-after-rest
returns-then-after-rest c =
    BeginsToken-id (36 ∷ c.args.rest.now) 36 c.args.rest.now c.after_name-after.result.now refl idchar-dollar
    c.after_name-after.ensures refl c.if-after-rest.true

pub returns : goal.returns
returns c =
    BeginsToken-word (36 ∷ c.args.rest.now) 36 c.args.rest.now c.after_name-after.result.now refl idchar-dollar
    c.after_name-after.ensures (λ _. c.if-after-rest.false)
