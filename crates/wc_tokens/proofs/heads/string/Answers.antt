use Rattle.std.proofs.Common.{◌≡◌, ◌≢◌, length, arith}
use Rattle.std.proofs.lemmas.Bool.Decides.{nat_tests}
use Rattle.wc_tokens.proofs.Decided.HeadLaws.{BeginsToken-string, Stuck-string, Stuck-escape}
use Rattle.wc_tokens.proofs.heads.string.Goals as goal

pub returns-then-is_empty : goal.returns-then-is_empty
returns-then-is_empty c =
    let empty : length c.after_elements-end.result.now ≡ 0 = grind (arith, nat_tests) in
    Stuck-string c.args.text.now c.args.rest.now c.after_elements-end.result.now c.requires c.after_elements-end.ensures
    empty

pub returns-in-Some : goal.returns-in-Some
returns-in-Some c =
    BeginsToken-string c.args.text.now c.args.rest.now c.after_elements-end.result.now c.in-Some.after.now c.requires
    c.after_elements-end.ensures c.in-Some.ensures

pub returns-in-None : goal.returns-in-None
returns-in-None c =
    let some : length c.after_elements-end.result.now ≢ 0 = grind (arith, nat_tests) in
    Stuck-escape c.args.text.now c.args.rest.now c.after_elements-end.result.now c.requires c.after_elements-end.ensures
    some c.in-None.ensures
