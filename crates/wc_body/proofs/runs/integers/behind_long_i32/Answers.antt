use Rattle.std.proofs.Common.{◌<◌, rules}
use Rattle.wc_body.proofs.Drafts.Runs.IntegerFronts.{two-found, three-found, four-found, five-found}
use Rattle.wc_body.proofs.runs.integers.behind_long_i32.Goals as goal

pub returns-then-second-lt128 : goal.returns-then-second-lt128
returns-then-second-lt128 c =
    two-found _ _ _ _ c.in_ok-second.ensures.cases.0 c.behind_last.result c.behind_last.ensures

pub returns-then-third-lt128 : goal.returns-then-third-lt128
returns-then-third-lt128 c =
    let byte : c.args.first < 256 = search rules in
    three-found _ _ _ _ _ _ c.in_ok-second.ensures.cases.0 c.in_ok-third.ensures.cases.0 c.requires byte
    c.behind_last-then-third-lt128.result c.behind_last-then-third-lt128.ensures

pub returns-then-fourth-lt128 : goal.returns-then-fourth-lt128
returns-then-fourth-lt128 c =
    let one : c.args.first < 256 = search rules in
    let two : c.in_ok-second.second.now < 256 = search rules in
    four-found _ _ _ _ _ _ _ _ c.in_ok-second.ensures.cases.0 c.in_ok-third.ensures.cases.0
    c.in_ok-fourth.ensures.cases.0 c.requires one c.if-second-lt128.false two
    c.behind_last-then-fourth-lt128.result c.behind_last-then-fourth-lt128.ensures

pub returns : goal.returns
returns c =
    let one : c.args.first < 256 = search rules in
    let two : c.in_ok-second.second.now < 256 = search rules in
    let three : c.in_ok-third.third.now < 256 = search rules in
    five-found _ _ _ _ _ _ _ _ _ _ c.in_ok-second.ensures.cases.0 c.in_ok-third.ensures.cases.0
    c.in_ok-fourth.ensures.cases.0 c.in_ok-fifth.ensures.cases.0 c.requires one c.if-second-lt128.false two
    c.if-third-lt128.false three c.behind_last_of_32.result c.behind_last_of_32.ensures
