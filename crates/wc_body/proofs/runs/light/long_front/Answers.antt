use Rattle.std.proofs.Common.{◌≤◌, get_or, arith}
use Rattle.wc_body.specs.Drafting.LightRows.{light_at}
use Rattle.wc_body.proofs.Drafts.Runs.LightLemmas.{light-second}
use Rattle.wc_body.proofs.Drafts.Runs.LongLemmas.{light-outer, light-constant}
use Rattle.wc_body.proofs.runs.light.long_front.Goals as goal

pub long_local-requires-clause-long : goal.long_local-requires-clause-long
long_local-requires-clause-long c =
    let second = light-second (get_or c.args.bytes.now 0 0) (rw c.requires.row at c.if-light-ne0.true) in
    let past : (light_at (get_or c.args.bytes.now 0 0)).second ≤ get_or c.args.bytes.now 1 0 =
    rw c.requires.row at c.requires.past in
    (c.requires.long, omega (arith, past, second))

pub long_outer-requires-clause-long : goal.long_outer-requires-clause-long
long_outer-requires-clause-long c =
    let outer = light-outer (get_or c.args.bytes.now 0 0) (rw c.requires.row at c.if-light-eq0.true) in
    let past : (light_at (get_or c.args.bytes.now 0 0)).second ≤ get_or c.args.bytes.now 1 0 =
    rw c.requires.row at c.requires.past in
    (c.requires.long, omega (arith, past, outer.1))

pub long_outer-requires-clause-outer : goal.long_outer-requires-clause-outer
long_outer-requires-clause-outer c =
    (light-outer (get_or c.args.bytes.now 0 0) (rw c.requires.row at c.if-light-eq0.true)).0

pub behind_constant-requires-clause-long : goal.behind_constant-requires-clause-long
behind_constant-requires-clause-long c =
    let constant = light-constant (get_or c.args.bytes.now 0 0) (rw c.requires.row at c.if-light-ne2.false)
    (rw c.requires.row at c.if-light-ne0.false) (rw c.requires.row at c.if-light-ne0-2.false) in
    let past : (light_at (get_or c.args.bytes.now 0 0)).second ≤ get_or c.args.bytes.now 1 0 =
    rw c.requires.row at c.requires.past in
    (c.requires.long, omega (arith, past, constant.1))

pub behind_constant-requires-clause-constant : goal.behind_constant-requires-clause-constant
behind_constant-requires-clause-constant c =
    (light-constant (get_or c.args.bytes.now 0 0) (rw c.requires.row at c.if-light-ne2.false)
    (rw c.requires.row at c.if-light-ne0.false) (rw c.requires.row at c.if-light-ne0-2.false)).0
