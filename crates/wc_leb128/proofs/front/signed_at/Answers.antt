use Rattle.std.proofs.Common.{rules, SFits, w64, ℤ, arith}
use Rattle.std.proofs.lemmas.Int.{to_z-of_z}
use Rattle.wc_leb128.specs.Standard.Integers.{S}
use Rattle.wc_leb128.proofs.Laws.SignedLaws.{continues, unambiguous}
use Rattle.wc_leb128.proofs.Reading.AtFront.{front-start, front-done, front-bad, front-more, front-end}
use Rattle.wc_leb128.proofs.front.signed_at.Goals as goal

pub loop-byte-init : goal.loop-byte-init
loop-byte-init g c =
    front-start ℤ (S g.row.N) (unambiguous g.row.N) _ _ (continues.nothing-unfinished g.row.N) c.new-so_far.ensures

pub returns-in-Done : goal.returns-in-Done
returns-in-Done g c =
    let m = rw c.in-Some.ensures.cases.0 at c.loop-byte.invariant in
    let fits : SFits w64 c.in-Done.integer = search rules in
    simp to_z-of_z (front-done ℤ (S g.row.N) (unambiguous g.row.N) _ _ _ _ _ _ m c.in-Done.ensures)

pub returns-in-Bad : goal.returns-in-Bad
returns-in-Bad g c =
    let m = rw c.in-Some.ensures.cases.0 at c.loop-byte.invariant in
    front-bad ℤ (S g.row.N) (unambiguous g.row.N) _ _ _ _ _ m c.in-Bad.ensures

pub loop-byte-smaller : goal.loop-byte-smaller
loop-byte-smaller g c = omega (arith, c.in-Some.ensures.cases.1)

pub loop-byte-preserved : goal.loop-byte-preserved
loop-byte-preserved g c =
    let m = rw c.in-Some.ensures.cases.0 at c.loop-byte.invariant in
    front-more ℤ (S g.row.N) (unambiguous g.row.N) _ _ _ _ _ m c.in-More.ensures

pub returns : goal.returns
returns g c =
    front-end ℤ (S g.row.N) (unambiguous g.row.N) _ _ _ c.loop-byte.invariant c.in_default.ensures.cases
