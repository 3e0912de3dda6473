use mir.Syntax.{w64}
use mir.Val.{SFits}
use Rattle.std.proofs.Common.{[], rules}
use Rattle.std.proofs.lemmas.Int.{to_z-of_z}
use Rattle.std.proofs.lemmas.Result.{err_from_is_err_and}
use Rattle.wc_leb128.proofs.Laws.SignedLaws.{continues, spelled-holds}
use Rattle.wc_binary.proofs.reading.Going.{byte-fails}
use Rattle.wc_binary.proofs.reading.integers.SignedBytes.{held-first, held-done, held-bad, held-next, held-end}
use Rattle.wc_binary.proofs.decoder.signed.signed_from.Goals as goal

pub loop-value-init : goal.loop-value-init
loop-value-init g c =
    ([], c.new-so_far.ensures, continues.nothing-unfinished g.row.N, held-first _ _ _ c.requires.behind)

pub returns-in-Done-clause-gives : goal.returns-in-Done-clause-gives
returns-in-Done-clause-gives g c =
    let i = c.loop-value.invariant in
    let u = rw i.1 at c.in-Done.ensures in
    let fits : SFits w64 c.in-Done.value = search rules in
    simp to_z-of_z (held-done g.row.N i.0 _ _ _ _ _ _ i.3 c.in-Done.value u.0)

pub returns-in-Done-clause-holds : goal.returns-in-Done-clause-holds
returns-in-Done-clause-holds g c =
    let i = c.loop-value.invariant in
    let u = rw i.1 at c.in-Done.ensures in
    let fits : SFits w64 c.in-Done.value = search rules in
    simp to_z-of_z (spelled-holds g.row.N _ c.in-Done.value u.0)

pub returns-in-Bad-clause-gives : goal.returns-in-Bad-clause-gives
returns-in-Bad-clause-gives g c =
    let i = c.loop-value.invariant in
    let u = rw i.1 at c.in-Bad.ensures in
    rw c.bad.ensures (held-bad g.row.N i.0 _ _ _ _ _ _ i.3 i.2 u.0)

pub returns-in_err-byte-clause-gives : goal.returns-in_err-byte-clause-gives
returns-in_err-byte-clause-gives g c =
    let i = c.loop-value.invariant in
    let u = rw i.1 at c.in-More.ensures in
    let p = err_from_is_err_and c.from_residual.result c.from_residual.ensures.1 in
    rw (p.1, p.2) (byte-fails _ _ _ i.3.going c.in_err-byte.field-0.0 c.in_err-byte.ensures _
    (held-end g.row.N i.0 _ _ _ _ _ _ i.3 u.0))

pub loop-value-preserved : goal.loop-value-preserved
loop-value-preserved g c =
    let i = c.loop-value.invariant in
    let u = rw i.1 at c.in-More.ensures in (
      _,
      u.1,
      u.0,
      rw c.place-at.ensures (held-next g.row.N i.0 _ _ _ _ _ _ i.3 _ c.in_ok-byte.byte
          c.in_ok-byte.ensures),
    )
