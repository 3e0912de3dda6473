use Rattle.std.proofs.Common.{arith, []}
use Rattle.std.proofs.lemmas.Result.{err_from_is_err_and}
use Rattle.wc_leb128.proofs.Laws.UnsignedLaws.{continues, spelled-below}
use Rattle.wc_binary.proofs.reading.Going.{byte-fails}
use Rattle.wc_binary.proofs.reading.integers.SignedBytes.{held-first, held-next}
use Rattle.wc_binary.proofs.reading.integers.UnsignedBytes.{unsigned-done, unsigned-bad, unsigned-end}
use Rattle.wc_binary.proofs.decoder.integer.unsigned_from.Goals as goal

pub loop-value-init : goal.loop-value-init
loop-value-init g c = ([], c.new-so_far.ensures, continues.nothing-unfinished 32, held-first _ _ _ c.requires)

pub overflow_cast-result : goal.overflow_cast-result
overflow_cast-result g c =
    let i = c.loop-value.invariant in
    let u = rw i.1 at c.in-Done.ensures in
    let lt = spelled-below 32 _ _ u.0 in
    omega arith

pub returns-in-Done : goal.returns-in-Done
returns-in-Done g c =
    let i = c.loop-value.invariant in
    let u = rw i.1 at c.in-Done.ensures in
    unsigned-done 32 i.0 _ _ _ _ _ _ i.3 _ u.0

pub returns-in-Bad : goal.returns-in-Bad
returns-in-Bad g c =
    let i = c.loop-value.invariant in
    let u = rw i.1 at c.in-Bad.ensures in
    rw c.bad.ensures (unsigned-bad 32 i.0 _ _ _ _ _ _ i.3 i.2 u.0)

pub returns-in_err-byte : goal.returns-in_err-byte
returns-in_err-byte g c =
    let i = c.loop-value.invariant in
    let u = rw i.1 at c.in-More.ensures in
    let p = err_from_is_err_and c.from_residual.result c.from_residual.ensures.1 in
    rw (p.1, p.2) (byte-fails _ _ _ i.3.going c.in_err-byte.field-0.0 c.in_err-byte.ensures _
    (unsigned-end 32 i.0 _ _ _ _ _ _ i.3 u.0))

pub loop-value-preserved : goal.loop-value-preserved
loop-value-preserved g c =
    let i = c.loop-value.invariant in
    let u = rw i.1 at c.in-More.ensures in
    (_, u.1, u.0, rw c.place-at.ensures (held-next 32 i.0 _ _ _ _ _ _ i.3 _ c.in_ok-byte.byte c.in_ok-byte.ensures))
