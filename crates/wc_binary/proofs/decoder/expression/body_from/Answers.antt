use Rattle.std.proofs.Common.{◌≡◌, true, false, sym, ◌∙◌, rules}
use Rattle.std.proofs.lemmas.Result.{err_from_is_err_and}
use Rattle.wc_binary.proofs.reading.Going.{byte-fails}
use Rattle.wc_binary.proofs.reading.Entries.{draws-none, next-none, entry-fails, entry-adds, entry-ends, goes-on}
use Rattle.wc_binary.proofs.reading.Entries.{comes-last}
use Rattle.wc_binary.proofs.reading.ahead.FrontEntries.{ahead-adds}
use Rattle.wc_binary.proofs.decoder.expression.body_from.Goals as goal

pub entries-init : goal.entries-init
entries-init g c = rw c.requires (draws-none _)

pub returns-in_err-byte : goal.returns-in_err-byte
returns-in_err-byte g c =
    let i = ahead-adds _ _ _ _ _ _ c.entries.invariant c.entries_ahead.ensures in
    let p = err_from_is_err_and c.from_residual.result c.from_residual.ensures.1 in
    rw (p.1, p.2) (byte-fails _ _ _ i.going c.in_err-byte.field-0.0 c.in_err-byte.ensures _ (next-none _ _ _ _ i))

pub returns-in_err-entry : goal.returns-in_err-entry
returns-in_err-entry g c =
    let i = ahead-adds _ _ _ _ _ _ c.entries.invariant c.entries_ahead.ensures in
    let h = rw c.place-at.ensures at c.in_err-entry.ensures in
    let p = err_from_is_err_and c.from_residual-in_err-entry.result c.from_residual-in_err-entry.ensures.1 in
    rw (p.1, p.2) (entry-fails _ _ _ _ _ i c.in_ok-byte.byte c.in_ok-byte.ensures _ c.in_err-entry.field-0.0 h)

pub entries-preserved : goal.entries-preserved
entries-preserved g c =
    let i = ahead-adds _ _ _ _ _ _ c.entries.invariant c.entries_ahead.ensures in
    let t = c.in_ok-entry.ensures in
    let h = rw c.place-at.ensures at t.1 in
    let more : c.in_ok-entry.field-0 ≡ true = search rules in
    let last = goes-on _ _ (t.3.0 ∙ t.2.1) more in
    let adds = entry-adds _ _ _ _ _ i c.in_ok-byte.byte c.in_ok-byte.ensures _ t.0 h last in
    rw (t.3.1 more) adds

pub returns : goal.returns
returns g c =
    let i = ahead-adds _ _ _ _ _ _ c.entries.invariant c.entries_ahead.ensures in
    let t = c.in_ok-entry.ensures in
    let h = rw c.place-at.ensures at t.1 in
    let more : c.in_ok-entry.field-0 ≡ false = search rules in
    let last = comes-last _ _ (t.3.0 ∙ t.2.1) more in
    let whole = sym (t.3.2 more) ∙ c.in-Ok.ensures.ok in
    entry-ends _ _ _ _ _ i c.in_ok-byte.byte c.in_ok-byte.ensures _ t.0 h last c.in-Ok.body whole
