use Rattle.std.proofs.Common.{◌≡◌, arith, suc, ◌-◌, length, not, ap, ◌∙◌}
use Rattle.wc_surface.specs.Kept.Lengthening.{Lengthens, LastIs}
use Rattle.std.proofs.lemmas.List.Elements.{All-set}
use Rattle.wc_surface.proofs.LocalLemmas.{last-some, put-last, last-room, last-numbered, AtMost, written_out-push}
use Rattle.wc_surface.proofs.local.put.Goals as goal

pub overflow_add-before : goal.overflow_add-before
overflow_add-before c =
    let gs = c.args.row.now.items in
    let e : LastIs (Lengthens c.args.local.ty c.args.local.token) gs =
    rw c.as_slice.ensures.value at (c.is_next.ensures c.if-is_next.true) in
    let some = last-some (Lengthens c.args.local.ty c.args.local.token) gs e in
    let n : suc (c.len-last.result - 1) ≡ length gs = omega (arith, c.args.row.now.ok.0, some) in
    let room = last-room gs (c.len-last.result - 1) c.index-then-is_next.result.now c.args.local.ty
    c.args.local.token c.index-then-is_next.ensures n e in
    omega (arith, room)

pub returns-then-is_next-clause-ok : goal.returns-then-is_next-clause-ok
returns-then-is_next-clause-ok c =
    let gs = c.args.row.now.items in
    let e : LastIs (Lengthens c.args.local.ty c.args.local.token) gs =
    rw c.as_slice.ensures.value at (c.is_next.ensures c.if-is_next.true) in
    let some = last-some (Lengthens c.args.local.ty c.args.local.token) gs e in
    let n : suc (c.len-last.result - 1) ≡ length gs = omega (arith, c.args.row.now.ok.0, some) in
    put-last gs (c.len-last.result - 1) c.index.result.now c.index-then-is_next.result.now c.args.local
    c.index.ensures c.index-then-is_next.ensures n e (c.is_none.ensures ∙ ap not c.if-is_none.true)

pub returns-clause-ok : goal.returns-clause-ok
returns-clause-ok c = rw c.in_ok-push.ensures.items
    (written_out-push c.args.row.now.items c.args.local.id c.args.local.ty c.args.local.token)

pub returns-then-is_next-clause-numbered : goal.returns-then-is_next-clause-numbered
returns-then-is_next-clause-numbered c =
    let gs = c.args.row.now.items in
    let e : LastIs (Lengthens c.args.local.ty c.args.local.token) gs =
    rw c.as_slice.ensures.value at (c.is_next.ensures c.if-is_next.true) in
    let some = last-some (Lengthens c.args.local.ty c.args.local.token) gs e in
    let n : suc (c.len-last.result - 1) ≡ length gs = omega (arith, c.args.row.now.ok.0, some) in
    All-set AtMost gs (c.len-last.result - 1) _ (omega (
      arith,
      last-numbered gs (c.len-last.result - 1) c.index.result.now
          c.index-then-is_next.result.now c.args.local.ty c.args.local.token c.index.ensures
          c.index-then-is_next.ensures n e,
    )) c.requires
