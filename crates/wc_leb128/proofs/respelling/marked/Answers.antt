use Rattle.std.proofs.Common.{◌-◌, ◌*◌, ◌%◌, ◌^◌, arith}
use Rattle.std.proofs.lemmas.Nat.{and_le_l, and_le_r}
use Rattle.wc_leb128.proofs.Anew.Marks.{marked-again}
use Rattle.wc_leb128.proofs.respelling.marked.Goals as goal

pub overflow_add-word : goal.overflow_add-word
overflow_add-word c =
    let low = and_le_r c.args.word 9187201950435737471 in
    let high = and_le_l 9259542123273814144 (1 * 2 ^ (8 * (c.args.count - 1)) % 18446744073709551616 - 1) in
    omega (arith, low, high)

pub returns : goal.returns
returns c = λ bytes n h e.
    rw c.to_le_bytes.ensures (marked-again c.args.word c.args.count bytes c.requires.0 c.requires.1 n h e)
