use Rattle.std.proofs.Common.{◌∙◌, ◌++◌, ◌/◌, take, refl, ap, arith, append_assoc, ℕ, List}
use Rattle.wc_print.specs.Writing.Numbers.{front_digits, last_digits}
use Rattle.wc_print.proofs.Writing.Paging.{row-kept, digits-apart}
use Rattle.wc_print.proofs.digits.write_digits.Goals as goal

pub returns-clause-bytes : goal.returns-clause-bytes
returns-clause-bytes c =
    let n = c.args.n in
    let old = take c.args.at c.args.room.now in
    let end = c.write_thousands-end.result in
    let front = c.write_thousands-end.new.room in
    let few = c.last_digits-count.ensures.few in
    row-kept front _ _ end c.last_digits-count.result.1 4 (omega arith) (omega (arith, few)) c.copy_row.ensures
    ∙ ap (λ (x : List ℕ). take end front ++ x) c.last_digits-count.ensures.digits
    ∙ ap (λ (x : List ℕ). x ++ last_digits (n / 1000) n) c.write_thousands-end.ensures.bytes
    ∙ append_assoc old (front_digits (n / 1000)) (last_digits (n / 1000) n)
    ∙ ap (λ (x : List ℕ). old ++ x) (digits-apart n (n / 1000) refl (omega (arith, c.requires.few)))
