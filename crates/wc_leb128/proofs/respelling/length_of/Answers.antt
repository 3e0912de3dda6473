use Rattle.std.proofs.Common.{◌≡◌, ◌+◌, ◌-◌, arith}
use Rattle.std.proofs.lemmas.Nat.{leading_top}
use lib.Count.{count_leading_zeros}
use Rattle.wc_leb128.proofs.Anew.Lengths.{has-groups, has-signed-groups}
use Rattle.wc_leb128.proofs.respelling.length_of.Goals as goal

pub returns-clause-unsigned : goal.returns-clause-unsigned
returns-clause-unsigned c = λ s.
    let m = c.max.ensures in
    let t = leading_top 64 c.max.result (omega (arith, m)) (omega (arith, c.max.type_inv)) in
    let none : c.from.result ≡ 0 = rw s at c.from.ensures in
    let e : 64 - count_leading_zeros 64 c.max.result + 6 + c.from.result ≡ t.0 + 7 = omega (arith, t.1, none) in
    rw e (has-groups c.args.bits c.max.result t.0 (omega (arith, m)) (λ one. omega (arith, m, one)) t.2 t.3)

pub returns-clause-signed : goal.returns-clause-signed
returns-clause-signed c = λ s.
    let m = c.max.ensures in
    let t = leading_top 64 c.max.result (omega (arith, m)) (omega (arith, c.max.type_inv)) in
    let one : c.from.result ≡ 1 = rw s at c.from.ensures in
    let e : 64 - count_leading_zeros 64 c.max.result + 6 + c.from.result ≡ t.0 + 8 = omega (arith, t.1, one) in
    rw e (has-signed-groups c.args.bits c.max.result t.0 (omega (arith, m)) (λ more. omega (arith, m, more)) t.2 t.3)
