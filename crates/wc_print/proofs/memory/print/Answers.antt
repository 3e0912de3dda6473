use Rattle.std.proofs.Common.{[], ap, ◌∙◌}
use Rattle.wc_print.proofs.Writing.Whole.{text-ascii}
use Rattle.wc_print.proofs.memory.print.Goals as goal

pub from_utf8_unchecked-requires : goal.from_utf8_unchecked-requires
from_utf8_unchecked-requires c =
    let is = c.put_module.ensures.layout.all c.put_module.new.out [] (λ _. c.new.ensures.items) c.if-lost.false in
    text-ascii c.args.module.now _ is c.put_module.ensures.printable

pub returns-clause-layout : goal.returns-clause-layout
returns-clause-layout c =
    let is = c.put_module.ensures.layout.all c.put_module.new.out [] (λ _. c.new.ensures.items) c.if-lost.false in
    ap (λ v. v.items) c.from_utf8_unchecked.ensures.value ∙ is

pub returns-clause-printable : goal.returns-clause-printable
returns-clause-printable c = c.put_module.ensures.printable
