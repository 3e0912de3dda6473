use Rattle.std.proofs.Common.{refl}
use Rattle.wc_ops.specs.declared.op.Op.TheVariants as ops
use Rattle.wc_binary.proofs.reading.Entries.{plain-taken}
use Rattle.wc_binary.proofs.decoder.expression.indexed.Goals as goal

pub returns : goal.returns
returns g c =
    let kept = c.add.ensures in
    plain-taken c.args.builder.now c.add.new.builder (ops.Index c.args.op) c.args.at _ _
    c.in_ok-instr.instr c.add.result c.requires refl c.in_ok-instr.ensures kept.more kept.ok kept.last
    kept.memory
