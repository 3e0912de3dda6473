use Rattle.std.proofs.Common.{refl}
use Rattle.wc_ops.specs.declared.op.Op.TheVariants as ops
use Rattle.wc_binary.proofs.reading.Entries.{plain-taken}
use Rattle.wc_binary.proofs.decoder.expression.instruction.Goals as goal

pub returns-in_ok-instr-in-Simple : goal.returns-in_ok-instr-in-Simple
returns-in_ok-instr-in-Simple g c =
    let kept = c.add.ensures in
    rw c.in-Simple.is (plain-taken c.args.builder.now c.add.new.builder (ops.Simple c.in-Simple.op) c.args.at _ _
    c.in_ok-instr-in-Simple.instr c.add.result c.requires refl c.in_ok-instr-in-Simple.ensures kept.more kept.ok
    kept.last
    kept.memory)

pub returns-in_ok-instr-in-Mem : goal.returns-in_ok-instr-in-Mem
returns-in_ok-instr-in-Mem g c =
    let kept = c.add-in-Mem.ensures in
    rw c.in-Mem.is (plain-taken c.args.builder.now c.add-in-Mem.new.builder (ops.Mem c.in-Mem.op) c.args.at _ _
    c.in_ok-instr-in-Mem.instr c.add-in-Mem.result c.requires refl c.in_ok-instr-in-Mem.ensures kept.more kept.ok
    kept.last
    kept.memory)

pub returns-in_ok-instr-in-BrTable : goal.returns-in_ok-instr-in-BrTable
returns-in_ok-instr-in-BrTable g c =
    let kept = c.add-in-BrTable.ensures in
    rw c.in-BrTable.is (plain-taken c.args.builder.now c.add-in-BrTable.new.builder ops.BrTable c.args.at _ _
    c.in_ok-instr-in-BrTable.instr c.add-in-BrTable.result c.requires refl c.in_ok-instr-in-BrTable.ensures kept.more
    kept.ok kept.last
    kept.memory)

pub returns-in_ok-instr-in-CallIndirect : goal.returns-in_ok-instr-in-CallIndirect
returns-in_ok-instr-in-CallIndirect g c =
    let kept = c.add-in-CallIndirect.ensures in
    rw c.in-CallIndirect.is (plain-taken c.args.builder.now c.add-in-CallIndirect.new.builder ops.CallIndirect c.args.at
    _ _
    c.in_ok-instr-in-CallIndirect.instr c.add-in-CallIndirect.result c.requires refl
    c.in_ok-instr-in-CallIndirect.ensures kept.more kept.ok kept.last
    kept.memory)

pub returns-in_ok-instr-in-I32Const : goal.returns-in_ok-instr-in-I32Const
returns-in_ok-instr-in-I32Const g c =
    let kept = c.add-in-I32Const.ensures in
    rw c.in-I32Const.is (plain-taken c.args.builder.now c.add-in-I32Const.new.builder ops.I32Const c.args.at _ _
    c.in_ok-instr-in-I32Const.instr c.add-in-I32Const.result c.requires refl c.in_ok-instr-in-I32Const.ensures kept.more
    kept.ok kept.last
    kept.memory)

pub returns-in_ok-instr-in-I64Const : goal.returns-in_ok-instr-in-I64Const
returns-in_ok-instr-in-I64Const g c =
    let kept = c.add-in-I64Const.ensures in
    rw c.in-I64Const.is (plain-taken c.args.builder.now c.add-in-I64Const.new.builder ops.I64Const c.args.at _ _
    c.in_ok-instr-in-I64Const.instr c.add-in-I64Const.result c.requires refl c.in_ok-instr-in-I64Const.ensures kept.more
    kept.ok kept.last
    kept.memory)
