use Rattle.std.proofs.Common.{sym, inl}
use Rattle.wc_symbols.specs.declared.shape.Shape.TheVariants as shape
use Rattle.wc_symbols.proofs.Spelling.WordLemmas.{word-is, offset-begins, align-begins, behind-offset, behind-align}
use Rattle.wc_symbols.proofs.word.word.Goals as goal

pub range_from-requires : goal.range_from-requires
range_from-requires c =
    λ _. behind-offset c.args.text.now _ c.utf8.text
    (offset-begins c.args.text.now (rw c.as_bytes.ensures.value at (sym c.in-Offset.ensures)))

pub range_from-requires-in-Align : goal.range_from-requires-in-Align
range_from-requires-in-Align c =
    λ _. behind-align c.args.text.now _ c.utf8.text
    (align-begins c.args.text.now (rw c.as_bytes.ensures.value at (sym c.in-Align.ensures)))

pub returns-in-Natural : goal.returns-in-Natural
returns-in-Natural c =
    word-is _ _ shape.Natural _ c.in-Natural.ensures c.as_bytes.ensures.value c.natural.ensures

pub returns-in-Plus : goal.returns-in-Plus
returns-in-Plus c = word-is _ _ shape.Plus _ c.in-Plus.ensures c.as_bytes.ensures.value c.plus.ensures

pub returns-in-Minus : goal.returns-in-Minus
returns-in-Minus c = word-is _ _ shape.Minus _ c.in-Minus.ensures c.as_bytes.ensures.value c.minus.ensures

pub returns-in-Offset : goal.returns-in-Offset
returns-in-Offset c =
    let begins = offset-begins c.args.text.now (rw c.as_bytes.ensures.value at (sym c.in-Offset.ensures)) in
    word-is _ _ shape.Offset _ c.in-Offset.ensures c.as_bytes.ensures.value
    (inl (c.range_from.result.now, rw c.range_from.ensures.value begins, c.offset.ensures))

pub returns-in-Align : goal.returns-in-Align
returns-in-Align c =
    let begins = align-begins c.args.text.now (rw c.as_bytes.ensures.value at (sym c.in-Align.ensures)) in
    word-is _ _ shape.Align _ c.in-Align.ensures c.as_bytes.ensures.value
    (inl (c.range_from-in-Align.result.now, rw c.range_from-in-Align.ensures.value begins, c.alignment.ensures))

pub returns-in-Name : goal.returns-in-Name
returns-in-Name c = word-is _ _ shape.Name _ c.in-Name.ensures c.as_bytes.ensures.value c.name.ensures
