use Rattle.std.proofs.Common.{ℕ, List, [], ◌∷◌, ◌++◌, take, get_or, sym, ap, ◌∙◌, subst, append_assoc, arith}
use Rattle.std.proofs.lemmas.List.{take_more, take_all}
use Rattle.wc_symbols.specs.Reading.Utf8.{Tracks}
use Rattle.wc_symbols.proofs.string.followed_by_all.Goals as goal

pub loop-byte-preserved : goal.loop-byte-preserved
loop-byte-preserved c = λ read k.
    let at = c.loop-byte.byte-index in
    let bytes = c.args.bytes.now in
    let one = take_more bytes at 0 (omega arith) in
    let whole = append_assoc read (take at bytes) (get_or bytes at 0 ∷ []) ∙ ap (λ (t : List ℕ). read ++ t) (sym one) in
    subst (Tracks _) whole (c.followed-after.ensures (read ++ take at bytes) (c.loop-byte.invariant read k))

pub returns : goal.returns
returns c = λ read k.
    let whole = take_all c.loop-byte.byte-index c.args.bytes.now (omega arith) in
    subst (λ (t : List ℕ). Tracks c.loop-byte.after (read ++ t)) whole (c.loop-byte.invariant read k)
