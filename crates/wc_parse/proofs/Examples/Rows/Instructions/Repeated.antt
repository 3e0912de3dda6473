-- What is alike in texts of blocks in blocks.
use Rattle.std.proofs.Common.{ℕ, zero, suc, List, [], ◌++◌, subst}
use Rattle.std.proofs.lemmas.List.{append-nil}
use Rattle.wc_body.specs.Standard.Nested.{Code, ◌⧺◌}
use Rattle.wc_syntax.specs.Standard.Phrases.{Phrase, Many}
use Rattle.wc_syntax.specs.Standard.Deriving.{Item, Event, Derives, none, more}
use Rattle.wc_surface.specs.Standard.Written.Instructions.{Instrs}
use Rattle.wc_parse_code.specs.Standard.Productions.Tokens.{Said}
use Rattle.wc_parse_code.specs.Standard.Productions.Instructions.{Says, instrs, instr}

-- so many times the text
abbrev pub times : ℕ → List ℕ → List ℕ
times zero text = []
times (suc n) text = text ++ times n text

-- so many more
abbrev pub above : ℕ → ℕ → ℕ
above zero m = m
above (suc n) m = suc (above n m)

-- one is any number of it, by the grammar
pub single : {g : Phrase} {us : List Item} {es : List Event} → Derives g us es → Derives (Many g) us es
single {g} {us} {es} d = subst (λ (x : List Item). Derives (Many g) x es) (append-nil us)
    (subst (λ (x : List Event). Derives (Many g) (us ++ []) x) (append-nil es) (more d none))

-- so it is of instructions, by the productions
pub alone : {us : List Said} {c : Instrs} → Says instr us c → Says instrs us (c ⧺ Code.empty)
alone {us} {c} one = subst (λ (x : List Said). Says instrs x (c ⧺ Code.empty)) (append-nil us) (Says.more one Says.none)
