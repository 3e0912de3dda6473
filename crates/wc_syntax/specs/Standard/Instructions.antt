-- The grammar of instructions (Core 1.0, 6.5; Core 2.0, 6.5, for block types).
use Rattle.std.specs.Prelude.{ℕ, zero, suc}
use Rattle.wc_syntax.specs.declared.kind.Kind.TheVariants.{Close, Id, Natural32, Natural64, Signed32, Signed64}
use Rattle.wc_syntax.specs.declared.kind.Kind.TheVariants.{MemOffset, MemAlign, Simple, Indexed, BrTable, CallIndirect}
use Rattle.wc_syntax.specs.declared.kind.Kind.TheVariants.{Access, Const32, Const64, Region, If, ThenWord, ElseWord}
use Rattle.wc_syntax.specs.declared.kind.Kind.TheVariants.{EndWord}
use Rattle.wc_syntax.specs.declared.role.Role.{Role}
use Rattle.wc_syntax.specs.declared.role.Role.TheVariants as role
use Rattle.wc_syntax.specs.Standard.Phrases.{mark, Phrase, Token, Keep, ◌·◌, ◌∣◌, Many, The, Maybe, instr, foldedinstr}
use Rattle.wc_syntax.specs.Standard.Phrases.{typeuse}
use Rattle.wc_syntax.specs.Standard.Types.{lp, rp, index}

-- a literal of 32 bits: i32 = u32 | s32  (6.3.1)
abbrev pub literal32 : Phrase
literal32 = Keep role.Literal Natural32 ∣ Keep role.Literal Signed32

-- a literal of 64 bits: i64 = u64 | s64; numbers that 32 bits hold have kinds of their own  (6.3.1)
abbrev pub literal64 : Phrase
literal64 = Keep role.Literal Natural32 ∣ Keep role.Literal Natural64
    ∣ Keep role.Literal Signed32 ∣ Keep role.Literal Signed64

-- memarg = "offset=" u32 ?, "align=" u32 ?, each in one word  (6.5.5)
abbrev pub memarg : Phrase
memarg = Maybe (Keep role.MemOffset MemOffset) · Maybe (Keep role.MemAlign MemAlign)

-- plaininstr: one in which none is nested; the role is what its name is to the value  (6.5.2 to 6.5.6)
abbrev pub plaininstr : Role → Phrase
plaininstr r = Keep r Simple
    ∣ Keep r Indexed · index role.Index
    ∣ Keep r BrTable · index role.Index · Many (index role.Index)
    ∣ Keep r CallIndirect · The typeuse
    ∣ Keep r Access · memarg
    ∣ Keep r Const32 · literal32
    ∣ Keep r Const64 · literal64

-- label and blocktype: what follows `block`, `loop` and `if`; a block type has a type use's form  (6.5.2)
abbrev pub head : Phrase
head = Maybe (Keep role.Label Id) · The typeuse

-- the identifier that may follow `else` and `end`
abbrev pub end_id : Phrase
end_id = Maybe (Keep role.EndLabel Id)

-- instr*, in which at most d blocks and folded instructions are nested in one another
abbrev pub instrs : ℕ → Phrase
instrs d = Many (The (instr d))

-- instr = plaininstr | foldedinstr
--       | ("block" | "loop") id? blocktype instr* "end" id?
--       | "if" id? blocktype instr* ( "else" id? instr* )? "end" id?  (6.5.2)
abbrev pub instr_body : ℕ → Phrase
instr_body zero = plaininstr role.Plain ∣ The (foldedinstr zero) ∣ Token mark
instr_body (suc d) =
    plaininstr role.Plain
    ∣ The (foldedinstr (suc d))
    ∣ Keep role.Begin Region · head · instrs d · Keep role.End EndWord · end_id
    ∣ Keep role.Begin If · head · instrs d · Maybe (Keep role.Else ElseWord · end_id · instrs d)
    · Keep role.End EndWord · end_id
    ∣ Token mark

-- foldedinstr = "(" plaininstr foldedinstr* ")"
--             | "(" ("block" | "loop") id? blocktype instr* ")"
--             | "(" "if" id? blocktype foldedinstr* "(" "then" instr* ")" ( "(" "else" instr* ")" )? ")"  (6.5.7)
abbrev pub foldedinstr_body : ℕ → Phrase
foldedinstr_body zero = lp · Token mark
foldedinstr_body (suc d) =
    lp · plaininstr role.HeldPlain · Many (The (foldedinstr d)) · Keep role.HeldEnd Close
    ∣ lp · Keep role.Begin Region · head · instrs d · Keep role.End Close
    ∣ lp · Keep role.HeldBegin If · head · Many (The (foldedinstr d))
    · lp · Keep role.Then ThenWord · instrs d · rp
    · Maybe (lp · Keep role.Else ElseWord · instrs d · rp) · Keep role.End Close
    ∣ lp · Token mark
