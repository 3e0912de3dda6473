-- Names of instructions, token by token (Core 1.0, 6.5.2 to 6.5.7).
use Rattle.std.specs.Prelude.{ℕ, Bool, List, [], ◌∷◌, length, Option, Some, None}
use Rattle.wc_ops.specs.declared.op.Op.{Op}
use Rattle.wc_ops.specs.declared.op.Op.TheVariants as op
use Rattle.wc_body.specs.declared.entry.Kind.{Kind}
use Rattle.wc_body.specs.declared.entry.Kind.TheVariants as kind
use Rattle.wc_body.specs.Standard.Nested.{otherwise, close}
use Rattle.wc_body.specs.Standard.Draft.{step}
use Rattle.wc_symbols.specs.declared.symbol.Value.{Value}
use Rattle.wc_symbols.specs.declared.symbol.Value.TheVariants.{Instruction}
use Rattle.wc_surface.specs.declared.instr.TextInstr.TheVariants as instr
use Rattle.wc_surface.specs.declared.type_use.User.TheVariants as user
use Rattle.wc_parse_code.specs.declared.awaiting.Awaiting.{Awaiting}
use Rattle.wc_parse_code.specs.declared.awaiting.Awaiting.TheVariants as awaiting
use Rattle.wc_parse_code.specs.declared.held.Held.TheVariants as held
use Rattle.wc_parse_code.specs.declared.body_draft.BodyDraft.{BodyDraft}
use Rattle.wc_parse_code.specs.Drafting.Words.{place_behind}
use Rattle.wc_parse_code.specs.Drafting.Uses.{started_use}
use Rattle.wc_parse_code.specs.Drafting.Saying.{say, begin_block}

-- immediates may follow
abbrev pub await : Awaiting → BodyDraft → BodyDraft
await a d = record d { awaiting = a }

-- the name of an instruction in which none is nested: one without immediates is said, the others await theirs
abbrev pub plain_by : Value → ℕ → BodyDraft → BodyDraft
plain_by (Instruction (op.Simple o)) token d = say d (instr.Simple o)
plain_by (Instruction (op.Index o)) token d = await (awaiting.Index o) d
plain_by (Instruction (op.Mem o)) token d = await (awaiting.MemArg o None None) d
plain_by (Instruction op.BrTable) token d = await (awaiting.Labels (length d.labels)) d
plain_by (Instruction op.CallIndirect) token d =
    record d { awaiting = awaiting.Use; written = started_use user.CallIndirect token }
plain_by (Instruction op.I32Const) token d = await awaiting.Literal32 d
plain_by (Instruction op.I64Const) token d = await awaiting.Literal64 d
plain_by _ token d = d

-- the same, which waits for its operands or doesn't
abbrev pub name_plain : Bool → Value → ℕ → BodyDraft → BodyDraft
name_plain waits v token d = plain_by v token (record d { waits = waits })

-- a head is being written
abbrev pub await_head : ℕ → BodyDraft → BodyDraft
await_head token d = record d { awaiting = awaiting.Head None; written = started_use user.Block token }

-- a block, a loop or an if begins
abbrev pub begin_by : Value → ℕ → BodyDraft → BodyDraft
begin_by (Instruction op.Block) token d = await_head token (begin_block d kind.Block (place_behind d.heads))
begin_by (Instruction op.Loop) token d = await_head token (begin_block d kind.Loop (place_behind d.heads))
begin_by (Instruction op.If) token d = await_head token (begin_block d kind.If (place_behind d.heads))
begin_by _ token d = d

-- an if waits for its condition (6.5.7)
abbrev pub hold_if : ℕ → BodyDraft → BodyDraft
hold_if token d = await_head token (record d { held = held.If (place_behind d.heads) ∷ d.held })

-- the innermost one turns to its else part, and an identifier may follow (6.5.2)
abbrev pub turn_by : List ℕ → BodyDraft → BodyDraft
turn_by [] d = d
turn_by (h ∷ hs) d = record d { code = step d.code otherwise; awaiting = awaiting.ElseId h }

-- the innermost one ends, and an identifier may follow (6.5.2)
abbrev pub end_by : List ℕ → BodyDraft → BodyDraft
end_by [] d = d
end_by (h ∷ hs) d = record d { code = step d.code close; blocks = hs; awaiting = awaiting.EndId h }
