-- Instructions that are said whole: where they go, and what they add to the lists of a body.
use Rattle.std.specs.Prelude.{ℕ, ◌-◌, ◌%◌, ◌^◌, Bool, true, false, List, [], ◌∷◌, ◌++◌, length, nat_lt, if◌then◌else◌}
use Rattle.std.specs.Prelude.{Option, Some, None}
use Rattle.wc_body.specs.declared.entry.Kind.{Kind}
use Rattle.wc_body.specs.declared.entry.Kind.TheVariants as kind
use Rattle.wc_body.specs.Standard.Nested.{nesting_limit, plain}
use Rattle.wc_body.specs.Standard.Draft.{Draft, step}
use Rattle.wc_ops.specs.declared.val_type.ValType.{ValType as ValueType}
use Rattle.wc_surface.specs.declared.instr.TextInstr.{TextInstr}
use Rattle.wc_surface.specs.declared.instr.TextInstr.TheVariants as instr
use Rattle.wc_surface.specs.declared.head.HeadType.TheVariants.{Short, Use}
use Rattle.wc_surface.specs.Standard.Identifiers.{Identifier}
use Rattle.wc_surface.specs.Standard.Marks.{begin_of}
use Rattle.wc_parse_code.specs.declared.awaiting.Awaiting.{Awaiting}
use Rattle.wc_parse_code.specs.declared.awaiting.Awaiting.TheVariants as awaiting
use Rattle.wc_parse_code.specs.declared.held.Held.{Held}
use Rattle.wc_parse_code.specs.declared.held.Held.TheVariants as held
use Rattle.wc_parse_code.specs.declared.body_draft.BodyDraft.{BodyDraft}
use Rattle.wc_parse_code.specs.Drafting.Words.{place_behind}
use Rattle.wc_parse_code.specs.Drafting.Heads.{head_of}
use Rattle.wc_parse_code.specs.Drafting.Uses.{started_use, use_of, short_type}

-- nothing more may follow
abbrev pub complete : BodyDraft → BodyDraft
complete d = record d { awaiting = awaiting.Nothing }

-- an instruction: in front of its operands it waits for them (6.5.7), else it stands
abbrev pub say_by : Bool → BodyDraft → TextInstr → BodyDraft
say_by true d i = record d { held = held.Plain i ∷ d.held }
say_by false d i = record d { code = step d.code (plain i) }

-- the same, where the last name says whether it waits
abbrev pub say : BodyDraft → TextInstr → BodyDraft
say d i = say_by d.waits d i

-- a block, a loop or an if whose head has this place begins, where fewer than may be are open (6.5.2)
abbrev pub begun_in : Draft TextInstr ℕ → Kind → ℕ → Draft TextInstr ℕ
begun_in code k h = if nat_lt (length code.around) nesting_limit then step code (begin_of k h) else code

-- the same in a body, which keeps the place of its head until it ends
abbrev pub begin_block : BodyDraft → Kind → ℕ → BodyDraft
begin_block d k h = record d { code = begun_in d.code k h; blocks = h ∷ d.blocks }

-- the instruction that waits last stands now (6.5.7)
abbrev pub release_by : List Held → BodyDraft → BodyDraft
release_by [] d = d
release_by (held.Plain i ∷ hs) d = record d { held = hs; code = step d.code (plain i) }
release_by (held.If h ∷ hs) d = begin_block (record d { held = hs }) kind.If h

-- the same in the body, where the operands or the condition of that instruction end (6.5.7)
abbrev pub release : BodyDraft → BodyDraft
release d = release_by d.held d

-- the type use that is written becomes the next of the body (6.6.3)
abbrev pub with_use : BodyDraft → BodyDraft
with_use d = record d {
  uses = d.uses ++ use_of d.written ∷ [];
  written = started_use d.written.user d.written.token;
}

-- the head that is written becomes the next of the body; its type is a type use only where it has to be (6.5.2)
abbrev pub head_by : Option (Option ValueType) → Option Identifier → BodyDraft → BodyDraft
head_by (Some t) label d = record d { heads = d.heads ++ head_of d.written.token label (Short t) ∷ [] }
head_by None label d = with_use (record d {
  heads = d.heads ++ head_of d.written.token label (Use (place_behind d.uses)) ∷ [];
})

-- the same; what is written behind the name tells which
abbrev pub with_head : Option Identifier → BodyDraft → BodyDraft
with_head label d = head_by (short_type d.written) label d

-- the labels from this place on (6.5.2)
abbrev pub table_of : ℕ → ℕ → TextInstr
table_of first count = instr.BrTable (first % 2 ^ 32) ((count - first) % 2 ^ 32)

-- an instruction is whole once none of its immediates can follow; one that lacks an immediate is not said, and no
-- text of the grammar has it
abbrev pub settle_by : Awaiting → BodyDraft → BodyDraft
settle_by (awaiting.MemArg op align offset) d = say d (instr.Access op align offset)
settle_by (awaiting.Labels first) d = say d (table_of first (length d.labels))
settle_by awaiting.Use d = say (with_use d) (instr.CallIndirect (place_behind d.uses))
settle_by (awaiting.Head label) d = with_head label d
settle_by _ d = d

-- the same of what the last name awaits, and nothing more may follow it
abbrev pub settled : BodyDraft → BodyDraft
settled d = complete (settle_by d.awaiting d)
