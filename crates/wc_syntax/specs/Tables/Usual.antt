-- Where the most usual tokens lead: those of instructions in which none is nested.
use Rattle.std.specs.Prelude.{Bool, true, false, Option, Some, None}
use Rattle.wc_syntax.specs.declared.kind.Kind.{Kind}
use Rattle.wc_syntax.specs.declared.kind.Kind.TheVariants as kind
use Rattle.wc_syntax.specs.declared.role.Role.{Role}
use Rattle.wc_syntax.specs.declared.place.Place.{Place}
use Rattle.wc_syntax.specs.declared.place.Place.TheVariants as place
use Rattle.wc_syntax.specs.declared.place.Frame.{Frame}
use Rattle.wc_syntax.specs.declared.place.Frame.TheVariants as frame
use Rattle.wc_syntax.specs.declared.place.Move.{Move}
use Rattle.wc_syntax.specs.declared.place.Move.TheVariants.{On}
use Rattle.wc_syntax.specs.declared.place.Action.{Action}
use Rattle.wc_syntax.specs.Tables.Table.{takes_instrs}

-- nothing has to follow in front of the frame's rest, and no name or parenthesis may
abbrev pub is_free : Place → Bool
is_free place.Done = true
is_free place.EndLabel = true
is_free place.Indices = true
is_free place.MemOffset = true
is_free place.MemAlign = true
is_free _ = false

-- nothing has to follow in front of the frame's rest, and no name may
abbrev pub takes_name : Place → Bool
takes_name place.Done = true
takes_name place.Uses = true
takes_name place.Params = true
takes_name place.Results = true
takes_name place.Label = true
takes_name place.EndLabel = true
takes_name place.Indices = true
takes_name place.MemOffset = true
takes_name place.MemAlign = true
takes_name _ = false

-- a parenthesis may open a field, an instruction or a part in the frame
abbrev pub takes_open : Frame → Bool
takes_open frame.Held = true
takes_open frame.Module = true
takes_open frame.Fields = true
takes_open f = takes_instrs f

-- what may follow the name of an instruction in which none is nested
abbrev pub behind_name : Kind → Option Place
behind_name kind.Simple = Some place.Done
behind_name kind.Indexed = Some place.Index
behind_name kind.BrTable = Some place.FirstIndex
behind_name kind.CallIndirect = Some place.Uses
behind_name kind.Access = Some place.MemOffset
behind_name kind.Const32 = Some place.Literal32
behind_name kind.Const64 = Some place.Literal64
behind_name _ = None

-- the frame of a block in a list of instructions, by its name
abbrev pub begun_frame : Kind → Option Frame
begun_frame kind.Region = Some frame.Region
begun_frame kind.If = Some frame.First
begun_frame _ = None

-- a block that `end` ends
abbrev pub ends_by_word : Frame → Bool
ends_by_word frame.Region = true
ends_by_word frame.First = true
ends_by_word _ = false

-- a place behind a parenthesis that may be that of an instruction
abbrev pub is_opened : Place → Bool
is_opened place.OpenDone = true
is_opened place.OpenUses = true
is_opened place.OpenParams = true
is_opened place.OpenResults = true
is_opened _ = false

-- the place behind a parenthesis that may be that of a part in front of the frame's rest
abbrev pub opened_part : Place → Option Place
opened_part place.Label = Some place.OpenUses
opened_part place.Uses = Some place.OpenUses
opened_part place.FuncId = Some place.OpenUses
opened_part place.Params = Some place.OpenParams
opened_part place.Results = Some place.OpenResults
opened_part place.ExportedId = Some place.OpenExports
opened_part place.Exports = Some place.OpenExports
opened_part _ = None

-- the frame of an instruction in front of its operands
abbrev pub is_held : Frame → Bool
is_held frame.Held = true
is_held _ = false

-- the place behind the number of an index
abbrev pub behind_index : Place → Kind → Option Place
behind_index place.Index kind.Natural32 = Some place.Done
behind_index place.Index kind.Id = Some place.Done
behind_index place.FirstIndex kind.Natural32 = Some place.Indices
behind_index place.FirstIndex kind.Id = Some place.Indices
behind_index place.Indices kind.Natural32 = Some place.Indices
behind_index place.Indices kind.Id = Some place.Indices
behind_index _ _ = None

-- a number of a constant, of 32 bits
abbrev pub is_literal : Place → Kind → Bool
is_literal place.Literal32 kind.Natural32 = true
is_literal place.Literal32 kind.Signed32 = true
is_literal place.Literal64 kind.Natural32 = true
is_literal place.Literal64 kind.Signed32 = true
is_literal _ _ = false

-- the offset of a load or a store
abbrev pub is_offset : Place → Kind → Bool
is_offset place.MemOffset kind.MemOffset = true
is_offset _ _ = false

-- the alignment of a load or a store
abbrev pub is_align : Place → Kind → Bool
is_align place.MemOffset kind.MemAlign = true
is_align place.MemAlign kind.MemAlign = true
is_align _ _ = false

-- what is kept of a token, where it only leads on in the same frame
abbrev pub if_on : Move → Option Role → Option (Option Role)
if_on (On p) kept = Some kept
if_on _ kept = None

-- the same, where it leads anywhere
abbrev pub kept_on : Option Action → Option (Option Role)
kept_on None = None
kept_on (Some a) = if_on a.go a.keep
