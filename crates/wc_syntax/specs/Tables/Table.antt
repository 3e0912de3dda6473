-- The table of the parser: what a token does where so much is left to read.
use Rattle.std.specs.Prelude.{Bool, true, false, cond, List, [], ◌∷◌, Option, Some, None}
use Rattle.wc_syntax.specs.declared.kind.Kind.{Kind}
use Rattle.wc_syntax.specs.declared.kind.Kind.TheVariants as kind
use Rattle.wc_syntax.specs.declared.role.Role.{Role}
use Rattle.wc_syntax.specs.declared.role.Role.TheVariants as role
use Rattle.wc_syntax.specs.declared.place.Place.{Place}
use Rattle.wc_syntax.specs.declared.place.Place.TheVariants as place
use Rattle.wc_syntax.specs.declared.place.Frame.{Frame}
use Rattle.wc_syntax.specs.declared.place.Frame.TheVariants as frame
use Rattle.wc_syntax.specs.declared.place.Move.{Move}
use Rattle.wc_syntax.specs.declared.place.Move.TheVariants.{On, Past, Turn, Into, Out}
use Rattle.wc_syntax.specs.declared.place.Action.{Action}
use Rattle.wc_syntax.specs.declared.why.SynWhy.{SynWhy}
use Rattle.wc_syntax.specs.declared.why.SynWhy.TheVariants as why
use Rattle.wc_syntax.specs.declared.table.Rest.{Rest}
use Rattle.wc_syntax.specs.declared.table.Rest.TheVariants as rest
use Rattle.wc_syntax.specs.Standard.Phrases.{Terminal, word, mark}
use Rattle.wc_syntax.specs.Tables.Kinds.{same}
use Rattle.wc_syntax.specs.Standard.Reasons.{wrong}

-- what a token of one kind does
pub data Row : Type 0 where
  row : Kind → Action → Row

-- a token of the kind leads there, and isn't kept
abbrev pub drops : Kind → Move → Row
drops k m = row k (record { keep = None; go = m })

-- a token of the kind leads there, and is kept in this role
abbrev pub keeps : Kind → Role → Move → Row
keeps k r m = row k (record { keep = Some r; go = m })

-- a number or an identifier
abbrev pub indices : Role → Move → List Row
indices r m = keeps kind.Natural32 r m ∷ keeps kind.Id r m ∷ []

-- what a type use takes, whatever the frame
abbrev pub use_rows : Place → List Row
use_rows place.UseIndex = indices role.TypeIndex (On place.UseEnd)
use_rows place.UseEnd = drops kind.Close (On place.Params) ∷ []
use_rows place.Param =
    keeps kind.Id role.ParamId (On place.NamedParam) ∷ keeps kind.ValType role.ParamType (On place.ParamTypes) ∷
    drops kind.Close (On place.Params) ∷ []
use_rows place.NamedParam = keeps kind.ValType role.ParamType (On place.ParamEnd) ∷ []
use_rows place.ParamEnd = drops kind.Close (On place.Params) ∷ []
use_rows place.ParamTypes =
    keeps kind.ValType role.ParamType (On place.ParamTypes) ∷ drops kind.Close (On place.Params) ∷ []
use_rows place.ResultTypes =
    keeps kind.ValType role.ResultType (On place.ResultTypes) ∷ drops kind.Close (On place.Results) ∷ []
use_rows _ = []

-- what the parts of a field take, whatever the frame
abbrev pub part_rows : Place → List Row
part_rows place.InlineExportName = keeps kind.Name role.ExportName (On place.InlineExportEnd) ∷ []
part_rows place.InlineExportEnd = drops kind.Close (On place.Exports) ∷ []
part_rows place.TypeId = keeps kind.Id role.FieldId (On place.TypeFunc) ∷ drops kind.Open (On place.OpenTypeFunc) ∷ []
part_rows place.TypeFunc = drops kind.Open (On place.OpenTypeFunc) ∷ []
part_rows place.OpenTypeFunc = drops kind.FuncWord (On place.Params) ∷ []
part_rows place.ModuleName = keeps kind.Name role.ModuleName (On place.ItemName) ∷ []
part_rows place.ItemName = keeps kind.Name role.ItemName (On place.Done) ∷ []
part_rows place.TableId =
    keeps kind.Id role.FieldId (On place.TableMin) ∷ keeps kind.Natural32 role.LimitsMin (On place.TableMax) ∷ []
part_rows place.MemoryId =
    keeps kind.Id role.FieldId (On place.Min) ∷ keeps kind.Natural32 role.LimitsMin (On place.Max) ∷ []
part_rows place.GlobalId =
    keeps kind.Id role.FieldId (On place.GlobalType) ∷ keeps kind.ValType role.GlobalType (On place.Done) ∷
    drops kind.Open (On place.OpenGlobalType) ∷ []
part_rows place.TableMin = keeps kind.Natural32 role.LimitsMin (On place.TableMax) ∷ []
part_rows place.TableMax =
    keeps kind.Natural32 role.LimitsMax (On place.Funcref) ∷ drops kind.FuncrefWord (On place.Done) ∷ []
part_rows place.Funcref = drops kind.FuncrefWord (On place.Done) ∷ []
part_rows place.Min = keeps kind.Natural32 role.LimitsMin (On place.Max) ∷ []
part_rows place.GlobalType =
    keeps kind.ValType role.GlobalType (On place.Done) ∷ drops kind.Open (On place.OpenGlobalType) ∷ []
part_rows place.OpenGlobalType = keeps kind.MutWord role.Mutable (On place.MutableType) ∷ []
part_rows place.MutableType = keeps kind.ValType role.GlobalType (On place.MutableEnd) ∷ []
part_rows place.MutableEnd = drops kind.Close (On place.Done) ∷ []
part_rows place.TableElem = drops kind.Open (On place.OpenTableElem) ∷ []
part_rows place.OpenTableElem = keeps kind.ElemWord role.Segment (On place.TableElements) ∷ []
part_rows place.TableElements =
    keeps kind.Natural32 role.Element (On place.TableElements) ∷ keeps kind.Id role.Element (On place.TableElements) ∷
    drops kind.Close (On place.Done) ∷ []
part_rows place.MemoryStrings =
    keeps kind.Name role.Bytes (On place.MemoryStrings) ∷ keeps kind.Text role.Bytes (On place.MemoryStrings) ∷
    drops kind.Close (On place.Done) ∷ []
part_rows place.ExportName = keeps kind.Name role.ExportName (On place.ExportDescription) ∷ []
part_rows place.ExportDescription = drops kind.Open (On place.OpenExportDescription) ∷ []
part_rows place.OpenExportDescription =
    keeps kind.FuncWord role.Description (On place.ExportIndex) ∷
    keeps kind.TableWord role.Description (On place.ExportIndex) ∷
    keeps kind.MemoryWord role.Description (On place.ExportIndex) ∷
    keeps kind.GlobalWord role.Description (On place.ExportIndex) ∷ []
part_rows place.ExportIndex = indices role.Target (On place.ExportEnd)
part_rows place.ExportEnd = drops kind.Close (On place.Done) ∷ []
part_rows place.StartIndex = indices role.Target (On place.Done)
part_rows place.Local =
    keeps kind.Id role.LocalId (On place.NamedLocal) ∷ keeps kind.ValType role.LocalType (On place.LocalTypes) ∷
    drops kind.Close (On place.Done) ∷ []
part_rows place.NamedLocal = keeps kind.ValType role.LocalType (On place.LocalEnd) ∷ []
part_rows place.LocalEnd = drops kind.Close (On place.Done) ∷ []
part_rows place.LocalTypes =
    keeps kind.ValType role.LocalType (On place.LocalTypes) ∷ drops kind.Close (On place.Done) ∷ []
part_rows p = use_rows p

-- what the place itself takes
abbrev pub place_rows : Place → List Row
place_rows place.Uses = drops kind.Open (On place.OpenUses) ∷ []
place_rows place.OpenUses =
    drops kind.TypeWord (On place.UseIndex) ∷ drops kind.ParamWord (On place.Param) ∷
    drops kind.ResultWord (On place.ResultTypes) ∷ []
place_rows place.Params = drops kind.Open (On place.OpenParams) ∷ []
place_rows place.OpenParams = drops kind.ParamWord (On place.Param) ∷ drops kind.ResultWord (On place.ResultTypes) ∷ []
place_rows place.Results = drops kind.Open (On place.OpenResults) ∷ []
place_rows place.OpenResults = drops kind.ResultWord (On place.ResultTypes) ∷ []
place_rows place.Label = keeps kind.Id role.Label (On place.Uses) ∷ drops kind.Open (On place.OpenUses) ∷ []
place_rows place.EndLabel = keeps kind.Id role.EndLabel (On place.Done) ∷ []
place_rows place.Index = indices role.Index (On place.Done)
place_rows place.FirstIndex = indices role.Index (On place.Indices)
place_rows place.Indices = indices role.Index (On place.Indices)
place_rows place.MemOffset =
    keeps kind.MemOffset role.MemOffset (On place.MemAlign) ∷ keeps kind.MemAlign role.MemAlign (On place.Done) ∷ []
place_rows place.MemAlign = keeps kind.MemAlign role.MemAlign (On place.Done) ∷ []
place_rows place.Literal32 =
    keeps kind.Natural32 role.Literal (On place.Done) ∷ keeps kind.Signed32 role.Literal (On place.Done) ∷ []
place_rows place.Literal64 =
    keeps kind.Natural32 role.Literal (On place.Done) ∷ keeps kind.Natural64 role.Literal (On place.Done) ∷
    keeps kind.Signed32 role.Literal (On place.Done) ∷ keeps kind.Signed64 role.Literal (On place.Done) ∷ []
place_rows place.ModuleId = drops kind.Id (On place.Done) ∷ []
place_rows place.ExportedId =
    keeps kind.Id role.FieldId (On place.Exports) ∷ drops kind.Open (On place.OpenExports) ∷ []
place_rows place.Exports = drops kind.Open (On place.OpenExports) ∷ []
place_rows place.OpenExports = drops kind.ExportWord (On place.InlineExportName) ∷ []
place_rows place.FuncId = keeps kind.Id role.FieldId (On place.Uses) ∷ drops kind.Open (On place.OpenUses) ∷ []
place_rows place.Max = keeps kind.Natural32 role.LimitsMax (On place.Done) ∷ []
place_rows place.SegmentIndex = indices role.Target (On place.Done)
place_rows p = part_rows p

-- what ends the frame, or leads on in it, where no part is left
abbrev pub frame_rows : Frame → List Row
frame_rows frame.Module = drops kind.Open (On place.OpenDone) ∷ drops kind.Close (Turn place.Done frame.Closed) ∷ []
frame_rows frame.Closed = []
frame_rows frame.Field = keeps kind.Close role.FieldEnd (Out place.Done) ∷ []
frame_rows frame.Described = drops kind.Close (Turn place.Done frame.Field) ∷ []
frame_rows frame.FuncStart = keeps kind.Close role.FieldEnd (Out place.Done) ∷ []
frame_rows frame.FuncImport = drops kind.Close (Turn place.Uses frame.Field) ∷ []
frame_rows frame.FuncHead = keeps kind.Close role.FieldEnd (Out place.Done) ∷ []
frame_rows frame.Func = keeps kind.Close role.FieldEnd (Out place.Done) ∷ []
frame_rows frame.TableStart =
    drops kind.Open (On place.OpenDone) ∷ keeps kind.Natural32 role.LimitsMin (Turn place.TableMax frame.Field) ∷
    drops kind.FuncrefWord (Turn place.TableElem frame.Field) ∷ []
frame_rows frame.TableImport = drops kind.Close (Turn place.TableMin frame.Field) ∷ []
frame_rows frame.MemoryStart =
    drops kind.Open (On place.OpenDone) ∷ keeps kind.Natural32 role.LimitsMin (Turn place.Max frame.Field) ∷ []
frame_rows frame.MemoryImport = drops kind.Close (Turn place.Min frame.Field) ∷ []
frame_rows frame.GlobalStart =
    drops kind.Open (On place.OpenDone) ∷ keeps kind.ValType role.GlobalType (Turn place.Done frame.Func) ∷ []
frame_rows frame.GlobalImport = drops kind.Close (Turn place.GlobalType frame.Field) ∷ []
frame_rows frame.ElemOffset = drops kind.Close (Turn place.Done frame.ElemTail) ∷ []
frame_rows frame.ElemTail =
    drops kind.FuncWord (Turn place.Done frame.Elements) ∷
    keeps kind.Natural32 role.Element (Turn place.Done frame.Elements) ∷
    keeps kind.Id role.Element (Turn place.Done frame.Elements) ∷ keeps kind.Close role.FieldEnd (Out place.Done) ∷ []
frame_rows frame.Elements =
    keeps kind.Natural32 role.Element (On place.Done) ∷ keeps kind.Id role.Element (On place.Done) ∷
    keeps kind.Close role.FieldEnd (Out place.Done) ∷ []
frame_rows frame.DataOffset = drops kind.Close (Turn place.Done frame.Strings) ∷ []
frame_rows frame.Strings =
    keeps kind.Name role.Bytes (On place.Done) ∷ keeps kind.Text role.Bytes (On place.Done) ∷
    keeps kind.Close role.FieldEnd (Out place.Done) ∷ []
frame_rows frame.Region = keeps kind.EndWord role.End (Out place.EndLabel) ∷ []
frame_rows frame.First =
    keeps kind.ElseWord role.Else (Turn place.EndLabel frame.Region) ∷
    keeps kind.EndWord role.End (Out place.EndLabel) ∷ []
frame_rows frame.FoldedRegion = keeps kind.Close role.End (Out place.Done) ∷ []
frame_rows frame.Held = drops kind.Open (On place.OpenDone) ∷ keeps kind.Close role.HeldEnd (Out place.Done) ∷ []
frame_rows frame.Then = drops kind.Close (Turn place.Done frame.Chosen) ∷ []
frame_rows frame.Chosen = drops kind.Open (On place.OpenDone) ∷ keeps kind.Close role.End (Out place.Done) ∷ []
frame_rows frame.Else = drops kind.Close (Turn place.Done frame.Settled) ∷ []
frame_rows frame.Settled = keeps kind.Close role.End (Out place.Done) ∷ []
-- a text, its fields, an import's description, an offset, and a condition
frame_rows _ = drops kind.Open (On place.OpenDone) ∷ []

-- the word of a field
abbrev pub field_rows : List Row
field_rows =
    keeps kind.TypeWord role.Field (Into place.TypeId frame.Described) ∷
    keeps kind.ImportWord role.Field (Into place.ModuleName frame.Import) ∷
    keeps kind.FuncWord role.Field (Into place.ExportedId frame.FuncStart) ∷
    keeps kind.TableWord role.Field (Into place.ExportedId frame.TableStart) ∷
    keeps kind.MemoryWord role.Field (Into place.ExportedId frame.MemoryStart) ∷
    keeps kind.GlobalWord role.Field (Into place.ExportedId frame.GlobalStart) ∷
    keeps kind.ExportWord role.Field (Into place.ExportName frame.Field) ∷
    keeps kind.StartWord role.Field (Into place.StartIndex frame.Field) ∷
    keeps kind.ElemWord role.Field (Into place.SegmentIndex frame.Elem) ∷
    keeps kind.DataWord role.Field (Into place.SegmentIndex frame.Data) ∷ []

-- the same behind a parenthesis, of no instruction
abbrev pub open_rows : Frame → List Row
open_rows frame.Start = drops kind.ModuleWord (Turn place.ModuleId frame.Module) ∷ field_rows
open_rows frame.Fields = field_rows
open_rows frame.Module = field_rows
open_rows frame.Import =
    keeps kind.FuncWord role.Description (Turn place.FuncId frame.Described) ∷
    keeps kind.TableWord role.Description (Turn place.TableId frame.Described) ∷
    keeps kind.MemoryWord role.Description (Turn place.MemoryId frame.Described) ∷
    keeps kind.GlobalWord role.Description (Turn place.GlobalId frame.Described) ∷ []
open_rows frame.FuncStart =
    keeps kind.ImportWord role.ImportWord (Turn place.ModuleName frame.FuncImport) ∷
    drops kind.TypeWord (Turn place.UseIndex frame.FuncHead) ∷ drops kind.ParamWord (Turn place.Param frame.FuncHead) ∷
    drops kind.ResultWord (Turn place.ResultTypes frame.FuncHead) ∷
    drops kind.LocalWord (Turn place.Local frame.FuncHead) ∷ []
open_rows frame.FuncHead = drops kind.LocalWord (On place.Local) ∷ []
open_rows frame.TableStart = keeps kind.ImportWord role.ImportWord (Turn place.ModuleName frame.TableImport) ∷ []
open_rows frame.MemoryStart =
    keeps kind.ImportWord role.ImportWord (Turn place.ModuleName frame.MemoryImport) ∷
    keeps kind.DataWord role.Segment (Turn place.MemoryStrings frame.Field) ∷ []
open_rows frame.GlobalStart =
    keeps kind.ImportWord role.ImportWord (Turn place.ModuleName frame.GlobalImport) ∷
    keeps kind.MutWord role.Mutable (Turn place.MutableType frame.Func) ∷ []
open_rows frame.Elem = drops kind.OffsetWord (Turn place.Done frame.ElemOffset) ∷ []
open_rows frame.Data = drops kind.OffsetWord (Turn place.Done frame.DataOffset) ∷ []
open_rows frame.Asked = keeps kind.ThenWord role.Then (Turn place.Done frame.Then) ∷ []
open_rows frame.Chosen = keeps kind.ElseWord role.Else (Turn place.Done frame.Else) ∷ []
open_rows _ = []

-- what an instruction begins with
abbrev pub plain_rows : List Row
plain_rows =
    keeps kind.Simple role.Plain (Past place.Done) ∷ keeps kind.Indexed role.Plain (Past place.Index) ∷
    keeps kind.BrTable role.Plain (Past place.FirstIndex) ∷ keeps kind.CallIndirect role.Plain (Past place.Uses) ∷
    keeps kind.Access role.Plain (Past place.MemOffset) ∷ keeps kind.Const32 role.Plain (Past place.Literal32) ∷
    keeps kind.Const64 role.Plain (Past place.Literal64) ∷ drops kind.Open (On place.OpenDone) ∷ []

-- the same, and where more may be nested `block`, `loop` and `if` too (Core 1.0, 6.5.2)
abbrev pub instr_rows : Bool → List Row
instr_rows true = plain_rows
instr_rows false =
    keeps kind.Region role.Begin (Into place.Label frame.Region) ∷
    keeps kind.If role.Begin (Into place.Label frame.First) ∷ plain_rows

-- the word of a folded instruction
abbrev pub folded_rows : Bool → List Row
folded_rows true = []
folded_rows false =
    keeps kind.Simple role.HeldPlain (Into place.Done frame.Held) ∷
    keeps kind.Indexed role.HeldPlain (Into place.Index frame.Held) ∷
    keeps kind.BrTable role.HeldPlain (Into place.FirstIndex frame.Held) ∷
    keeps kind.CallIndirect role.HeldPlain (Into place.Uses frame.Held) ∷
    keeps kind.Access role.HeldPlain (Into place.MemOffset frame.Held) ∷
    keeps kind.Const32 role.HeldPlain (Into place.Literal32 frame.Held) ∷
    keeps kind.Const64 role.HeldPlain (Into place.Literal64 frame.Held) ∷
    keeps kind.Region role.Begin (Into place.Label frame.FoldedRegion) ∷
    keeps kind.If role.HeldBegin (Into place.Label frame.Asked) ∷ []

-- what is asked after the place's own rows
abbrev pub rest_of : Place → Rest
rest_of place.Done = rest.InFrame
rest_of place.Uses = rest.InFrame
rest_of place.Params = rest.InFrame
rest_of place.Results = rest.InFrame
rest_of place.Label = rest.InFrame
rest_of place.EndLabel = rest.InFrame
rest_of place.Indices = rest.InFrame
rest_of place.MemOffset = rest.InFrame
rest_of place.MemAlign = rest.InFrame
rest_of place.ModuleId = rest.InFrame
rest_of place.ExportedId = rest.InFrame
rest_of place.Exports = rest.InFrame
rest_of place.FuncId = rest.InFrame
rest_of place.Max = rest.InFrame
rest_of place.SegmentIndex = rest.InFrame
rest_of place.OpenDone = rest.Opened
rest_of place.OpenUses = rest.Opened
rest_of place.OpenParams = rest.Opened
rest_of place.OpenResults = rest.Opened
rest_of place.OpenExports = rest.Opened
rest_of _ = rest.Nothing

-- instructions may stand in the frame
abbrev pub takes_instrs : Frame → Bool
takes_instrs frame.FuncStart = true
takes_instrs frame.FuncHead = true
takes_instrs frame.Func = true
takes_instrs frame.ElemOffset = true
takes_instrs frame.DataOffset = true
takes_instrs frame.Region = true
takes_instrs frame.First = true
takes_instrs frame.FoldedRegion = true
takes_instrs frame.Then = true
takes_instrs frame.Else = true
takes_instrs _ = false

-- folded instructions may stand in it
abbrev pub takes_folded : Frame → Bool
takes_folded frame.Elem = true
takes_folded frame.Data = true
takes_folded frame.Held = true
takes_folded frame.Asked = true
takes_folded f = takes_instrs f

-- what the first row of the kind does, where there is one
abbrev pub find : List Row → Kind → Option Action
find [] k = None
find (row c a ∷ rows) k = cond (same (word c) (word k)) (Some a) (find rows k)

-- one action, or where there is none a later one
abbrev pub or_else : Option Action → Option Action → Option Action
or_else (Some a) b = Some a
or_else None b = b

-- what the rows of an instruction do with the kind; nothing where none may stand in the frame
abbrev pub if_takes : Bool → List Row → Kind → Option Action
if_takes true rows k = find rows k
if_takes false rows k = None

-- where the rest leads: nowhere; by the rows of the frame and of an instruction; or by those behind a parenthesis
abbrev pub step_rest : Rest → Frame → Bool → Kind → Option Action
step_rest rest.Nothing f deep k = None
step_rest rest.InFrame f deep k = or_else (find (frame_rows f) k) (if_takes (takes_instrs f) (instr_rows deep) k)
step_rest rest.Opened f deep k = or_else (find (open_rows f) k) (if_takes (takes_folded f) (folded_rows deep) k)

-- where a token of the kind leads; `deep` says that no more may be nested
abbrev pub step : Place → Frame → Bool → Kind → Option Action
step p f deep k = or_else (find (place_rows p) k) (step_rest (rest_of p) f deep k)

-- the name of an instruction is looked for
abbrev pub names_rest : Rest → Frame → Bool
names_rest rest.Nothing f = false
names_rest rest.InFrame f = takes_instrs f
names_rest rest.Opened f = takes_folded f

-- the same of a place: where it holds, the mark may stand
abbrev pub names_instr : Place → Frame → Bool
names_instr p f = names_rest (rest_of p) f

-- the mark leads past an instruction
abbrev pub mark_step : Bool → Option Action
mark_step true = Some (record { keep = None; go = Past place.Done })
mark_step false = None

-- where what stands at the place leads
abbrev pub leads_to : Place → Frame → Bool → Terminal → Option Action
leads_to p f deep (word k) = step p f deep k
leads_to p f deep mark = mark_step (names_instr p f)

-- a reason whose terminal leads on from there, so may stand; else the later one
abbrev pub where_stands : Option Action → SynWhy → SynWhy → SynWhy
where_stands (Some a) r q = r
where_stands None r q = q

-- the first reason of which the terminal may stand
abbrev pub first_reason : Place → Frame → Bool → List (SynWhy × Terminal) → SynWhy
first_reason p f deep [] = why.Unexpected
first_reason p f deep (x ∷ xs) = where_stands (leads_to p f deep x.1) x.0 (first_reason p f deep xs)

-- why a token of the kind is refused there
abbrev pub reason_of : Place → Frame → Bool → Kind → SynWhy
reason_of p f deep k = first_reason p f deep (wrong k)

-- the frame's rest may come now, and not behind one more parenthesis
abbrev pub is_in_frame : Rest → Bool
is_in_frame rest.InFrame = true
is_in_frame _ = false

-- no token has to follow
abbrev pub is_end : Place → Frame → Bool
is_end p frame.Start = is_in_frame (rest_of p)
is_end p frame.Fields = is_in_frame (rest_of p)
is_end p frame.Closed = is_in_frame (rest_of p)
is_end p _ = false

-- what is left of a frame where an instruction stands in it, or where one more opens in it
abbrev pub resume : Frame → Frame
resume frame.Start = frame.Fields
resume frame.Elem = frame.ElemTail
resume frame.Data = frame.Strings
resume frame.FuncStart = frame.Func
resume frame.FuncHead = frame.Func
resume f = f
