-- The places that there are: over which frame each may stand, and which frames are open in which.
use Rattle.std.proofs.Common.{◌≡◌, Bool, true, false, cond, refl}
use Rattle.wc_syntax.specs.declared.place.Place.{Place}
use Rattle.wc_syntax.specs.declared.place.Place.TheVariants as place
use Rattle.wc_syntax.specs.declared.place.Frame.{Frame}
use Rattle.wc_syntax.specs.declared.place.Frame.TheVariants as frame

abbrev has-exports : Frame → Bool
has-exports frame.FuncStart = true
has-exports frame.TableStart = true
has-exports frame.MemoryStart = true
has-exports frame.GlobalStart = true
has-exports _ = false

abbrev has-names : Frame → Bool
has-names frame.Import = true
has-names frame.FuncImport = true
has-names frame.TableImport = true
has-names frame.MemoryImport = true
has-names frame.GlobalImport = true
has-names _ = false

abbrev has-label : Frame → Bool
has-label frame.Region = true
has-label frame.First = true
has-label frame.FoldedRegion = true
has-label frame.Asked = true
has-label _ = false

-- an instruction's operands may be in front of it
abbrev has-operands : Frame → Bool
has-operands frame.Func = true
has-operands frame.ElemOffset = true
has-operands frame.DataOffset = true
has-operands frame.Region = true
has-operands frame.First = true
has-operands frame.FoldedRegion = true
has-operands frame.Held = true
has-operands frame.Then = true
has-operands frame.Else = true
has-operands _ = false

-- plain blocks may be in it
abbrev has-blocks : Frame → Bool
has-blocks frame.Held = false
has-blocks f = has-operands f

abbrev has-use : Frame → Bool
has-use frame.Field = true
has-use frame.Described = true
has-use frame.FuncHead = true
has-use frame.Asked = true
has-use f = has-operands f

abbrev is-field : Frame → Bool
is-field frame.Field = true
is-field _ = false

abbrev is-described : Frame → Bool
is-described frame.Described = true
is-described _ = false

-- limits, and the type of a global
abbrev has-type : Frame → Bool
has-type frame.Field = true
has-type frame.Described = true
has-type _ = false

abbrev has-mutable : Frame → Bool
has-mutable frame.Func = true
has-mutable f = has-type f

abbrev is-segment : Frame → Bool
is-segment frame.Elem = true
is-segment frame.Data = true
is-segment _ = false

abbrev has-locals : Frame → Bool
has-locals frame.FuncHead = true
has-locals _ = false

abbrev is-module : Frame → Bool
is-module frame.Module = true
is-module _ = false

-- a place stands over these frames only
abbrev pub valid : Place → Frame → Bool
valid place.Done f = true
valid place.OpenDone f = true
valid place.EndLabel f = has-blocks f
valid place.Label f = has-label f
valid place.Index f = has-operands f
valid place.FirstIndex f = has-operands f
valid place.Indices f = has-operands f
valid place.MemOffset f = has-operands f
valid place.MemAlign f = has-operands f
valid place.Literal32 f = has-operands f
valid place.Literal64 f = has-operands f
valid place.ModuleId f = is-module f
valid place.ExportedId f = has-exports f
valid place.Exports f = has-exports f
valid place.OpenExports f = has-exports f
valid place.InlineExportName f = has-exports f
valid place.InlineExportEnd f = has-exports f
valid place.TypeId f = is-described f
valid place.TypeFunc f = is-described f
valid place.OpenTypeFunc f = is-described f
valid place.ModuleName f = has-names f
valid place.ItemName f = has-names f
valid place.FuncId f = is-described f
valid place.TableId f = is-described f
valid place.MemoryId f = is-described f
valid place.GlobalId f = is-described f
valid place.TableMin f = has-type f
valid place.TableMax f = has-type f
valid place.Funcref f = has-type f
valid place.Min f = has-type f
valid place.Max f = has-type f
valid place.GlobalType f = has-type f
valid place.OpenGlobalType f = has-type f
valid place.MutableType f = has-mutable f
valid place.MutableEnd f = has-mutable f
valid place.TableElem f = is-field f
valid place.OpenTableElem f = is-field f
valid place.TableElements f = is-field f
valid place.MemoryStrings f = is-field f
valid place.ExportName f = is-field f
valid place.ExportDescription f = is-field f
valid place.OpenExportDescription f = is-field f
valid place.ExportIndex f = is-field f
valid place.ExportEnd f = is-field f
valid place.StartIndex f = is-field f
valid place.SegmentIndex f = is-segment f
valid place.Local f = has-locals f
valid place.NamedLocal f = has-locals f
valid place.LocalEnd f = has-locals f
valid place.LocalTypes f = has-locals f
valid _ f = has-use f

-- a plain block, behind whose end an identifier may follow
abbrev pub is-block : Frame → Bool
is-block frame.Region = true
is-block frame.First = true
is-block _ = false

-- the frame may be open in that one
abbrev pub fits-in : Frame → Frame → Bool
fits-in f g = cond (is-block f) (valid place.EndLabel g) true

-- where the end of a frame leads
abbrev pub leaves : Frame → Place → Bool
leaves f place.Done = true
leaves f place.EndLabel = is-block f
leaves f _ = false

by-block : (b x : Bool) → b ≡ true → cond b x true ≡ true → x ≡ true
by-block true x e h = h
by-block false x e h = absurd cc

pub leaves-valid : (f : Frame) (p : Place) (g : Frame) → leaves f p ≡ true → fits-in f g ≡ true → valid p g ≡ true
leaves-valid f place.Done g e h = refl
leaves-valid f place.EndLabel g e h = by-block (is-block f) (valid place.EndLabel g) e h
leaves-valid f p g e h = absurd cc
