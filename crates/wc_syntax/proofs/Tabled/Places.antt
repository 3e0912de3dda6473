-- What is left to read at each place of the table.
use Rattle.std.proofs.Common.{ℕ, Bool, true, false, cond, List, [], ◌∷◌, ◌++◌, Option, map}
use Rattle.wc_syntax.specs.declared.kind.Kind.TheVariants as kind
use Rattle.wc_syntax.specs.declared.role.Role.{Role}
use Rattle.wc_syntax.specs.declared.role.Role.TheVariants as role
use Rattle.wc_syntax.specs.declared.place.Place.{Place}
use Rattle.wc_syntax.specs.declared.place.Place.TheVariants as place
use Rattle.wc_syntax.specs.declared.place.Frame.{Frame}
use Rattle.wc_syntax.specs.declared.place.Frame.TheVariants as frame
use Rattle.wc_syntax.specs.Standard.Phrases.{Terminal, word, Phrase, Keep, ◌·◌, Many, The, token, Maybe, text}
use Rattle.wc_syntax.specs.Standard.Phrases.{modulefield, offset, foldedinstr, export, local, typeuse, param, result}
use Rattle.wc_syntax.specs.Standard.Types.{lp, rp, index, limits, tabletype, globaltype}
use Rattle.wc_syntax.specs.Standard.Instructions.{literal32, literal64, head, end_id, instrs}
use Rattle.wc_syntax.specs.Standard.Fields.{field_id, import_names, importdesc, exportkind, strings, elements}
use Rattle.wc_syntax.specs.Standard.Fields.{field_end, function, table, memory, global}
use Rattle.wc_syntax.specs.Tables.Kinds.{same}
use Rattle.wc_syntax.proofs.Stacks.Edges.{Edge, edge, Edges, deep, edges, either, on, edges-of}

-- ---- edges of several stacks, one of which is read

abbrev pub edges-all : ℕ → List (List Phrase) → Edges
edges-all d [] = edges [] false
edges-all d (s ∷ ss) = either (edges-of d s) (edges-all d ss)

-- what is kept, and the stack that is left
pub data Alt : Type 0 where
  alt : Option Role → List Phrase → Alt

abbrev pub pick : Terminal → List Edge → List Alt
pick t [] = []
pick t (edge c o s ∷ es) = cond (same c t) (alt o s ∷ pick t es) (pick t es)

abbrev pub the-edges : Edges → List Edge
the-edges deep = []
the-edges (edges es p) = es

abbrev pub stack-of : Alt → List Phrase
stack-of (alt o s) = s

-- ---- the frames

-- what is left of a frame, where so many more may be open in it
abbrev pub left : ℕ → Frame → List Phrase
left d frame.Start = The (text d) ∷ []
left d frame.Fields = Many (The (modulefield d)) ∷ []
left d frame.Module = Many (The (modulefield d)) ∷ rp ∷ []
left d frame.Closed = []
left d frame.Field = field_end ∷ []
left d frame.Described = rp ∷ field_end ∷ []
left d frame.Import = on (lp · importdesc · rp · field_end) []
left d frame.FuncStart = on (function d · field_end) []
left d frame.FuncImport = on (rp · The typeuse · field_end) []
left d frame.FuncHead = on (Many (The local) · instrs d · field_end) []
left d frame.Func = on (instrs d · field_end) []
left d frame.TableStart = on (table · field_end) []
left d frame.TableImport = on (rp · tabletype · field_end) []
left d frame.MemoryStart = on (memory · field_end) []
left d frame.MemoryImport = on (rp · limits · field_end) []
left d frame.GlobalStart = on (global d · field_end) []
left d frame.GlobalImport = on (rp · globaltype · field_end) []
left d frame.Elem = on (The (offset d) · Maybe (token kind.FuncWord) · elements · field_end) []
left d frame.ElemOffset = on (instrs d · rp · Maybe (token kind.FuncWord) · elements · field_end) []
left d frame.ElemTail = on (Maybe (token kind.FuncWord) · elements · field_end) []
left d frame.Elements = on (elements · field_end) []
left d frame.Data = on (The (offset d) · strings · field_end) []
left d frame.DataOffset = on (instrs d · rp · strings · field_end) []
left d frame.Strings = on (strings · field_end) []
left d frame.Region = on (instrs d · Keep role.End kind.EndWord · end_id) []
left d frame.First = on (instrs d · Maybe (Keep role.Else kind.ElseWord · end_id · instrs d) · Keep role.End
    kind.EndWord · end_id) []
left d frame.FoldedRegion = on (instrs d · Keep role.End kind.Close) []
left d frame.Held = on (Many (The (foldedinstr d)) · Keep role.HeldEnd kind.Close) []
left d frame.Asked = on (Many (The (foldedinstr d)) · lp · Keep role.Then kind.ThenWord · instrs d · rp · Maybe
    (lp · Keep role.Else kind.ElseWord · instrs d · rp) · Keep role.End kind.Close) []
left d frame.Then = on (instrs d · rp · Maybe (lp · Keep role.Else kind.ElseWord · instrs d · rp) · Keep role.End
    kind.Close) []
left d frame.Chosen = on (Maybe (lp · Keep role.Else kind.ElseWord · instrs d · rp) · Keep role.End kind.Close) []
left d frame.Else = on (instrs d · rp · Keep role.End kind.Close) []
left d frame.Settled = Keep role.End kind.Close ∷ []

-- ---- the places

abbrev params : List Phrase
params = Many (The param) ∷ Many (The result) ∷ []

abbrev typed : Role → Phrase
typed r = Keep r kind.ValType

-- what may stand in front of it: one of these
abbrev pub front : Place → List (List Phrase)
front place.Done = [] ∷ []
front place.OpenDone = [] ∷ []
front place.Uses = (The typeuse ∷ []) ∷ []
front place.OpenUses = (The typeuse ∷ []) ∷ []
front place.UseIndex = (index role.TypeIndex ∷ rp ∷ params) ∷ []
front place.UseEnd = (rp ∷ params) ∷ []
front place.Params = params ∷ []
front place.OpenParams = params ∷ []
front place.Param = (Keep role.ParamId kind.Id ∷ typed role.ParamType ∷ rp ∷ params)
    ∷ (Many (typed role.ParamType) ∷ rp ∷ params) ∷ []
front place.NamedParam = (typed role.ParamType ∷ rp ∷ params) ∷ []
front place.ParamEnd = (rp ∷ params) ∷ []
front place.ParamTypes = (Many (typed role.ParamType) ∷ rp ∷ params) ∷ []
front place.Results = (Many (The result) ∷ []) ∷ []
front place.OpenResults = (Many (The result) ∷ []) ∷ []
front place.ResultTypes = (Many (typed role.ResultType) ∷ rp ∷ Many (The result) ∷ []) ∷ []
front place.Label = on head [] ∷ []
front place.EndLabel = (end_id ∷ []) ∷ []
front place.Index = (index role.Index ∷ []) ∷ []
front place.FirstIndex = (index role.Index ∷ Many (index role.Index) ∷ []) ∷ []
front place.Indices = (Many (index role.Index) ∷ []) ∷ []
front place.MemOffset = (Maybe (Keep role.MemOffset kind.MemOffset) ∷ Maybe (Keep role.MemAlign kind.MemAlign) ∷ [])
    ∷ []
front place.MemAlign = (Maybe (Keep role.MemAlign kind.MemAlign) ∷ []) ∷ []
front place.Literal32 = (literal32 ∷ []) ∷ []
front place.Literal64 = (literal64 ∷ []) ∷ []
front place.ModuleId = (Maybe (token kind.Id) ∷ []) ∷ []
front place.ExportedId = (field_id ∷ Many (The export) ∷ []) ∷ []
front place.Exports = (Many (The export) ∷ []) ∷ []
front place.OpenExports = (Many (The export) ∷ []) ∷ []
front place.InlineExportName = (Keep role.ExportName kind.Name ∷ rp ∷ Many (The export) ∷ []) ∷ []
front place.InlineExportEnd = (rp ∷ Many (The export) ∷ []) ∷ []
front place.TypeId = (field_id ∷ lp ∷ token kind.FuncWord ∷ params) ∷ []
front place.TypeFunc = (lp ∷ token kind.FuncWord ∷ params) ∷ []
front place.OpenTypeFunc = (token kind.FuncWord ∷ params) ∷ []
front place.ModuleName = on import_names [] ∷ []
front place.ItemName = (Keep role.ItemName kind.Name ∷ []) ∷ []
front place.FuncId = (field_id ∷ The typeuse ∷ []) ∷ []
front place.TableId = on (field_id · tabletype) [] ∷ []
front place.MemoryId = on (field_id · limits) [] ∷ []
front place.GlobalId = on (field_id · globaltype) [] ∷ []
front place.TableMin = on tabletype [] ∷ []
front place.TableMax = (Maybe (Keep role.LimitsMax kind.Natural32) ∷ token kind.FuncrefWord ∷ []) ∷ []
front place.Funcref = (token kind.FuncrefWord ∷ []) ∷ []
front place.Min = on limits [] ∷ []
front place.Max = (Maybe (Keep role.LimitsMax kind.Natural32) ∷ []) ∷ []
front place.GlobalType = (globaltype ∷ []) ∷ []
front place.OpenGlobalType = (Keep role.Mutable kind.MutWord ∷ typed role.GlobalType ∷ rp ∷ []) ∷ []
front place.MutableType = (typed role.GlobalType ∷ rp ∷ []) ∷ []
front place.MutableEnd = (rp ∷ []) ∷ []
front place.TableElem = on (lp · Keep role.Segment kind.ElemWord · elements · rp) [] ∷ []
front place.OpenTableElem = on (Keep role.Segment kind.ElemWord · elements · rp) [] ∷ []
front place.TableElements = on (elements · rp) [] ∷ []
front place.MemoryStrings = on (strings · rp) [] ∷ []
front place.ExportName = on (Keep role.ExportName kind.Name · lp · exportkind · index role.Target · rp) [] ∷ []
front place.ExportDescription = on (lp · exportkind · index role.Target · rp) [] ∷ []
front place.OpenExportDescription = on (exportkind · index role.Target · rp) [] ∷ []
front place.ExportIndex = on (index role.Target · rp) [] ∷ []
front place.ExportEnd = (rp ∷ []) ∷ []
front place.StartIndex = (index role.Target ∷ []) ∷ []
front place.SegmentIndex = (Maybe (index role.Target) ∷ []) ∷ []
front place.Local = (Keep role.LocalId kind.Id ∷ typed role.LocalType ∷ rp ∷ [])
    ∷ (Many (typed role.LocalType) ∷ rp ∷ []) ∷ []
front place.NamedLocal = (typed role.LocalType ∷ rp ∷ []) ∷ []
front place.LocalEnd = (rp ∷ []) ∷ []
front place.LocalTypes = (Many (typed role.LocalType) ∷ rp ∷ []) ∷ []

-- on top of this stack
abbrev pub over : List Phrase → List (List Phrase) → List (List Phrase)
over k [] = []
over k (s ∷ ss) = (s ++ k) ∷ over k ss

abbrev pub is-open : Place → Bool
is-open place.OpenDone = true
is-open place.OpenUses = true
is-open place.OpenParams = true
is-open place.OpenResults = true
is-open place.OpenExports = true
is-open _ = false

abbrev pub fuel : ℕ
fuel = 40

-- behind a parenthesis
abbrev pub behind : List (List Phrase) → List (List Phrase)
behind ss = map stack-of (pick (word kind.Open) (the-edges (edges-all fuel ss)))

-- one of these stacks is left to read in the innermost frame
abbrev pub means : ℕ → Place → Frame → List (List Phrase)
means d p f = cond (is-open p) (behind (over (left d f) (front p))) (over (left d f) (front p))
