-- Where the most usual tokens of fields and of type uses lead.
use Rattle.std.specs.Prelude.{Bool, true, false, Option, Some, None}
use Rattle.wc_syntax.specs.declared.kind.Kind.{Kind}
use Rattle.wc_syntax.specs.declared.kind.Kind.TheVariants as kind
use Rattle.wc_syntax.specs.declared.role.Role.{Role}
use Rattle.wc_syntax.specs.declared.role.Role.TheVariants as role
use Rattle.wc_syntax.specs.declared.place.Place.{Place}
use Rattle.wc_syntax.specs.declared.place.Place.TheVariants as place
use Rattle.wc_syntax.specs.declared.place.Frame.{Frame}
use Rattle.wc_syntax.specs.declared.place.Frame.TheVariants as frame

-- a parenthesis may end a field in the frame
abbrev pub ends_field : Frame → Bool
ends_field frame.Field = true
ends_field frame.FuncStart = true
ends_field frame.FuncHead = true
ends_field frame.Func = true
ends_field frame.ElemTail = true
ends_field frame.Elements = true
ends_field frame.Strings = true
ends_field _ = false

-- the place behind the parenthesis that ends a part
abbrev pub behind_part : Place → Option Place
behind_part place.UseEnd = Some place.Params
behind_part place.Param = Some place.Params
behind_part place.ParamEnd = Some place.Params
behind_part place.ParamTypes = Some place.Params
behind_part place.ResultTypes = Some place.Results
behind_part place.InlineExportEnd = Some place.Exports
behind_part place.MutableEnd = Some place.Done
behind_part place.TableElements = Some place.Done
behind_part place.MemoryStrings = Some place.Done
behind_part place.ExportEnd = Some place.Done
behind_part place.Local = Some place.Done
behind_part place.LocalEnd = Some place.Done
behind_part place.LocalTypes = Some place.Done
behind_part _ = None

-- the place behind the word of a part of a type use
abbrev pub begun_part : Place → Kind → Option Place
begun_part place.OpenUses kind.TypeWord = Some place.UseIndex
begun_part place.OpenUses kind.ParamWord = Some place.Param
begun_part place.OpenUses kind.ResultWord = Some place.ResultTypes
begun_part place.OpenParams kind.ParamWord = Some place.Param
begun_part place.OpenParams kind.ResultWord = Some place.ResultTypes
begun_part place.OpenResults kind.ResultWord = Some place.ResultTypes
begun_part _ _ = None

-- behind the parenthesis of a function's first part
abbrev pub opens_func : Place → Frame → Bool
opens_func place.OpenExports frame.FuncStart = true
opens_func _ _ = false

-- the place behind the word of that part
abbrev pub first_part : Kind → Option Place
first_part kind.TypeWord = Some place.UseIndex
first_part kind.ParamWord = Some place.Param
first_part kind.ResultWord = Some place.ResultTypes
first_part kind.LocalWord = Some place.Local
first_part _ = None

-- behind the parenthesis of a field
abbrev pub opens_field : Place → Frame → Bool
opens_field place.OpenDone frame.Start = true
opens_field place.OpenDone frame.Fields = true
opens_field place.OpenDone frame.Module = true
opens_field _ _ = false

-- what the type of a value is kept as at the place
abbrev pub type_role : Place → Option Role
type_role place.Param = Some role.ParamType
type_role place.NamedParam = Some role.ParamType
type_role place.ParamTypes = Some role.ParamType
type_role place.ResultTypes = Some role.ResultType
type_role place.Local = Some role.LocalType
type_role place.NamedLocal = Some role.LocalType
type_role place.LocalTypes = Some role.LocalType
type_role _ = None

-- the place behind it
abbrev pub behind_type : Place → Place
behind_type place.Param = place.ParamTypes
behind_type place.NamedParam = place.ParamEnd
behind_type place.Local = place.LocalTypes
behind_type place.NamedLocal = place.LocalEnd
behind_type p = p

-- the number or the identifier of the type of a type use
abbrev pub is_type_index : Place → Kind → Bool
is_type_index place.UseIndex kind.Natural32 = true
is_type_index place.UseIndex kind.Id = true
is_type_index _ _ = false

-- a field may begin, behind others
abbrev pub is_between : Place → Frame → Bool
is_between place.Done frame.Fields = true
is_between place.Done frame.Module = true
is_between _ _ = false
