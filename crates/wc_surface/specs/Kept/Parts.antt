-- The parts that few functions have, in memory for what there is of them.
use Rattle.std.specs.Prelude.{List, [], Option, None, Some}
use Rattle.wc_surface.specs.declared.id.Index.{Index}
use Rattle.wc_surface.specs.Standard.Identifiers.{Identifier}
use Rattle.wc_surface.specs.declared.type_use.ParamName.{ParamName}
use Rattle.wc_surface.specs.declared.field.ImportNames.{ImportNames}
use Rattle.wc_surface.specs.declared.func_parts.FuncParts.{FuncParts}
use Rattle.wc_surface.specs.declared.func_parts.FuncMore.{FuncMore}
use Rattle.wc_surface.specs.declared.func_parts.FuncRest.{FuncRest}
use Rattle.wc_surface.specs.declared.func_parts.KeptParts.{KeptParts}
use Rattle.wc_surface.specs.declared.func_parts.KeptParts.TheVariants as kept

-- what the fewest have
abbrev pub more_with : Option Index → List ParamName → Option ImportNames → FuncMore
more_with index names import = record { index = index; names = names; import = import }

-- what the fewest have; where nothing is kept, none of it
abbrev pub more_in : Option FuncMore → FuncMore
more_in None = more_with None [] None
more_in (Some more) = more

-- what few have and what the fewest have, part by part
abbrev pub spread_with : FuncRest → FuncMore → FuncParts
spread_with rest more = record {
  id = rest.id;
  exports = rest.exports;
  locals = rest.locals;
  index = more.index;
  names = more.names;
  import = more.import;
}

-- the parts of a function that has several
abbrev pub spread : FuncRest → FuncParts
spread rest = spread_with rest (more_in rest.more)

-- the parts of a function that has no inline exports, no locals and no identifiers of parameters
abbrev pub alone : Option Identifier → Option Index → Option ImportNames → FuncParts
alone id index import = record { id = id; exports = []; locals = []; index = index; names = []; import = import }

-- the parts that are kept
abbrev pub parts_in : KeptParts → FuncParts
parts_in kept.Nothing = alone None None None
parts_in (kept.Id id) = alone (Some id) None None
parts_in (kept.Index index) = alone None (Some index) None
parts_in (kept.Import names) = alone None None (Some names)
parts_in (kept.Several rest) = spread rest
