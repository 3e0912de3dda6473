-- Globals (Core 1.0, 6.6.8): those that are no imports.
use Rattle.std.specs.Prelude.{List, [], ◌∷◌}
use Rattle.std.specs.List.{flat_map}
use Rattle.wc_ast.specs.declared.func.Global.{Global}
use Rattle.wc_ast.specs.declared.limits.GlobalType.{GlobalType}
use Rattle.wc_spaces.specs.declared.noted.Fault.{Fault}
use Rattle.wc_surface.specs.declared.field.Field.{Field}
use Rattle.wc_surface.specs.declared.field.Field.TheVariants as field
use Rattle.wc_surface.specs.declared.field.GlobalDesc.{GlobalDesc}
use Rattle.wc_surface.specs.declared.field.GlobalDesc.TheVariants as global
use Rattle.wc_resolve_code.specs.declared.why.NameWhy.{NameWhy}
use Rattle.wc_resolve_func.specs.Standard.Constants.{constant_of, constant_faults}

-- the global of a field with this type, unless it is an import
abbrev pub global_of : List Field → GlobalType → GlobalDesc → List Global
global_of all ty (global.Import names) = []
global_of all ty (global.Init body) = record { ty = ty; init = constant_of all body } ∷ []

-- what is wrong with the names in a first value
abbrev pub init_faults : List Field → GlobalDesc → List (Fault NameWhy)
init_faults all (global.Import names) = []
init_faults all (global.Init body) = constant_faults all body

-- the global that a field of `all` defines
abbrev pub field_globals : List Field → Field → List Global
field_globals all (field.Global f) = global_of all f.ty f.desc
field_globals all _ = []

-- the globals that the fields define
abbrev pub globals_of : List Field → List Global
globals_of all = flat_map (field_globals all) all

-- what is wrong with the names in the global of a field
abbrev pub global_faults : List Field → Field → List (Fault NameWhy)
global_faults all (field.Global f) = init_faults all f.desc
global_faults all _ = []

-- the same of all fields
abbrev pub all_global_faults : List Field → List (Fault NameWhy)
all_global_faults all = flat_map (global_faults all) all
