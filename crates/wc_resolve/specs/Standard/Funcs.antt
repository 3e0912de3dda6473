-- Functions (Core 1.0, 6.6.5): those that are no imports.
use Rattle.std.specs.Prelude.{List, [], ◌∷◌}
use Rattle.std.specs.List.{flat_map}
use Rattle.wc_ast.specs.declared.func.Func.{Func}
use Rattle.wc_spaces.specs.declared.noted.Fault.{Fault}
use Rattle.wc_surface.specs.declared.type_use.TypeUse.{TypeUse}
use Rattle.wc_surface.specs.declared.field.Field.{Field}
use Rattle.wc_surface.specs.declared.field.Field.TheVariants as field
use Rattle.wc_surface.specs.declared.field.FuncDesc.{FuncDesc}
use Rattle.wc_surface.specs.declared.field.FuncDesc.TheVariants as func
use Rattle.wc_resolve_code.specs.declared.why.NameWhy.{NameWhy}
use Rattle.wc_resolve_func.specs.Standard.Funcs.{func_of, func_faults}

-- the function of a field with this type use, unless it is an import
abbrev pub code_of : List Field → TypeUse → FuncDesc → List Func
code_of all u (func.Import names) = []
code_of all u (func.Code locals body) = func_of all u locals body ∷ []

-- what is wrong with the names in the instructions
abbrev pub code_faults : List Field → TypeUse → FuncDesc → List (Fault NameWhy)
code_faults all u (func.Import names) = []
code_faults all u (func.Code locals body) = func_faults all u locals body

-- the function that a field of `all` defines
abbrev pub field_funcs : List Field → Field → List Func
field_funcs all (field.Func f) = code_of all f.ty f.desc
field_funcs all _ = []

-- the functions that the fields define
abbrev pub funcs_of : List Field → List Func
funcs_of all = flat_map (field_funcs all) all

-- what is wrong with the names in the function of a field
abbrev pub field_func_faults : List Field → Field → List (Fault NameWhy)
field_func_faults all (field.Func f) = code_faults all f.ty f.desc
field_func_faults all _ = []

-- the same of all fields
abbrev pub all_func_faults : List Field → List (Fault NameWhy)
all_func_faults all = flat_map (field_func_faults all) all
