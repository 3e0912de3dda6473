-- Functions (Core 1.0, 6.6.5), of the type use, the declared locals and the instructions that a field has.
use Rattle.std.specs.Prelude.{List, map}
use Rattle.wc_ast.specs.declared.func.Func.{Func}
use Rattle.wc_spaces.specs.declared.noted.Fault.{Fault}
use Rattle.wc_surface.specs.declared.type_use.TypeUse.{TypeUse}
use Rattle.wc_surface.specs.declared.local.Local.{Local}
use Rattle.wc_surface.specs.declared.head.TextBody.{TextBody}
use Rattle.wc_surface.specs.declared.field.Field.{Field}
use Rattle.wc_resolve_code.specs.declared.why.NameWhy.{NameWhy}
use Rattle.wc_resolve_code.specs.Standard.Contexts.{Context}
use Rattle.wc_resolve_code.specs.Standard.Bodies.{resolved, body_faults}
use Rattle.wc_declare.specs.Standard.Spaces.{texts}
use Rattle.wc_resolve_func.specs.Standard.Locals.{type_index, local_space}
use Rattle.wc_resolve_func.specs.Standard.Contexts.{context_of}

-- what is known around its instructions
abbrev pub func_context : List Field → TypeUse → List Local → TextBody → Context
func_context fs u locals b = context_of fs (texts (local_space fs u locals)) b

-- the function
abbrev pub func_of : List Field → TypeUse → List Local → TextBody → Func
func_of fs u locals b = record {
  ty = type_index fs u;
  locals = map (λ l. l.ty) locals;
  body = resolved (func_context fs u locals b) b;
}

-- what is wrong with the names in its instructions; parameters, locals and type uses are judged before
abbrev pub func_faults : List Field → TypeUse → List Local → TextBody → List (Fault NameWhy)
func_faults fs u locals b = body_faults (func_context fs u locals b) b
