-- What is known around the instructions of a field (Core 1.0, 6.1.3).
use Rattle.std.specs.Prelude.{List, map}
use Rattle.wc_surface.specs.declared.head.TextBody.{TextBody}
use Rattle.wc_surface.specs.declared.field.Field.{Field}
use Rattle.wc_resolve_code.specs.Standard.Contexts.{Declared, Context}
use Rattle.wc_declare.specs.declared.kind.SpaceKind.TheVariants as kind
use Rattle.wc_declare.specs.Standard.Spaces.{space, texts}
use Rattle.wc_resolve_func.specs.Standard.Locals.{type_index}

-- what these fields declare, these locals, and the types of the body's uses
abbrev pub context_of : List Field → Declared → TextBody → Context
context_of fs locals b = record {
  funcs = texts (space kind.Func fs);
  globals = texts (space kind.Global fs);
  locals = locals;
  uses = map (type_index fs) b.uses;
}
