-- The text that is written of an input.
use Rattle.std.specs.Prelude.{◌≡◌, ℕ, List}
use Rattle.wc_ast.specs.declared.module.Module.{Module}
use Rattle.wc_print.specs.Standard.Layout.{layout}
use Rattle.wc_print.specs.Standard.Printed.{text}
use Rattle.wc_canon.specs.Standard.Input.{Means}

-- the input is accepted, and these are the bytes of the printed text of the module that it denotes
unfoldable pub HasText : List ℕ → List ℕ → Type 0
HasText x t = (m : Module) × Means x m × (t ≡ text (layout m))
