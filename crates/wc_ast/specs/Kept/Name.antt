-- How a name keeps its bytes.
use Rattle.std.specs.Prelude.{ℕ, List}
use Rattle.std.specs.String.{string_bytes}
use Rattle.wc_ast.specs.declared.name.Text.{Text}
use Rattle.wc_ast.specs.declared.name.Text.TheVariants.{Short, Long}

-- how many bytes of a name lie in place at most
abbrev pub short_name : ℕ
short_name = 32

-- the bytes, in place or in memory of their own
abbrev pub kept_bytes : Text → List ℕ
kept_bytes (Short text) = text.bytes
kept_bytes (Long text) = string_bytes text
