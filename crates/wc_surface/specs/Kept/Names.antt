-- How a name of a text keeps its bytes.
use Rattle.std.specs.Prelude.{ℕ, List}
use Rattle.std.specs.String.{string_bytes}
use Rattle.wc_surface.specs.declared.text_name.NameText.{NameText}
use Rattle.wc_surface.specs.declared.text_name.NameText.TheVariants.{Piece, Own}

-- the bytes, in the whole text or in memory of their own
abbrev pub name_bytes : NameText → List ℕ
name_bytes (Piece text) = text.now
name_bytes (Own text) = string_bytes text
