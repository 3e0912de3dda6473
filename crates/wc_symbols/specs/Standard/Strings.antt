-- What strings stand for, where it is kept (Core 1.0, 6.3.3).
use Rattle.std.specs.Prelude.{ℕ, List}
use Rattle.std.specs.String.{string_bytes}
use Rattle.wc_symbols.specs.declared.string_values.StringValue.{StringValue}
use Rattle.wc_symbols.specs.declared.string_values.StringValue.TheVariants as value

-- the bytes: those of a piece of the text, of a text of its own, or bytes that are no text
abbrev pub bytes_in : StringValue → List ℕ
bytes_in (value.Plain text) = text.now
bytes_in (value.Own text) = string_bytes text
bytes_in (value.Bytes bytes) = bytes.items
