-- What a kept token says by itself (Core 1.0, 6.3 and 6.6.1).
use Rattle.std.specs.Prelude.{ℕ, ◌%◌, ◌^◌, nat_lt, List, ◌++◌, ◌∷◌, [], length, Option, Some, None, if◌then◌else◌}
use Rattle.wc_symbols.specs.declared.symbol.Value.{Value}
use Rattle.wc_symbols.specs.declared.symbol.Value.TheVariants.{Number}
use Rattle.wc_surface.specs.declared.id.Index.{Index}
use Rattle.wc_surface.specs.declared.id.Index.TheVariants as index
use Rattle.wc_surface.specs.declared.instr.Operand.{Operand}
use Rattle.wc_surface.specs.declared.instr.Operand.TheVariants as operand
use Rattle.wc_surface.specs.Standard.Identifiers.{Identifier, identifier}
use Rattle.wc_parse_code.specs.declared.word.Word.{Word}

-- the place behind these, as 32 bits hold it: no text has 2^32 tokens
abbrev pub place_behind : {X : Type 0} → List X → ℕ
place_behind xs = length xs % 2 ^ 32

-- the token as an identifier (6.3.5)
abbrev pub identifier_of : Word → Identifier
identifier_of w = identifier w.token w.text

-- the natural number of 32 bits that is the value
abbrev pub number_in : Value → Option ℕ
number_in (Number n) = if nat_lt n (2 ^ 32) then Some n else None
number_in _ = None

-- an index: a number, or else an identifier (6.6.1)
abbrev pub index_by : Option ℕ → Word → Index
index_by (Some n) w = index.Number w.token n
index_by None w = index.Named (identifier_of w)

-- the token as an index (6.6.1)
abbrev pub index_of : Word → Index
index_of w = index_by (number_in w.symbol.value) w

-- an index as an operand: a number, or the place that its identifier gets behind these
abbrev pub operand_by : Option ℕ → List Identifier → Operand
operand_by (Some n) ids = operand.Number n
operand_by None ids = operand.Named (place_behind ids)

-- the token as such an operand
abbrev pub operand_of : Word → List Identifier → Operand
operand_of w ids = operand_by (number_in w.symbol.value) ids

-- these identifiers, and behind them that of an index which is no number
abbrev pub ids_by : Option ℕ → Word → List Identifier → List Identifier
ids_by (Some n) w ids = ids
ids_by None w ids = ids ++ identifier_of w ∷ []

-- the same of the token of an index
abbrev pub ids_with : Word → List Identifier → List Identifier
ids_with w ids = ids_by (number_in w.symbol.value) w ids
