-- The kept tokens of a printed text with all that they say.
use Rattle.std.specs.Prelude.{ℕ, suc, List, [], ◌∷◌, Option, Some, None}
use Rattle.wc_ast.specs.declared.module.Module.{Module}
use Rattle.wc_syntax.specs.declared.role.Role.{Role}
use Rattle.wc_print.specs.Standard.Printed.{Printed, opening, closing, word, number, integer, part, quoted}
use Rattle.wc_readback.specs.Grammar.Signs.{Sign}
use Rattle.wc_readback.specs.Grammar.FieldSigns.{signs}
use Rattle.wc_readback.specs.Grammar.Kept.{said_as}
use Rattle.wc_parse.specs.Kept.Texts.{Item}
use Rattle.wc_readback.specs.Instructions.Words.{word_of}

-- what a string stands for; nothing, where it is no string
abbrev pub bytes_in : Printed → List ℕ
bytes_in opening = []
bytes_in closing = []
bytes_in (word w) = []
bytes_in (number n) = []
bytes_in (integer z) = []
bytes_in (part w n) = []
bytes_in (quoted bytes) = bytes

-- a kept sign with all that it says
abbrev pub item_as : (ℕ → ℕ × ℕ) → Role → ℕ → Sign → Item
item_as addresses r n s = record { role = r; word = word_of addresses (said_as r n s); bytes = bytes_in s.token }

-- the same before these, if it is kept
abbrev pub item_before : (ℕ → ℕ × ℕ) → Option Role → ℕ → Sign → List Item → List Item
item_before addresses None n s later = later
item_before addresses (Some r) n s later = item_as addresses r n s ∷ later

-- the kept ones of signs that are numbered from n on
abbrev pub items_from : (ℕ → ℕ × ℕ) → ℕ → List Sign → List Item
items_from addresses n [] = []
items_from addresses n (s ∷ ss) = item_before addresses s.role n s (items_from addresses (suc n) ss)

-- those of a module's text
abbrev pub items : (ℕ → ℕ × ℕ) → Module → List Item
items addresses m = items_from addresses 0 (signs m)
