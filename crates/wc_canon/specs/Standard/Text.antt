-- The texts of refusals, and of faults of a run.
use Rattle.std.specs.Prelude.{ℕ, List, ◌++◌, codes}
use Rattle.std.specs.Fmt.{decimal}
use Rattle.std.specs.List.{flat_map}
use Rattle.wc_binary.specs.declared.fault.BinWhy.{BinWhy}
use Rattle.wc_binary.specs.declared.fault.BinWhy.TheVariants as bin
use Rattle.wc_tokens.specs.declared.fault.LexWhy.{LexWhy}
use Rattle.wc_tokens.specs.declared.fault.LexWhy.TheVariants as lex
use Rattle.wc_syntax.specs.declared.why.SynWhy.{SynWhy}
use Rattle.wc_syntax.specs.declared.why.SynWhy.TheVariants as syn
use Rattle.wc_resolve_code.specs.declared.why.NameWhy.{NameWhy}
use Rattle.wc_resolve_code.specs.declared.why.NameWhy.TheVariants as names
use Rattle.wc_check.specs.declared.fault.Item.{Item}
use Rattle.wc_check.specs.declared.fault.Item.TheVariants.{Import, Func, Instr, Table, Memory, Global}
use Rattle.wc_check.specs.declared.fault.Item.TheVariants.{Export, Start, Elem, Data}
use Rattle.wc_check.specs.declared.fault.CheckWhy.{CheckWhy}
use Rattle.wc_check.specs.declared.fault.CheckWhy.TheVariants as rule
use Rattle.wc_canon.specs.declared.fault.Refusal.{Refusal}
use Rattle.wc_canon.specs.declared.fault.Refusal.TheVariants as refusal
use Rattle.wc_canon.specs.declared.rendering.Piece.{Piece}
use Rattle.wc_canon.specs.declared.rendering.Piece.TheVariants.{Words, Number}
use Rattle.wc_canon.specs.declared.fault.RunFault.{RunFault}
use Rattle.wc_canon.specs.declared.fault.RunFault.TheVariants as run_fault

-- why bytes are no binary
abbrev pub reason_text : BinWhy → List ℕ
reason_text bin.End = codes "unexpected end"
reason_text bin.Magic = codes "bad magic"
reason_text bin.Version = codes "unsupported version"
reason_text bin.SectionId = codes "unknown section id"
reason_text bin.SectionOrder = codes "section out of order"
reason_text bin.SectionSize = codes "section size differs from its content"
reason_text bin.Integer = codes "integer out of range"
reason_text bin.NotUtf8 = codes "name is not UTF-8"
reason_text bin.WrongType = codes "unknown type"
reason_text bin.Float = codes "float is not supported"
reason_text bin.Tag = codes "unknown tag"
reason_text bin.Opcode = codes "unknown opcode"
reason_text bin.ZeroByte = codes "zero byte expected"
reason_text bin.Depth = codes "nesting too deep"
reason_text bin.Locals = codes "too many locals"
reason_text bin.BodySize = codes "body size differs from its content"
reason_text bin.Counts = codes "function and code counts differ"

-- why characters are no tokens
abbrev pub character_text : LexWhy → List ℕ
character_text lex.NotUtf8 = codes "text is not UTF-8"
character_text lex.Character = codes "unexpected character"
character_text lex.CommentOpen = codes "comment is not closed"
character_text lex.StringOpen = codes "string is not closed"
character_text lex.Escape = codes "bad escape or character in string"
character_text lex.TooLong = codes "text too long"

-- why tokens are no text of the grammar
abbrev pub grammar_text : SynWhy → List ℕ
grammar_text syn.Unexpected = codes "unexpected token"
grammar_text syn.End = codes "unexpected end"
grammar_text syn.Range = codes "integer out of range"
grammar_text syn.Align = codes "alignment is not a power of two"
grammar_text syn.Float = codes "float is not supported"
grammar_text syn.NoInstruction = codes "unknown instruction"
grammar_text syn.Depth = codes "nesting too deep"
grammar_text syn.NameNotUtf8 = codes "name is not UTF-8"

-- why the names of a text denote nothing
abbrev pub name_text : NameWhy → List ℕ
name_text names.UnknownId = codes "unknown identifier"
name_text names.DuplicateId = codes "duplicate identifier"
name_text names.LateImport = codes "import after a definition"
name_text names.TypeDiffers = codes "type differs from its use"
name_text names.SecondStart = codes "second start"
name_text names.LabelDiffers = codes "label differs"
name_text names.NoSuchType = codes "no such type"
name_text names.NamedParam = codes "parameter name in call_indirect"
name_text names.TooManyLocals = codes "too many locals"
name_text names.BlockParam = codes "parameter name in a block type"

-- which rule is broken
abbrev pub rule_text : CheckWhy → List ℕ
rule_text rule.TypeIndex = codes "type index out of range"
rule_text rule.Limits = codes "limits out of range"
rule_text rule.Several = codes "second table or memory"
rule_text rule.Constant = codes "not a constant of the right type"
rule_text rule.Index = codes "index out of range"
rule_text rule.Immutable = codes "global is not mutable"
rule_text rule.Label = codes "label out of range"
rule_text rule.Align = codes "alignment above natural"
rule_text rule.ExportName = codes "duplicate export name"
rule_text rule.StartType = codes "start function has parameters or results"

-- an item by a word and its number, and a text behind it
abbrev pub numbered : List ℕ → ℕ → List ℕ → List ℕ
numbered word n text = word ++ (decimal n ++ (codes ": " ++ text))

-- an instruction by its function and its number, and a text behind them
abbrev pub at_instruction : ℕ → ℕ → List ℕ → List ℕ
at_instruction func number text = codes "func " ++ (decimal func ++ numbered (codes " instruction ") number text)

-- an item that breaks a rule, and the text of the rule
abbrev pub broken_text : Item → List ℕ → List ℕ
broken_text (Import n) text = numbered (codes "import ") n text
broken_text (Func n) text = numbered (codes "func ") n text
broken_text (Instr func number) text = at_instruction func number text
broken_text (Table n) text = numbered (codes "table ") n text
broken_text (Memory n) text = numbered (codes "memory ") n text
broken_text (Global n) text = numbered (codes "global ") n text
broken_text (Export n) text = numbered (codes "export ") n text
broken_text Start text = codes "start: " ++ text
broken_text (Elem n) text = numbered (codes "elem ") n text
broken_text (Data n) text = numbered (codes "data ") n text

-- a byte by its number, and a text behind it
abbrev pub at_byte : ℕ → List ℕ → List ℕ
at_byte at text = numbered (codes "byte ") at text

-- a token by its number and its byte, and a text behind it
abbrev pub at_token : ℕ → ℕ → List ℕ → List ℕ
at_token token at text = codes "token " ++ (decimal token ++ numbered (codes " at byte ") at text)

-- the place of a fault, in decimal digits, and its reason; or an item and the rule that it breaks
abbrev pub refusal_text : Refusal → List ℕ
refusal_text (refusal.Binary at why) = at_byte at (reason_text why)
refusal_text (refusal.Lex at why) = at_byte at (character_text why)
refusal_text (refusal.Syntax token at why) = at_token token at (grammar_text why)
refusal_text (refusal.Names token at why) = at_token token at (name_text why)
refusal_text (refusal.Check item why) = broken_text item (rule_text why)
refusal_text refusal.Oversize = codes "module too large"
refusal_text refusal.Memory = codes "out of memory"

-- a piece of a text: words as they are, and a number in decimal digits
abbrev pub piece_text : Piece → List ℕ
piece_text (Words words) = words.now
piece_text (Number n) = decimal n

-- pieces behind one another
abbrev pub pieces_text : List Piece → List ℕ
pieces_text pieces = flat_map piece_text pieces

-- why a run gave no answer, in short
abbrev pub fault_text : RunFault → List ℕ
fault_text (run_fault.Refused f) = codes "input refused"
fault_text (run_fault.Read at) = codes "read failed"
fault_text (run_fault.Write written) = codes "write failed"
fault_text run_fault.Memory = codes "out of memory"
