-- Kinds of tokens, told apart by a number.
use Rattle.std.specs.Prelude.{ℕ, Bool, nat_eq}
use Rattle.wc_syntax.specs.declared.kind.Kind.{Kind}
use Rattle.wc_syntax.specs.declared.kind.Kind.TheVariants as kind
use Rattle.wc_syntax.specs.Standard.Phrases.{Terminal, word, mark}

-- a number for each kind, no two alike
abbrev pub code : Kind → ℕ
code kind.Open = 0
code kind.Close = 1
code kind.Id = 2
code kind.Natural32 = 3
code kind.Natural64 = 4
code kind.Natural = 5
code kind.Signed32 = 6
code kind.Signed64 = 7
code kind.Signed = 8
code kind.Name = 9
code kind.Text = 10
code kind.MemOffset = 11
code kind.MemOffsetRange = 12
code kind.MemOffsetForm = 13
code kind.MemAlign = 14
code kind.MemAlignPower = 15
code kind.MemAlignRange = 16
code kind.MemAlignForm = 17
code kind.Simple = 18
code kind.Indexed = 19
code kind.BrTable = 20
code kind.CallIndirect = 21
code kind.Access = 22
code kind.Const32 = 23
code kind.Const64 = 24
code kind.Region = 25
code kind.If = 26
code kind.ThenWord = 27
code kind.ElseWord = 28
code kind.EndWord = 29
code kind.ModuleWord = 30
code kind.TypeWord = 31
code kind.ImportWord = 32
code kind.FuncWord = 33
code kind.TableWord = 34
code kind.MemoryWord = 35
code kind.GlobalWord = 36
code kind.ExportWord = 37
code kind.StartWord = 38
code kind.ElemWord = 39
code kind.DataWord = 40
code kind.OffsetWord = 41
code kind.LocalWord = 42
code kind.ParamWord = 43
code kind.ResultWord = 44
code kind.MutWord = 45
code kind.FuncrefWord = 46
code kind.ValType = 47
code kind.FloatType = 48
code kind.FloatName = 49
code kind.OtherWord = 50

-- the same of each terminal: the mark comes behind all kinds
abbrev pub code_of : Terminal → ℕ
code_of (word k) = code k
code_of mark = 51

-- two terminals are the same: they have one number
abbrev pub same : Terminal → Terminal → Bool
same t u = nat_eq (code_of t) (code_of u)
