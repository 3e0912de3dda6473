-- All terminals, by their numbers.
use Rattle.std.specs.Prelude.{List, [], ◌∷◌}
use Rattle.wc_syntax.specs.declared.kind.Kind.TheVariants as kind
use Rattle.wc_syntax.specs.Standard.Phrases.{Terminal, word, mark}

-- all that may stand at a place, by their numbers
abbrev pub all_terminals : List Terminal
all_terminals =
    word kind.Open ∷ word kind.Close ∷ word kind.Id ∷ word kind.Natural32 ∷ word kind.Natural64 ∷
    word kind.Natural ∷ word kind.Signed32 ∷ word kind.Signed64 ∷ word kind.Signed ∷ word kind.Name ∷
    word kind.Text ∷ word kind.MemOffset ∷ word kind.MemOffsetRange ∷ word kind.MemOffsetForm ∷ word kind.MemAlign ∷
    word kind.MemAlignPower ∷ word kind.MemAlignRange ∷ word kind.MemAlignForm ∷ word kind.Simple ∷
    word kind.Indexed ∷ word kind.BrTable ∷ word kind.CallIndirect ∷ word kind.Access ∷ word kind.Const32 ∷
    word kind.Const64 ∷ word kind.Region ∷ word kind.If ∷ word kind.ThenWord ∷ word kind.ElseWord ∷
    word kind.EndWord ∷ word kind.ModuleWord ∷ word kind.TypeWord ∷ word kind.ImportWord ∷ word kind.FuncWord ∷
    word kind.TableWord ∷ word kind.MemoryWord ∷ word kind.GlobalWord ∷ word kind.ExportWord ∷ word kind.StartWord ∷
    word kind.ElemWord ∷ word kind.DataWord ∷ word kind.OffsetWord ∷ word kind.LocalWord ∷ word kind.ParamWord ∷
    word kind.ResultWord ∷ word kind.MutWord ∷ word kind.FuncrefWord ∷ word kind.ValType ∷ word kind.FloatType ∷
    word kind.FloatName ∷ word kind.OtherWord ∷ mark ∷ []
