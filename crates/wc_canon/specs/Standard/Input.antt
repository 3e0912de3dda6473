-- Which module an input denotes, the answer to an input that is accepted, and the fault of one that isn't.
use Rattle.std.specs.Prelude.{◌≡◌, ◌⊎◌, ℕ, zero, suc, List, [], ◌∷◌, Bool, true, false, Some}
use Rattle.wc_ast.specs.declared.module.Module.{Module}
use Rattle.wc_check.specs.declared.fault.Item.{Item}
use Rattle.wc_check.specs.declared.fault.CheckWhy.{CheckWhy}
use Rattle.wc_check.specs.Standard.Rules.{first}
use Rattle.wc_check.specs.Standard.Broken.{broken}
use Rattle.wc_binary.specs.declared.fault.BinWhy.{BinWhy}
use Rattle.wc_binary.specs.Standard.Module.{Bin, Canon, FirstFault}
use Rattle.wc_read_text.specs.declared.fault.TextFault.{TextFault}
use Rattle.wc_read_text.specs.declared.fault.TextFault.TheVariants as text
use Rattle.wc_read_text.specs.Standard.Texts.{Txt}
use Rattle.wc_read_text.specs.Standard.Faults.{FirstFault as FirstTextFault}
use Rattle.wc_canon.specs.declared.fault.Refusal.{Refusal}
use Rattle.wc_canon.specs.declared.fault.Refusal.TheVariants.{Binary, Lex, Syntax, Names, Check, Oversize, Memory}

-- an input is a binary where its first byte is 00, and else a text, also where it has no byte
abbrev pub is_binary : List ℕ → Bool
is_binary [] = false
is_binary (zero ∷ bytes) = true
is_binary (suc n ∷ bytes) = false

-- a binary that spells the module (Core 1.0, 5.5.15), or a text of it (chapter 6)
abbrev pub DenotesBy : Bool → List ℕ → Module → Type 0
DenotesBy true x m = Bin x m
DenotesBy false x m = Txt x m

-- the input denotes the module
unfoldable pub Denotes : List ℕ → Module → Type 0
Denotes x m = DenotesBy (is_binary x) x m

-- the module breaks no rule
unfoldable pub KeepsRules : Module → Type 0
KeepsRules m = broken m ≡ []

-- the first item of the module that breaks a rule, and the first rule that it breaks
unfoldable pub BreaksFirst : Module → Item → CheckWhy → Type 0
BreaksFirst m item why = first (broken m) ≡ Some (item, why)

-- the input denotes the module, which breaks no rule, and some bytes spell it canonically
unfoldable pub Means : List ℕ → Module → Type 0
Means x m = Denotes x m × KeepsRules m × ((b : List ℕ) × Canon b m)

-- the input is accepted
abbrev pub IsAccepted : List ℕ → Type 0
IsAccepted x = (m : Module) × Means x m

-- the input is accepted, and b are the canonical bytes of the module that it denotes
unfoldable pub HasAnswer : List ℕ → List ℕ → Type 0
HasAnswer x b = (m : Module) × Means x m × Canon b m

-- the input is a binary, and this is the first fault of its bytes
abbrev pub IsBinaryFault : List ℕ → ℕ → BinWhy → Type 0
IsBinaryFault x at why = (is_binary x ≡ true) × FirstFault x at why

-- the input is a text, and this is its first fault: of its tokens, else of its grammar, else of its names
abbrev pub IsTextFault : List ℕ → TextFault → Type 0
IsTextFault x f = (is_binary x ≡ false) × FirstTextFault x f

-- what an input that isn't accepted is refused for: the first fault of its bytes or its text; or, where it denotes a
-- module, the first rule that this breaks; or, where it breaks none, its size
abbrev pub IsRefusedFor : List ℕ → Refusal → Type 0
IsRefusedFor x (Binary at why) = IsBinaryFault x at why
IsRefusedFor x (Lex at why) = IsTextFault x (text.Lex at why)
IsRefusedFor x (Syntax token at why) = IsTextFault x (text.Syntax token at why)
IsRefusedFor x (Names token at why) = IsTextFault x (text.Names token at why)
IsRefusedFor x (Check item why) = (m : Module) × Denotes x m × BreaksFirst m item why
IsRefusedFor x Oversize = (m : Module) × Denotes x m × KeepsRules m
IsRefusedFor x Memory = ⊥

-- the input isn't accepted, and f is its first fault
unfoldable pub HasFault : List ℕ → Refusal → Type 0
HasFault x f = ¬ (IsAccepted x) × IsRefusedFor x f

-- the input was judged, and memory was refused, or f is its fault
abbrev pub IsRefused : List ℕ → Refusal → Type 0
IsRefused x f = (f ≡ Memory) ⊎ HasFault x f
