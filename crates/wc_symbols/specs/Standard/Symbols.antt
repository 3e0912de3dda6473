-- Kinds with and without a value.
use Rattle.std.specs.Prelude.{◌≡◌, ◌⊎◌}
use Rattle.wc_syntax.specs.declared.kind.Kind.{Kind}
use Rattle.wc_syntax.specs.declared.kind.Kind.TheVariants.{OtherWord}
use Rattle.wc_symbols.specs.declared.symbol.Symbol.{Symbol}
use Rattle.wc_symbols.specs.declared.symbol.Value.{Value}
use Rattle.wc_symbols.specs.declared.symbol.Value.TheVariants.{Nothing}

-- a kind with a value
abbrev pub valued : Kind → Value → Symbol
valued k v = record { kind = k; value = v }

-- a kind that says all
abbrev pub bare : Kind → Symbol
bare k = valued k Nothing

-- what something says in one way, or that it says nothing in that way
abbrev pub OrOther : (Symbol → Type 0) → Symbol → Type 0
OrOther Is s = Is s ⊎ (((o : Symbol) → ¬ (Is o)) × (s ≡ bare OtherWord))
