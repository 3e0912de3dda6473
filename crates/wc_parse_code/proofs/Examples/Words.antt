-- Kept tokens, each by its number in the text.
use Rattle.std.proofs.Common.{ℕ, List, codes}
use Rattle.wc_ops.specs.declared.op.Op.{Op}
use Rattle.wc_ops.specs.declared.val_type.ValType.TheVariants.{I32, I64}
use Rattle.wc_syntax.specs.declared.kind.Kind.{Kind}
use Rattle.wc_syntax.specs.declared.kind.Kind.TheVariants as kind
use Rattle.wc_symbols.specs.declared.symbol.Value.TheVariants.{Number, Instruction, ValType}
use Rattle.wc_symbols.specs.Standard.Symbols.{valued, bare}
use Rattle.wc_parse_code.specs.Standard.Tokens.{KeptToken, kept_token}

-- a word or a parenthesis that says no more than its kind
abbrev pub keyword : Kind → List ℕ → ℕ → KeptToken
keyword k text token = kept_token token (bare k) text

-- ")"
abbrev pub close : ℕ → KeptToken
close token = keyword kind.Close (codes ")") token

-- the name of an instruction
abbrev pub name : Kind → Op → List ℕ → ℕ → KeptToken
name k o text token = kept_token token (valued k (Instruction o)) text

-- an identifier
abbrev pub id_at : List ℕ → ℕ → KeptToken
id_at text token = keyword kind.Id text token

-- a natural number below 2^32, and how it is written
abbrev pub natural : ℕ → List ℕ → ℕ → KeptToken
natural n text token = kept_token token (valued kind.Natural32 (Number n)) text

-- "i32"
abbrev pub i32_at : ℕ → KeptToken
i32_at token = kept_token token (valued kind.ValType (ValType I32)) (codes "i32")

-- "i64"
abbrev pub i64_at : ℕ → KeptToken
i64_at token = kept_token token (valued kind.ValType (ValType I64)) (codes "i64")
