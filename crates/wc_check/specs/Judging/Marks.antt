-- What one mark comes to, in a walk over those of a body (Core 1.0, 3.3).
use Rattle.std.specs.Prelude.{ℕ, ◌+◌, ◌-◌, true, false, None}
use Rattle.wc_body.specs.declared.instr.BlockType.{BlockType}
use Rattle.wc_body.specs.declared.instr.Instr.{Instr}
use Rattle.wc_body.specs.Standard.Nested.{Mark, plain, begin, begin_if, otherwise, close}
use Rattle.wc_check.specs.declared.context.Context.{Context}
use Rattle.wc_check.specs.declared.bodies.Judgement.{Judgement}
use Rattle.wc_check.specs.Standard.Rules.{first}
use Rattle.wc_check.specs.Standard.InstructionRules.{instr_rules, block_rules}

-- so many blocks enclose it, in a function of so many locals
abbrev pub judged_mark : Context → ℕ → ℕ → Mark Instr BlockType → Judgement
judged_mark c locals k (plain i) = record { why = first (instr_rules c locals k i); counts = true; enclosing = k }
judged_mark c locals k (begin r t) = record { why = first (block_rules c t); counts = true; enclosing = k + 1 }
judged_mark c locals k (begin_if t) = record { why = first (block_rules c t); counts = true; enclosing = k + 1 }
judged_mark c locals k otherwise = record { why = None; counts = false; enclosing = k }
judged_mark c locals k close = record { why = None; counts = false; enclosing = k - 1 }
