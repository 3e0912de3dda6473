-- Instructions of one integer (Core 1.0, 5.4): which bytes begin with one.
use Rattle.std.specs.Prelude.{ℕ, ◌≡◌, List, Some}
use Rattle.wc_body.specs.declared.walks.numbered.Numbered.{Numbered}
use Rattle.wc_body.specs.declared.instr.Instr.{Instr}
use Rattle.wc_body.specs.declared.entry.Entry.TheVariants.{Plain}
use Rattle.wc_body.specs.Standard.Walks.Numbered.{numbered}
use Rattle.wc_body.specs.Reading.Fronts.{entry_front}

-- the bytes begin with the instruction that is said, and these follow it
pub record BeginsNumbered (it : Numbered) (x rest : List ℕ) : Type 0 where
  pub instr : Instr
  pub said : numbered it ≡ Some instr
  pub front : entry_front x ≡ Some (Plain instr, rest)
