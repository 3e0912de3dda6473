-- The nested instructions that a row of entries stands for.
use Rattle.std.specs.Prelude.{ℕ, List, map}
use Rattle.wc_body.specs.declared.entry.Kind.{Kind}
use Rattle.wc_body.specs.declared.entry.Kind.TheVariants.{Block, Loop, If}
use Rattle.wc_body.specs.Standard.Nested.{block, loop, Code, Mark, plain, begin, begin_if, otherwise, close}
use Rattle.wc_body.specs.Standard.Draft.{Draft, built}
use Rattle.wc_surface.specs.declared.instr.TextInstr.{TextInstr}
use Rattle.wc_surface.specs.declared.code.TextEntry.{TextEntry}
use Rattle.wc_surface.specs.declared.code.TextEntry.TheVariants.{Plain, Begin, Else, End}

-- where a block, a loop or an if with the head of this place begins
abbrev pub begin_of : Kind → ℕ → Mark TextInstr ℕ
begin_of Block head = begin block head
begin_of Loop head = begin loop head
begin_of If head = begin_if head

-- the mark that an entry stands for
abbrev pub mark : TextEntry → Mark TextInstr ℕ
mark (Plain i) = plain i
mark (Begin kind head) = begin_of kind head
mark Else = otherwise
mark End = close

-- the marks that entries stand for
abbrev pub marks : List TextEntry → List (Mark TextInstr ℕ)
marks entries = map mark entries

-- the instructions that the entries are the marks of
abbrev pub nested : List TextEntry → Code TextInstr ℕ
nested entries = (built (marks entries)).last

-- the draft that the entries build
abbrev pub drafted : List TextEntry → Draft TextInstr ℕ
drafted entries = built (marks entries)
