-- The nested instructions that a row of entries stands for.
use Rattle.std.specs.Prelude.{List, map}
use Rattle.wc_body.specs.declared.instr.Instr.{Instr}
use Rattle.wc_body.specs.declared.instr.BlockType.{BlockType}
use Rattle.wc_body.specs.declared.entry.Kind.{Kind}
use Rattle.wc_body.specs.declared.entry.Kind.TheVariants.{Block, Loop, If}
use Rattle.wc_body.specs.declared.entry.Entry.{Entry}
use Rattle.wc_body.specs.declared.entry.Entry.TheVariants.{Plain, Begin, Else, End}
use Rattle.wc_body.specs.Standard.Nested.{block, loop, Code, Mark, plain, begin, begin_if, otherwise, close}
use Rattle.wc_body.specs.Standard.Draft.{Draft, built}

-- where a block, a loop or an if of this type begins
abbrev pub begin_of : Kind → BlockType → Mark Instr BlockType
begin_of Block t = begin block t
begin_of Loop t = begin loop t
begin_of If t = begin_if t

-- the mark that an entry stands for
abbrev pub mark : Entry → Mark Instr BlockType
mark (Plain i) = plain i
mark (Begin kind t) = begin_of kind t
mark Else = otherwise
mark End = close

-- the marks that entries stand for
abbrev pub marks : List Entry → List (Mark Instr BlockType)
marks entries = map mark entries

-- the instructions that the entries are the marks of
abbrev pub nested : List Entry → Code Instr BlockType
nested entries = (built (marks entries)).last

-- the draft that the entries build
abbrev pub drafted : List Entry → Draft Instr BlockType
drafted entries = built (marks entries)
