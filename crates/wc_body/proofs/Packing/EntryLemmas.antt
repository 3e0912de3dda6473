-- A row of entries is known by its marks.
use Rattle.std.proofs.Common.{◌≡◌, List, [], ◌∷◌, refl, sym, ap, ◌∙◌}
use Rattle.wc_body.specs.declared.entry.Kind.TheVariants.{Block, Loop, If}
use Rattle.wc_body.specs.declared.entry.Entry.{Entry}
use Rattle.wc_body.specs.declared.entry.Entry.TheVariants.{Plain, Begin, Else, End}
use Rattle.wc_body.specs.declared.instr.BlockType.{BlockType}
use Rattle.wc_body.specs.declared.instr.Instr.{Instr}
use Rattle.wc_body.specs.Standard.Nested.{Mark, block, loop, plain, begin, begin_if, otherwise, close}
use Rattle.wc_body.specs.Standard.Entries.{mark, marks}

-- the entry of a mark
abbrev entry_of : Mark Instr BlockType → Entry
entry_of (plain i) = Plain i
entry_of (begin block t) = Begin Block t
entry_of (begin loop t) = Begin Loop t
entry_of (begin_if t) = Begin If t
entry_of otherwise = Else
entry_of close = End

entry_of-mark : (e : Entry) → entry_of (mark e) ≡ e
entry_of-mark (Plain i) = refl
entry_of-mark (Begin Block t) = refl
entry_of-mark (Begin Loop t) = refl
entry_of-mark (Begin If t) = refl
entry_of-mark Else = refl
entry_of-mark End = refl

mark-injective : (d e : Entry) → mark d ≡ mark e → d ≡ e
mark-injective d e h = sym (entry_of-mark d) ∙ ap entry_of h ∙ entry_of-mark e

pub marks-injective : (x y : List Entry) → marks x ≡ marks y → x ≡ y
marks-injective [] [] h = refl
marks-injective [] (e ∷ y) h = absurd cc
marks-injective (d ∷ x) [] h = absurd cc
marks-injective (d ∷ x) (e ∷ y) h =
    let first : mark d ≡ mark e = cc in
    let rest : marks x ≡ marks y = cc in
    let p = mark-injective d e first in
    let q = marks-injective x y rest in
    cc
