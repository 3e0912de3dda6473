use Rattle.std.proofs.Common.{◌≡◌, ◌<◌, ◌++◌, ◌∷◌, [], length, refl, arith}
use Rattle.wc_body.specs.Standard.Nested.{nesting_limit}
use Rattle.wc_surface.specs.Standard.Marks.{drafted}
use Rattle.wc_surface.specs.Kept.Building.{part_of}
use Rattle.wc_surface.proofs.DraftLemmas.{begin-pushed}
use Rattle.wc_surface.proofs.code_builder.CodeBuilder.begin.Goals as goal

pub invariant_of-self-2 : goal.invariant_of-self-2
invariant_of-self-2 c =
    let x = c.self.inside.row.items in
    let room : length (drafted x).around < nesting_limit = rw c.self.view_is (omega arith) in
    let parts : c.push_reserved.new.self.items ≡ c.self.inside.parts.items ++ part_of c.args.kind ∷ [] =
    rw (c.push_reserved.ensures.items, c.in_ok-reserve.ensures.items, c.first_part_of.ensures) refl in
    (begin-pushed x c.self.inside.parts.items c.self.inside.after_else c.self.invariant c.args.kind
    c.args.head c.put.new.row.items c.push_reserved.new.self.items
    c.in_ok-put.ensures.ok room parts).started

pub returns-clause-ok : goal.returns-clause-ok
returns-clause-ok c =
    let x = c.self.inside.row.items in
    let room : length (drafted x).around < nesting_limit = rw c.self.view_is (omega arith) in
    rw (← c.self.view_is)
    (begin-pushed x c.self.inside.parts.items c.self.inside.after_else c.self.invariant c.args.kind
    c.args.head c.put.new.row.items (c.self.inside.parts.items ++ part_of c.args.kind ∷ [])
    c.in_ok-put.ensures.ok room refl).drafted
