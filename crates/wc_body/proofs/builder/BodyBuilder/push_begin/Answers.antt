use Rattle.std.proofs.Common.{◌≡◌, ◌<◌, ◌++◌, ◌∷◌, [], length, refl, arith}
use Rattle.wc_body.specs.Standard.Nested.{nesting_limit}
use Rattle.wc_body.specs.Standard.Entries.{drafted}
use Rattle.wc_body.specs.Drafting.OpenParts.{part_of}
use Rattle.wc_body.specs.Reading.Unpacked.{unpacked}
use Rattle.wc_body.proofs.Drafts.BuilderLemmas.{begin-pushed}
use Rattle.wc_body.proofs.builder.BodyBuilder.push_begin.Goals as goal

pub invariant_of-self-2 : goal.invariant_of-self-2
invariant_of-self-2 c =
    let x = c.self.inside.bytes.items in
    let room : length (drafted (unpacked x)).around < nesting_limit = rw c.self.view_is (omega arith) in
    let parts : c.push_reserved.new.self.items ≡ c.self.inside.parts.items ++ part_of c.args.kind ∷ [] =
    rw (c.push_reserved.ensures.items, c.in_ok-reserve.ensures.items, c.first_part_of.ensures) refl in
    rw c.note_block.ensures
    (begin-pushed x c.self.inside.parts.items c.self.inside.after_else c.self.inside.needs c.self.invariant c.args.kind
    c.args.block_type c.put_begin.ensures.fits c.put_begin.new.bytes.items c.push_reserved.new.self.items
    c.in_ok-put_begin.ensures.ok room parts).started

pub returns-clause-ok : goal.returns-clause-ok
returns-clause-ok c =
    let x = c.self.inside.bytes.items in
    let room : length (drafted (unpacked x)).around < nesting_limit = rw c.self.view_is (omega arith) in
    rw (← c.self.view_is)
    (begin-pushed x c.self.inside.parts.items c.self.inside.after_else c.self.inside.needs c.self.invariant c.args.kind
    c.args.block_type c.put_begin.ensures.fits c.put_begin.new.bytes.items
    (c.self.inside.parts.items ++ part_of c.args.kind ∷ [])
    c.in_ok-put_begin.ensures.ok room refl).drafted
