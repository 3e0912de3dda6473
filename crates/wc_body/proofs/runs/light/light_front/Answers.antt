use Rattle.std.proofs.Common.{◌≡◌, ◌<◌, ◌≤◌, get_or, arith}
use Rattle.std.proofs.lemmas.List.{take_rest}
use Rattle.wc_body.specs.Drafting.LightRows.{light_at, with_noted}
use Rattle.wc_body.proofs.Drafts.Runs.LightLemmas.{IsKind, light-kind, light-noted, pair-needs, bare-needs}
use Rattle.wc_body.proofs.Drafts.Runs.LightLemmas.{access-needs, outer-length}
use Rattle.wc_body.proofs.Drafts.Runs.LongLemmas.{light-outer, light-third, outer-noted}
use Rattle.wc_body.proofs.runs.light.light_front.Goals as goal

pub returns-then-light-eq2-clause-some : goal.returns-then-light-eq2-clause-some
returns-then-light-eq2-clause-some c =
    let light = c.light_of-light.result.now in
    let kind : IsKind c.light_of-light.result.now =
    rw c.light_of-light.ensures (light-kind (get_or c.args.bytes.now 0 0)) in
    let two : light.length ≡ 2 = c.if-light-eq2.true in
    let within = rw c.from.ensures at c.if-enclosing-from.false in
    let needs = pair-needs light _ _ _ c.args.needs.now kind c.if-second-light.false two c.note_pair.ensures in
    let noted = light-noted c.args.bytes.now c.args.enclosing _ _ light c.if-bytes-lt3.false c.light_of-light.ensures
    c.if-second-light.false (λ three. absurd (omega (arith, three, two))) (λ same. within)
    (λ none. omega (arith, none, two)) needs in
    rw (take_rest c.args.bytes.now 2) (rw two at noted)

pub returns-then-light-eq1-clause-some : goal.returns-then-light-eq1-clause-some
returns-then-light-eq1-clause-some c =
    let light = c.light_of-light.result.now in
    let kind : IsKind c.light_of-light.result.now =
    rw c.light_of-light.ensures (light-kind (get_or c.args.bytes.now 0 0)) in
    let one : light.length ≡ 1 = c.if-light-eq1.true in
    let needs = bare-needs light (get_or c.args.bytes.now 1 0) (with_noted c.args.noted.now c.args.needs.now) kind
    c.if-second-light.false one in
    let noted = light-noted c.args.bytes.now c.args.enclosing _ _ light c.if-bytes-lt3.false c.light_of-light.ensures
    c.if-second-light.false (λ three. absurd (omega (arith, three, one)))
    (λ two. absurd (c.if-light-eq2.false two)) (λ none. omega (arith, none, one)) needs in
    rw (take_rest c.args.bytes.now 1) (rw one at noted)

pub far_access-requires-clause-far : goal.far_access-requires-clause-far
far_access-requires-clause-far c =
    let light = c.light_of-light.result.now in
    let kind : IsKind c.light_of-light.result.now =
    rw c.light_of-light.ensures (light-kind (get_or c.args.bytes.now 0 0)) in
    let h = access-needs light (get_or c.args.bytes.now 1 0) (with_noted c.args.noted.now c.args.needs.now) kind
    c.if-second-light.false c.if-light.true in
    let third = light-third (get_or c.args.bytes.now 0 0) (rw c.light_of-light.ensures at h.0) in
    let past : c.light_of-light.result.now.third ≤ get_or c.args.bytes.now 2 0 = c.if-bytes-light.true in
    (c.if-bytes-lt3.false, omega (arith, rw c.light_of-light.ensures at past, third))

pub far_access-requires-clause-access : goal.far_access-requires-clause-access
far_access-requires-clause-access c =
    let light = c.light_of-light.result.now in
    let kind : IsKind c.light_of-light.result.now =
    rw c.light_of-light.ensures (light-kind (get_or c.args.bytes.now 0 0)) in
    let h = access-needs light (get_or c.args.bytes.now 1 0) (with_noted c.args.noted.now c.args.needs.now) kind
    c.if-second-light.false c.if-light.true in
    rw c.light_of-light.ensures at h.0

pub returns-then-light-clause-some : goal.returns-then-light-clause-some
returns-then-light-clause-some c =
    let light = c.light_of-light.result.now in
    let kind : IsKind c.light_of-light.result.now =
    rw c.light_of-light.ensures (light-kind (get_or c.args.bytes.now 0 0)) in
    let h = access-needs light (get_or c.args.bytes.now 1 0) (with_noted c.args.noted.now c.args.needs.now) kind
    c.if-second-light.false c.if-light.true in
    let noted = light-noted c.args.bytes.now c.args.enclosing _ _ light c.if-bytes-lt3.false c.light_of-light.ensures
    c.if-second-light.false (λ same. c.if-bytes-light.false) (λ two. absurd (c.if-light-eq2.false two))
    (λ none. omega (arith, none, h.0)) h.1 in
    rw (take_rest c.args.bytes.now 3) (rw h.0 at noted)

pub returns-clause-some : goal.returns-clause-some
returns-clause-some c =
    let light = c.light_of-light.result.now in
    let kind : IsKind c.light_of-light.result.now =
    rw c.light_of-light.ensures (light-kind (get_or c.args.bytes.now 0 0)) in
    let none = outer-length light (get_or c.args.bytes.now 1 0) kind c.if-second-light.false c.if-light-eq2.false
    c.if-light-eq1.false c.if-light.false in
    let outer = light-outer (get_or c.args.bytes.now 0 0) (rw c.light_of-light.ensures at none) in
    let lt : get_or c.args.bytes.now 1 0 < (light_at (get_or c.args.bytes.now 0 0)).second =
    rw c.light_of-light.ensures at c.if-second-light.false in
    let noted = outer-noted c.args.bytes.now c.args.enclosing c.args.noted.now c.args.needs.now c.note_outer.new.needs
    c.if-bytes-lt3.false outer.0 (omega (arith, lt, outer.1)) (rw c.from-2.ensures at c.note_outer.ensures) in
    rw (take_rest c.args.bytes.now 2) noted
