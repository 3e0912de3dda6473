use Rattle.std.proofs.Common.{◌≡◌, arith, subst, IsUtf8, string_bytes, rules}
use Rattle.std.proofs.lemmas.Str.{IsUtf8-string_bytes}
use Rattle.wc_parse_field.proofs.NameLemmas.{name-kept, name-dropped}
use Rattle.wc_parse_field.proofs.name.name_of_bytes.Goals as goal

pub returns-in-Ok : goal.returns-in-Ok
returns-in-Ok c =
    let h = c.in-Ok.ensures.ok in
    let e : string_bytes c.in-Ok.text ≡ c.args.bytes.items = first_of (cc, search (rules, h), grind (arith, h)) in
    rw (c.own.ensures, c.in-Ok.ensures.ok)
    (name-kept c.args.bytes.items (subst IsUtf8 e (IsUtf8-string_bytes c.in-Ok.text)))

pub returns : goal.returns
returns c =
    rw c.piece.ensures
    (name-dropped c.args.bytes.items (λ u. let h = c.in-Err.ensures.succeeds u in search (rules, h)))
