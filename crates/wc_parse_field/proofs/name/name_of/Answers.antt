use Rattle.std.proofs.Common.{subst, IsUtf8, string_bytes}
use Rattle.std.proofs.lemmas.Str.{IsUtf8-string_bytes}
use Rattle.wc_parse_field.proofs.NameLemmas.{name-kept}
use Rattle.wc_parse_field.proofs.name.name_of.Goals as goal

pub returns-in-Plain : goal.returns-in-Plain
returns-in-Plain c =
    let utf8 : IsUtf8 c.in-Plain.text.now = subst IsUtf8 c.as_bytes.ensures.value c.as_bytes.ensures.utf8 in
    rw (c.piece.ensures, c.in-Plain.is) (name-kept c.in-Plain.text.now utf8)

pub returns-in-Own : goal.returns-in-Own
returns-in-Own c =
    rw (c.own.ensures, c.in-Own.is) (name-kept (string_bytes c.in-Own.text) (IsUtf8-string_bytes c.in-Own.text))
