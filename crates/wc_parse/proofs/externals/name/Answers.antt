use Rattle.std.proofs.Common.{subst, IfOk, IfSome}
use Rattle.wc_tokens.specs.Standard.Streams.{Unread}
use Rattle.wc_symbols.specs.Standard.Strings.{bytes_in}
use Rattle.wc_parse.specs.Kept.Passing.{IsNamed}
use Rattle.wc_parse.proofs.Tokens.Seen.{plain-seen}
use Rattle.wc_parse.proofs.externals.name.Goals as goal

pub returns-in-Some : goal.returns-in-Some
returns-in-Some c = plain-seen _ c.in-Some.ensures.read c.plain_value.ensures.utf8 c.plain_value.ensures.bytes

pub returns-in-None : goal.returns-in-None
returns-in-None c =
    subst
    (λ (u : Unread).
    IfOk c.escaped_name.result (λ found. IfSome found (λ value. IsNamed u (bytes_in value) c.escaped_name.new.ahead)))
    (c.next_plain.ensures.none c.in-None.is) c.escaped_name.ensures
