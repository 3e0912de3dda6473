-- How a text is refused at a token that the grammar refuses.
use Rattle.std.specs.Prelude.{◌≡◌, List}
use Rattle.wc_tokens.specs.Standard.Lexemes.{Lexeme, Lexed}
use Rattle.wc_tokens.specs.Standard.Faults.{Stops}
use Rattle.wc_tokens.specs.Standard.Streams.{Unread}
use Rattle.wc_parse.specs.declared.fault.SynFault.{SynFault}
use Rattle.wc_parse.specs.declared.fault.SynFault.TheVariants as fault
use Rattle.wc_parse.specs.declared.refusal.TextRefusal.{TextRefusal}
use Rattle.wc_parse.specs.declared.refusal.TextRefusal.TheVariants.{Lex, Syntax, Memory}

-- a fault of the characters that are left comes first
abbrev pub RefusesBy : Unread → SynFault → TextRefusal → Type 0
RefusesBy u fault.Memory r = r ≡ Memory
RefusesBy u (fault.Bad token why) (Lex stop) = Stops u.size u.rest stop.at stop.why
RefusesBy u (fault.Bad token why) (Syntax at reason) =
    (at ≡ token) × (reason ≡ why) × ((ts : List Lexeme) × Lexed u.size u.rest ts)
RefusesBy u (fault.Bad token why) Memory = ⊥
