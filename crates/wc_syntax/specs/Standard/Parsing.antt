-- What reading a text promises.
use Rattle.std.specs.Prelude.{ℕ, List, map}
use Rattle.wc_syntax.specs.declared.kind.Kind.{Kind}
use Rattle.wc_syntax.specs.declared.kept.Kept.{Kept}
use Rattle.wc_syntax.specs.declared.refusal.Refusal.{Refusal}
use Rattle.wc_syntax.specs.declared.refusal.Refusal.TheVariants as refusal
use Rattle.wc_syntax.specs.Standard.Phrases.{word, The, text}
use Rattle.wc_syntax.specs.Standard.Deriving.{at, Event, kept, numbered, Derives}
use Rattle.wc_syntax.specs.Standard.Reasons.{FirstFault}

-- a kept token as an event: its role, its number and its kind
abbrev pub event : Kept → Event
event k = kept k.role (at k.at (word k.kind))

-- the same of each kept token, in order
abbrev pub events : List Kept → List Event
events ks = map event ks

-- tokens of these kinds are a text, in which at most d instructions are nested, and these are kept of them
abbrev pub IsText : ℕ → List Kind → List Event → Type 0
IsText d ks es = Derives (The (text d)) (numbered 0 ks) es

-- it is the first fault, or memory was refused
abbrev pub IsRefusal : ℕ → List Kind → Refusal → Type 0
IsRefusal d ks refusal.Memory = Unit {0}
IsRefusal d ks (refusal.Bad p r) = FirstFault d ks p r
