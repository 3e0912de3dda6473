-- Where a body begins and ends (Core 1.0, 6.5.8).
use Rattle.std.specs.Prelude.{false, List, [], ◌∷◌}
use Rattle.wc_body.specs.Standard.Nested.{Code, empty, region, choice, ◌⧺◌}
use Rattle.wc_body.specs.Standard.Draft.{Frame, in_region, in_then, in_else, whole}
use Rattle.wc_surface.specs.declared.head.TextBody.{TextBody}
use Rattle.wc_surface.specs.declared.type_use.User.TheVariants as user
use Rattle.wc_parse_code.specs.declared.awaiting.Awaiting.TheVariants as awaiting
use Rattle.wc_parse_code.specs.declared.body_draft.BodyDraft.{BodyDraft}
use Rattle.wc_parse_code.specs.Drafting.Uses.{started_use}
use Rattle.wc_parse_code.specs.Drafting.Saying.{settled}

-- nothing is said yet
abbrev pub nothing_said : BodyDraft
nothing_said = record {
  code = whole empty;
  heads = [];
  uses = [];
  ids = [];
  labels = [];
  awaiting = awaiting.Nothing;
  waits = false;
  written = started_use user.Block 0;
  held = [];
  blocks = [];
}

-- the instructions once all that is open has ended; behind a text of the grammar nothing is open
abbrev pub all_closed : {P H : Type 0} → List (Frame P H) → Code P H → Code P H
all_closed [] last = last
all_closed (in_region before r h ∷ around) last = all_closed around (before ⧺ region r h last empty)
all_closed (in_then before h ∷ around) last = all_closed around (before ⧺ choice h last empty empty)
all_closed (in_else before h first ∷ around) last = all_closed around (before ⧺ choice h first last empty)

-- the body that was said
abbrev pub body_of : BodyDraft → TextBody
body_of d = record {
  code = all_closed d.code.around d.code.last;
  heads = d.heads;
  uses = d.uses;
  ids = d.ids;
  labels = d.labels;
}

-- the same at the end of the body, where nothing can follow the last name any more
abbrev pub ended : BodyDraft → TextBody
ended d = body_of (settled d)
