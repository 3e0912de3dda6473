-- How much was said so far: what `Sizes` of the whole text counts of a body.
use Rattle.std.specs.Prelude.{ℕ, ◌+◌, sum_by}
use Rattle.wc_surface.specs.Standard.Sizes.{use_size}
use Rattle.wc_parse_code.specs.declared.awaiting.Awaiting.{Awaiting}
use Rattle.wc_parse_code.specs.declared.awaiting.Awaiting.TheVariants as awaiting
use Rattle.wc_parse_code.specs.declared.use_draft.UseDraft.{UseDraft}
use Rattle.wc_parse_code.specs.declared.body_draft.BodyDraft.{BodyDraft}
use Rattle.wc_parse_code.specs.Drafting.Uses.{use_of}

-- the type use that is written, where the last name has one
abbrev pub written_size : Awaiting → UseDraft → ℕ
written_size awaiting.Use u = use_size (use_of u)
written_size (awaiting.Head label) u = use_size (use_of u)
written_size _ u = 0

-- type uses and parameters so far
abbrev pub said_size : BodyDraft → ℕ
said_size d = sum_by use_size d.uses + written_size d.awaiting d.written
