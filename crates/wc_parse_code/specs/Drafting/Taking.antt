-- The instructions of a body, token by token (Core 1.0, 6.5). Where a kept token doesn't fit what is open, which no
-- text of the grammar has, it adds nothing.
use Rattle.std.specs.Prelude.{true, false}
use Rattle.wc_syntax.specs.declared.role.Role.{Role}
use Rattle.wc_syntax.specs.declared.role.Role.TheVariants as role
use Rattle.wc_parse_code.specs.declared.body_draft.BodyDraft.{BodyDraft}
use Rattle.wc_parse_code.specs.declared.word.Word.{Word}
use Rattle.wc_parse_code.specs.Drafting.Words.{identifier_of}
use Rattle.wc_parse_code.specs.Drafting.Uses.{take_use}
use Rattle.wc_parse_code.specs.Drafting.Saying.{settled, release}
use Rattle.wc_parse_code.specs.Drafting.Opening.{name_plain, begin_by, hold_if, turn_by, end_by}
use Rattle.wc_parse_code.specs.Drafting.Immediates.{label_by, end_label_by, index_in, offset_by, align_by, literal_by}

-- a name, or what ends one (6.5.2 to 6.5.7)
abbrev pub take_name : BodyDraft → Role → Word → BodyDraft
take_name d role.Plain w = name_plain false w.symbol.value w.token d
take_name d role.HeldPlain w = name_plain true w.symbol.value w.token d
take_name d role.Begin w = begin_by w.symbol.value w.token d
take_name d role.HeldBegin w = hold_if w.token d
take_name d role.HeldEnd w = release d
take_name d role.Then w = release d
take_name d role.Else w = turn_by d.blocks d
take_name d role.End w = end_by d.blocks d
take_name d _ w = d

-- one more kept token: what belongs to the last instruction; a part of the type use that is written; or else a name
abbrev pub take : BodyDraft → Role → Word → BodyDraft
take d role.Label w = label_by d.awaiting (identifier_of w) d
take d role.EndLabel w = end_label_by d.awaiting (identifier_of w) d
take d role.Index w = index_in d.awaiting w d
take d role.MemOffset w = offset_by d.awaiting w.symbol.value d
take d role.MemAlign w = align_by d.awaiting w.symbol.value d
take d role.Literal w = literal_by d.awaiting w.symbol.value d
take d role.TypeIndex w = record d { written = take_use d.written role.TypeIndex w }
take d role.ParamId w = record d { written = take_use d.written role.ParamId w }
take d role.ParamType w = record d { written = take_use d.written role.ParamType w }
take d role.ResultType w = record d { written = take_use d.written role.ResultType w }
take d r w = take_name (settled d) r w
