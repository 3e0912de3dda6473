-- How the logic stores instructions of a text.
use Rattle.std.specs.Prelude.{ℕ}
use Rattle.std.specs.Coded.{Coded, coded_ℕ}
use Rattle.wc_body.specs.Standard.Nested.{Code}
use Rattle.wc_body.specs.Standard.Draft.{Draft}
use Rattle.wc_body.specs.Stored.Codes.{code_code, draft_code}
use Rattle.wc_surface.specs.declared.instr.TextInstr.{TextInstr}
use Rattle.wc_surface.specs.contracts.instr.TextInstr as text_instr

-- how nested instructions of a text are stored: each head is the number of its place
abbrev pub text_code_code : Coded (Code TextInstr ℕ)
text_code_code = code_code text_instr.the_row.coded coded_ℕ

-- the same of instructions that are being built
abbrev pub text_draft_code : Coded (Draft TextInstr ℕ)
text_draft_code = draft_code text_instr.the_row.coded coded_ℕ
