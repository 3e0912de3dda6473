-- Labels and immediates, token by token (Core 1.0, 6.5.2 to 6.5.6).
use Rattle.std.specs.Prelude.{ℕ, ℤ, ◌%◌, ◌^◌, nat_lt, [], ◌∷◌, ◌++◌, Some, None, if◌then◌else◌}
use Rattle.std.specs.Int.{cast_signed, w32, w64}
use Rattle.wc_symbols.specs.declared.symbol.Value.{Value}
use Rattle.wc_symbols.specs.declared.symbol.Value.TheVariants.{Number, Offset, Exponent}
use Rattle.wc_surface.specs.declared.instr.TextInstr.TheVariants as instr
use Rattle.wc_surface.specs.Standard.Identifiers.{Identifier}
use Rattle.wc_parse_code.specs.declared.awaiting.Awaiting.{Awaiting}
use Rattle.wc_parse_code.specs.declared.awaiting.Awaiting.TheVariants as awaiting
use Rattle.wc_parse_code.specs.declared.body_draft.BodyDraft.{BodyDraft}
use Rattle.wc_parse_code.specs.declared.word.Word.{Word}
use Rattle.wc_parse_code.specs.Drafting.Words.{identifier_of, operand_of, ids_with}
use Rattle.wc_parse_code.specs.Drafting.Heads.{with_else_id, with_end_id}
use Rattle.wc_parse_code.specs.Drafting.Saying.{complete, say}
use Rattle.wc_parse_code.specs.Drafting.Opening.{await}

-- the label of the block whose head is being written (6.5.2)
abbrev pub label_by : Awaiting → Identifier → BodyDraft → BodyDraft
label_by (awaiting.Head label) id d = await (awaiting.Head (Some id)) d
label_by _ id d = d

-- the identifier behind `else` or `end` (6.5.2)
abbrev pub end_label_by : Awaiting → Identifier → BodyDraft → BodyDraft
end_label_by (awaiting.ElseId h) id d = record d { heads = with_else_id d.heads h id }
end_label_by (awaiting.EndId h) id d = record d { heads = with_end_id d.heads h id }
end_label_by _ id d = d

-- an index; the labels of a `br_table` stand in the order of the text, the default last (6.5.2 to 6.5.4)
abbrev pub index_in : Awaiting → Word → BodyDraft → BodyDraft
index_in (awaiting.Index op) w d =
    complete (say (record d { ids = ids_with w d.ids }) (instr.Index op (operand_of w d.ids)))
index_in (awaiting.Labels first) w d =
    record d { ids = ids_with w d.ids; labels = d.labels ++ operand_of w d.ids ∷ [] }
index_in _ w d = d

-- the offset of a load or a store (6.5.5)
abbrev pub offset_by : Awaiting → Value → BodyDraft → BodyDraft
offset_by (awaiting.MemArg op align offset) (Offset n) d = await (awaiting.MemArg op align (Some n)) d
offset_by _ v d = d

-- the exponent of its alignment (6.5.5)
abbrev pub align_by : Awaiting → Value → BodyDraft → BodyDraft
align_by (awaiting.MemArg op align offset) (Exponent e) d =
    if nat_lt e 256 then await (awaiting.MemArg op (Some e) offset) d else d
align_by _ v d = d

-- the number of a constant, from its two's complement (6.3.1 and 6.5.6)
abbrev pub literal_by : Awaiting → Value → BodyDraft → BodyDraft
literal_by awaiting.Literal32 (Number n) d = complete (say d (instr.I32Const (cast_signed w32 (n % 2 ^ 32))))
literal_by awaiting.Literal64 (Number n) d = complete (say d (instr.I64Const (cast_signed w64 n)))
literal_by _ v d = d
