use Rattle.std.proofs.Common.{◌≤◌}
use Rattle.wc_declare.proofs.room.room_for.Given as goal

abbrev pub invariant-loop-field : goal.invariant-loop-field
invariant-loop-field l = record {
  types : l.room.types ≤ l.field-index;
  funcs : l.room.funcs ≤ l.field-index;
  tables : l.room.tables ≤ l.field-index;
  memories : l.room.memories ≤ l.field-index;
  globals : l.room.globals ≤ l.field-index;
}
