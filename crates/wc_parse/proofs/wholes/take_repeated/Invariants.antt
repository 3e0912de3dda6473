use Rattle.std.proofs.Common.{◌≡◌, ◌-◌}
use Rattle.wc_syntax.specs.declared.kind.Kind.TheVariants.{OtherWord}
use Rattle.wc_parse_field.specs.Drafting.Fields.{started}
use Rattle.wc_parse.specs.Kept.Passing.{Passes}
use Rattle.wc_parse.proofs.wholes.take_repeated.Given as goal

abbrev pub invariant-loop-count : goal.invariant-loop-count
invariant-loop-count l = record {
  passes : Passes l.fn.lexer l.fn.at l.reading l.fn.draft l.lexer l.count l.draft;
  fresh : l.draft.field ≡ started OtherWord 0;
}

abbrev pub decreases-loop-count : goal.decreases-loop-count
decreases-loop-count l = 4294967296 - l.count
