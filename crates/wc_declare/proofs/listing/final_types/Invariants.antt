use Rattle.std.proofs.Common.{◌+◌, ◌<◌, ◌^◌, length, drop}
use Rattle.wc_spaces.specs.Kept.Types.{count_of}
use Rattle.wc_declare.specs.Standard.Types.{all_uses, types_of}
use Rattle.wc_declare.proofs.Growing.{Listing}
use Rattle.wc_declare.proofs.listing.final_types.Given as goal

abbrev pub invariant-loop-field : goal.invariant-loop-field
invariant-loop-field l = record {
  few : count_of l.types + length (all_uses (drop l.field-index l.fields)) < 2 ^ 32;
  listing : Listing (types_of l.fields) l.types (all_uses (drop l.field-index l.fields));
}
