-- Faults of declarations, part after part.
use Rattle.std.proofs.Common.{◌≡◌, false, List, ◌++◌, Option}
use Rattle.std.specs.List.{flat_map}
use Rattle.wc_resolve_code.specs.declared.why.NameWhy.{NameWhy}
use Rattle.wc_spaces.specs.declared.noted.Fault.{Fault}
use Rattle.wc_spaces.specs.Standard.Least.{least_from}
use Rattle.wc_surface.specs.declared.field.Field.{Field}
use Rattle.wc_declare.specs.declared.kind.SpaceKind.TheVariants as kind
use Rattle.wc_declare.specs.Standard.Spaces.{space, repeated, space_faults}
use Rattle.wc_declare.specs.Standard.Order.{late_after, second_after}
use Rattle.wc_declare.specs.Standard.Inner.{inner_faults}
use Rattle.wc_declare.specs.Standard.Stages.{declaration_faults}
use Rattle.wc_declare.proofs.Faults.{before}

module _ (fs : List Field) (o a b c d e : Option (Fault NameWhy)) where
  pub spaces-told : a ≡ least_from o (repeated (space kind.Type fs)) → b ≡ least_from a (repeated (space kind.Func fs))
      → c ≡ least_from b (repeated (space kind.Table fs)) → d ≡ least_from c (repeated (space kind.Memory fs))
      → e ≡ least_from d (repeated (space kind.Global fs)) → e ≡ least_from o (space_faults fs)
  spaces-told ha hb hc hd he =
      let types = repeated (space kind.Type fs) in
      let funcs = repeated (space kind.Func fs) in
      let tables = repeated (space kind.Table fs) in
      let memories = repeated (space kind.Memory fs) in
      let globals = repeated (space kind.Global fs) in
      before o a e types (funcs ++ (tables ++ (memories ++ globals))) ha
      (before a b e funcs (tables ++ (memories ++ globals)) hb
      (before b c e tables (memories ++ globals) hc (before c d e memories globals hd he)))

  pub declarations-told : a ≡ least_from o (space_faults fs) → b ≡ least_from a (late_after false fs)
      → c ≡ least_from b (second_after false fs) → d ≡ least_from c (flat_map inner_faults fs)
      → d ≡ least_from o (declaration_faults fs)
  declarations-told ha hb hc hd =
      let late = late_after false fs in
      let second = second_after false fs in
      let inner = flat_map inner_faults fs in
      before o a d (space_faults fs) (late ++ (second ++ inner)) ha
      (before a b d late (second ++ inner) hb (before b c d second inner hc hd))
