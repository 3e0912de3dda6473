use Rattle.std.proofs.Common.{◌≡◌}
use Rattle.std.specs.List.{slice_get}
use Rattle.wc_check.specs.Standard.Spaces.{imported_funcs}
use Rattle.wc_check.proofs.start.type_of_import.Given as goal

abbrev pub invariant-loop-import : goal.invariant-loop-import
invariant-loop-import l = slice_get (imported_funcs l.import-iterator) l.left
    ≡ slice_get (imported_funcs l.imports) l.index
