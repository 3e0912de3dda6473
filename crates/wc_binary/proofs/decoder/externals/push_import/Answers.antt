use Rattle.std.proofs.Common.{◌≤◌, length, arith}
use Rattle.wc_ast.specs.declared.import.Desc.TheVariants as descs
use Rattle.wc_ast.specs.Standard.Externals.{import as import_of}
use Rattle.wc_binary.specs.Standard.Externals.{import}
use Rattle.wc_binary.proofs.reading.ahead.FrontItems.{import-begins, begins-within}
use Rattle.wc_binary.proofs.decoder.externals.push_import.Goals as goal

pub returns-clause-ok : goal.returns-clause-ok
returns-clause-ok c =
    let index = c.in-Some-func_front.index in
    let found = import_of c.in-Some.module.now c.in-Some-name_front.name.now (descs.Func index) in
    let behind = c.in-Some-func_front.behind.now in
    let begins = import-begins _ _ _ _ _ _ index c.in-Some.ensures c.in-Some-name_front.ensures
    c.in-Some-func_front.ensures in
    let within : length behind ≤ length c.args.bytes.now = begins-within import _ behind found begins in
    (found, behind, begins, omega (arith, within), c.in_ok-push.ensures.ok)
