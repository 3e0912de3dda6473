use Rattle.std.proofs.Common.{◌≤◌, length, arith}
use Rattle.wc_ast.specs.Standard.Externals.{export as export_of}
use Rattle.wc_binary.specs.Standard.Externals.{export}
use Rattle.wc_binary.proofs.reading.ahead.FrontItems.{export-begins, begins-within}
use Rattle.wc_binary.proofs.decoder.externals.push_export.Goals as goal

pub returns-clause-ok : goal.returns-clause-ok
returns-clause-ok c =
    let kind = c.in-Some-kind_front.kind in
    let index = c.in-Some-u32_front.index in
    let found = export_of c.in-Some.name.now kind index in
    let behind = c.in-Some-u32_front.behind.now in
    let begins = export-begins _ _ _ _ _ kind index c.in-Some.ensures c.in-Some-kind_front.ensures
    c.in-Some-u32_front.ensures in
    let within : length behind ≤ length c.args.bytes.now = begins-within export _ behind found begins in
    (found, behind, begins, omega (arith, within), c.in_ok-push.ensures.ok)
