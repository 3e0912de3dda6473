use Rattle.std.proofs.Common.{◌≡◌, ◌∷◌, length, ap, rules, refl}
use Rattle.wc_ast.specs.Standard.Externals.{import}
use Rattle.wc_ast.specs.Kept.ExternalRow.{imports_of}
use Rattle.wc_ast.proofs.import_ref.ImportRefsIterator.next.Goals as goal

pub returns-clause-steps : goal.returns-clause-steps
returns-clause-steps c =
    rw (← c.self.view_is, c.in_ok-desc.ensures.cases.0, c.in_ok-module.ensures.steps, c.in_ok-name.ensures.steps) refl

pub returns-clause-goes : goal.returns-clause-goes
returns-clause-goes c =
    let step : c.args.self.now
    ≡ import c.in_ok-module.module.now c.in_ok-name.name.now c.in_ok-desc.desc.now
    ∷ imports_of c.next-2.new.self c.in_ok-desc.descs.now =
    rw (← c.self.view_is, c.in_ok-desc.ensures.cases.0, c.in_ok-module.ensures.steps, c.in_ok-name.ensures.steps)
    refl in
    let shorter = ap length step in search rules
