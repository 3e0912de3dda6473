use Rattle.wc_declare.specs.declared.kind.SpaceKind.TheVariants as kind
use Rattle.wc_declare.proofs.Walking.{adds-found}
use Rattle.wc_declare.proofs.gathering.put_spaces.Goals as goal

pub returns : goal.returns
returns c = record {
  types = adds-found kind.Type c.args.field.now _ _ _ _ _ c.declared-ty.ensures c.in_ok-add_found.ensures.size
      c.in_ok-add_found.ensures.space c.in_ok-add_found.ensures.noted;
  funcs = adds-found kind.Func c.args.field.now _ _ _ _ _ c.declared-func.ensures c.in_ok-add_found-2.ensures.size
      c.in_ok-add_found-2.ensures.space c.in_ok-add_found-2.ensures.noted;
  tables = adds-found kind.Table c.args.field.now _ _ _ _ _ c.declared-table.ensures c.in_ok-add_found-3.ensures.size
      c.in_ok-add_found-3.ensures.space c.in_ok-add_found-3.ensures.noted;
  memories = adds-found kind.Memory c.args.field.now _ _ _ _ _ c.declared-memory.ensures
      c.in_ok-add_found-4.ensures.size c.in_ok-add_found-4.ensures.space c.in_ok-add_found-4.ensures.noted;
  globals = adds-found kind.Global c.args.field.now _ _ _ _ _ c.declared-global.ensures
      c.in_ok-add_found-5.ensures.size c.in_ok-add_found-5.ensures.space c.in_ok-add_found-5.ensures.noted;
}
