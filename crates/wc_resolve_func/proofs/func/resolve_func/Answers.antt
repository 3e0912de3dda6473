use Rattle.wc_resolve_func.specs.Standard.Funcs.{func_context}
use Rattle.wc_resolve_func.proofs.Knowing.{known-locals, known-uses}
use Rattle.wc_resolve_func.proofs.func.resolve_func.Goals as goal

pub returns-clause-func : goal.returns-clause-func
returns-clause-func c = λ fs w e.
    let body = c.in_ok-code.ensures.resolved (func_context fs c.args.ty.now c.args.locals.now c.args.body.now) (record {
      funcs = w.spaces.funcs;
      globals = w.spaces.globals;
      locals = known-locals fs c.args.ty.now c.args.locals.now c.count_at-count.result c.type_index-index.result
          c.args.counts.now
          c.names.result.now c.groups.result.now c.in_ok-space.space e (c.type_index-index.ensures fs w)
          c.count_at-count.ensures
          c.names.ensures c.groups.ensures.written c.in_ok-space.ensures;
      uses = known-uses fs c.args.body.now.uses c.uses.result.now c.in_ok-uses.uses.items c.as_slice.result.now
          c.uses.ensures (c.in_ok-uses.ensures fs w) c.as_slice.ensures.value;
    }) in
    rw (c.type_index-index.ensures fs w, c.in_ok-local_types.ensures, c.groups-2.ensures.written, body)

pub returns-clause-noted : goal.returns-clause-noted
returns-clause-noted c = λ fs w e.
    c.in_ok-code.ensures.noted (func_context fs c.args.ty.now c.args.locals.now c.args.body.now) (record {
      funcs = w.spaces.funcs;
      globals = w.spaces.globals;
      locals = known-locals fs c.args.ty.now c.args.locals.now c.count_at-count.result c.type_index-index.result
          c.args.counts.now
          c.names.result.now c.groups.result.now c.in_ok-space.space e (c.type_index-index.ensures fs w)
          c.count_at-count.ensures
          c.names.ensures c.groups.ensures.written c.in_ok-space.ensures;
      uses = known-uses fs c.args.body.now.uses c.uses.result.now c.in_ok-uses.uses.items c.as_slice.result.now
          c.uses.ensures (c.in_ok-uses.ensures fs w) c.as_slice.ensures.value;
    })
