use Rattle.std.proofs.Common.{ℕ, List, Option, [], sym, subst}
use Rattle.wc_spaces.specs.Kept.Spaces.{IsSpace}
use Rattle.wc_surface.specs.Standard.WrittenLocals.{written_out}
use Rattle.wc_declare.specs.Standard.Spaces.{texts}
use Rattle.wc_declare.specs.Standard.Inner.{local_ids}
use Rattle.wc_declare.proofs.Adding.{texts-append}
use Rattle.wc_resolve_func.specs.Standard.Locals.{params_from}
use Rattle.wc_resolve_func.proofs.local_space.local_space.Goals as goal

pub returns : goal.returns
returns c =
    let params = params_from 0 c.args.count c.args.names.now in
    subst (λ (x : List (Option (List ℕ))). IsSpace x c.add_locals.new.space)
    (sym (texts-append params (local_ids (written_out c.args.groups.now))))
    (c.in_ok-add_locals.ensures (texts params) (c.in_ok-add_params.ensures.space [] c.new-space.ensures))
