use Rattle.std.proofs.Common.{rules, ◌≡◌, arith, sym, ◌∙◌, suc, ◌-◌, length}
use Rattle.wc_ast.proofs.Groups.GroupLemmas.{ends-with, last-type}
use Rattle.wc_ops.specs.contracts.val_type.ValType.{the_type}
use denote.Enum.Bare.{same_true, true_same}
use Rattle.wc_ast.proofs.locals.ends_with.Goals as goal

pub returns : goal.returns
returns c =
    let n : suc (length c.args.groups.now - 1) ≡ length c.args.groups.now =
    grind (arith, c.is_empty.ensures, c.if-is_empty.false) in (
      (λ h. ends-with c.args.groups.now _ _ c.args.value_type n
          (same_true the_type (search rules) _ _ (sym c.eq.ensures ∙ h))),
      (λ e. c.eq.ensures ∙ true_same the_type _ _ (last-type c.args.groups.now _ _ c.args.value_type n e)),
    )
