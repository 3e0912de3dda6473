use Rattle.std.proofs.Common.{◌≡◌, IfSome, false, refl, inl, inr}
use Rattle.wc_canon.specs.declared.comparing.Comparison.TheVariants.{Same, Different}
use Rattle.wc_canon.specs.Standard.Comparing.{Compares}
use Rattle.wc_cli.specs.declared.command_line.Line.TheVariants.{Compare}
use Rattle.wc_cli.specs.Standard.Inputs.{input_bytes, is_unread}
use Rattle.wc_cli.proofs.Endings.{unsaid}
use Rattle.wc_cli.proofs.acting.tell_apart.Goals as goal

pub returns-in_err-say-in-Same-clause-ends : goal.returns-in_err-say-in-Same-clause-ends
returns-in_err-say-in-Same-clause-ends g c =
    let x = input_bytes g.R.Read.remaining c.args.a.now in
    let y = input_bytes g.S.Read.remaining c.args.b.now in
    let a = is_unread c.compare_inputs.new.a in
    let b = is_unread c.compare_inputs.new.b in
    let p : (a ≡ false) × (b ≡ false) × IfSome x (λ u. IfSome y (λ v. Compares u v Same)) =
    rw c.in-Same.is at c.in_ok-compare_inputs.ensures.ends in
    unsaid g.W.Write.contents (Compare c.args.paths.0 c.args.paths.1) x y a b c.args.w.now c.say.new.w _ 0 _ _
    (p.0, p.1) (inl (p.2, refl, refl)) refl c.in_err-say-in-Same.ensures.says
    c.from_residual-in_err-say-in-Same.ensures.1

pub returns-in_err-say-in-Different-clause-ends : goal.returns-in_err-say-in-Different-clause-ends
returns-in_err-say-in-Different-clause-ends g c =
    let x = input_bytes g.R.Read.remaining c.args.a.now in
    let y = input_bytes g.S.Read.remaining c.args.b.now in
    let a = is_unread c.compare_inputs.new.a in
    let b = is_unread c.compare_inputs.new.b in
    let p : (a ≡ false) × (b ≡ false) × IfSome x (λ u. IfSome y (λ v. Compares u v Different)) =
    rw c.in-Different.is at c.in_ok-compare_inputs.ensures.ends in
    unsaid g.W.Write.contents (Compare c.args.paths.0 c.args.paths.1) x y a b c.args.w.now c.say-in-Different.new.w
    _ 1 _ _ (p.0, p.1) (inr (p.2, refl, refl)) refl c.in_err-say-in-Different.ensures.says
    c.from_residual-in_err-say-in-Different.ensures.1
