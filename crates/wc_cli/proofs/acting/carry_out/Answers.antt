use Rattle.std.proofs.Common.{refl}
use Rattle.wc_cli.specs.Standard.Inputs.{input_bytes, is_unread}
use Rattle.wc_cli.proofs.Endings.{ends-of}
use Rattle.wc_cli.proofs.Looking.{looks-of}
use Rattle.wc_cli.proofs.acting.carry_out.Goals as goal

pub returns-in-Make-clause-ends : goal.returns-in-Make-clause-ends
returns-in-Make-clause-ends g c =
    let x = input_bytes g.R.Read.remaining c.args.a.now in
    let y = input_bytes g.S.Read.remaining c.args.b.now in
    let b = is_unread c.args.b.now in
    ends-of g.W.Write.contents c.args.line.now x y (is_unread c.make.new.input) b c.args.w.now c.make.new.w _ _
    c.in-Make.is (c.make.ensures.ends y b)

pub returns-in-Tell-clause-ends : goal.returns-in-Tell-clause-ends
returns-in-Tell-clause-ends g c =
    let x = input_bytes g.R.Read.remaining c.args.a.now in
    let y = input_bytes g.S.Read.remaining c.args.b.now in
    let b = is_unread c.args.b.now in
    ends-of g.W.Write.contents c.args.line.now x y (is_unread c.tell.new.input) b c.args.w.now c.tell.new.w _ _
    c.in-Tell.is (c.tell.ensures.ends y b)

pub returns-in-Make-clause-looks : goal.returns-in-Make-clause-looks
returns-in-Make-clause-looks g c =
    looks-of g.R.Read.remaining g.S.Read.remaining c.args.a.now c.make.new.input c.args.b.now c.args.b.now
    c.args.line.now _ _ c.in-Make.is (c.make.ensures.looks, refl)

pub returns-in-Tell-clause-looks : goal.returns-in-Tell-clause-looks
returns-in-Tell-clause-looks g c =
    looks-of g.R.Read.remaining g.S.Read.remaining c.args.a.now c.tell.new.input c.args.b.now c.args.b.now
    c.args.line.now _ _ c.in-Tell.is (c.tell.ensures.looks, refl)
