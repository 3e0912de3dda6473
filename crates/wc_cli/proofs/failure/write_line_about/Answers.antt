use Rattle.std.proofs.Common.{◌≡◌, ◌∙◌, ℕ, List, [], ◌∷◌, ◌++◌, ap, subst, append_assoc, codes}
use Rattle.wc_canon.specs.Standard.Text.{pieces_text}
use Rattle.wc_cli.specs.Standard.Failing.{GoesOut, line_about}
use Rattle.wc_cli.proofs.Outgoing.{goes-on}
use Rattle.wc_cli.proofs.failure.write_line_about.Goals as goal

-- the name, the path and a colon, then the text, then the line end
about : (path text : List ℕ)
    → ((codes "wcanon: " ++ (path ++ codes ": ")) ++ text) ++ (10 ∷ []) ≡ line_about path text
about path text =
    ap (λ (t : List ℕ). codes "wcanon: " ++ t)
    (append_assoc (path ++ codes ": ") text (10 ∷ []) ∙ append_assoc path (codes ": ") (text ++ (10 ∷ [])))

pub returns : goal.returns
returns g c =
    let held = g.E.Write.contents in
    let path = c.args.path.now in
    let text = pieces_text c.args.text.now in
    let front = codes "wcanon: " ++ (path ++ codes ": ") in
    let two = goes-on held front text _ _ _ c.put_pieces.ensures c.put_pieces-2.ensures in
    let three = goes-on held (front ++ text) (10 ∷ []) _ _ _ two c.put_pieces-3.ensures in
    subst (λ (t : List ℕ). GoesOut held t c.args.e.now c.put_pieces-3.new.e) (about path text) three
