-- Where the most usual tokens lead, the table leads.
use Rattle.std.proofs.Common.{◌≡◌, ℕ, Bool, true, false, List, [], ◌∷◌, ◌++◌, length, Option, Some, None, refl, sym, ap}
use Rattle.std.proofs.Common.{subst, ◌∙◌}
use Rattle.wc_syntax.specs.declared.kind.Kind.{Kind}
use Rattle.wc_syntax.specs.declared.kind.Kind.TheVariants as kind
use Rattle.wc_syntax.specs.declared.role.Role.{Role}
use Rattle.wc_syntax.specs.declared.role.Role.TheVariants as role
use Rattle.wc_syntax.specs.declared.place.Place.{Place}
use Rattle.wc_syntax.specs.declared.place.Place.TheVariants as place
use Rattle.wc_syntax.specs.declared.place.Frame.{Frame}
use Rattle.wc_syntax.specs.declared.place.Frame.TheVariants as frame
use Rattle.wc_syntax.specs.declared.place.Move.{Move}
use Rattle.wc_syntax.specs.declared.place.Move.TheVariants.{On, Past, Into, Out}
use Rattle.wc_syntax.specs.declared.place.Action.{Action}
use Rattle.wc_syntax.specs.Standard.Deriving.{Event}
use Rattle.wc_syntax.specs.Tables.Table.{step, step_rest, rest_of, find, place_rows, or_else, takes_instrs}
use Rattle.wc_syntax.specs.Tables.Table.{takes_folded}
use Rattle.wc_syntax.specs.Tables.Usual.{is_free, takes_name, takes_open, behind_name, begun_frame, ends_by_word}
use Rattle.wc_syntax.specs.Tables.Usual.{is_opened, opened_part, is_held, behind_index, is_literal, is_offset, is_align}
use Rattle.wc_syntax.specs.Standard.Reading.{Standing, IsRead, one_read, is_deep, moved, action_at, kept_as}

abbrev pub keeping : Role → Move → Option Action
keeping r g = Some (record { keep = Some r; go = g })

abbrev pub dropping : Move → Option Action
dropping g = Some (record { keep = None; go = g })

-- the names of instructions in which none is nested
abbrev pub AtNames : (Kind → Place → Type 0) → Type 0
AtNames P = P kind.Simple place.Done × P kind.Indexed place.Index × P kind.BrTable place.FirstIndex
    × P kind.CallIndirect place.Uses × P kind.Access place.MemOffset × P kind.Const32 place.Literal32
    × P kind.Const64 place.Literal64

at-name : (P : Kind → Place → Type 0) (k : Kind) (p : Place) → behind_name k ≡ Some p → AtNames P → P k p
at-name P kind.Simple p e h = let f : place.Done ≡ p = cc in subst (λ (q : Place). P kind.Simple q) f h.0
at-name P kind.Indexed p e h = let f : place.Index ≡ p = cc in subst (λ (q : Place). P kind.Indexed q) f h.1
at-name P kind.BrTable p e h = let f : place.FirstIndex ≡ p = cc in subst (λ (q : Place). P kind.BrTable q) f h.2
at-name P kind.CallIndirect p e h = let f : place.Uses ≡ p = cc in subst (λ (q : Place). P kind.CallIndirect q) f h.3
at-name P kind.Access p e h = let f : place.MemOffset ≡ p = cc in subst (λ (q : Place). P kind.Access q) f h.4
at-name P kind.Const32 p e h = let f : place.Literal32 ≡ p = cc in subst (λ (q : Place). P kind.Const32 q) f h.5
at-name P kind.Const64 p e h = let f : place.Literal64 ≡ p = cc in subst (λ (q : Place). P kind.Const64 q) f h.6
at-name P _ p e h = absurd cc

-- where a name may come as where no part is left
free-name : (q : Place) (f : Frame) (deep : Bool) → takes_name q ≡ true
    → AtNames (λ k p. step q f deep k ≡ step place.Done f deep k)
free-name place.Done f deep e = (refl, refl, refl, refl, refl, refl, refl)
free-name place.Uses f deep e = (refl, refl, refl, refl, refl, refl, refl)
free-name place.Params f deep e = (refl, refl, refl, refl, refl, refl, refl)
free-name place.Results f deep e = (refl, refl, refl, refl, refl, refl, refl)
free-name place.Label f deep e = (refl, refl, refl, refl, refl, refl, refl)
free-name place.EndLabel f deep e = (refl, refl, refl, refl, refl, refl, refl)
free-name place.Indices f deep e = (refl, refl, refl, refl, refl, refl, refl)
free-name place.MemOffset f deep e = (refl, refl, refl, refl, refl, refl, refl)
free-name place.MemAlign f deep e = (refl, refl, refl, refl, refl, refl, refl)
free-name _ f deep e = absurd cc

free-block : (q : Place) (f : Frame) (deep : Bool) → takes_name q ≡ true
    → (step q f deep kind.Region ≡ step place.Done f deep kind.Region)
    × (step q f deep kind.If ≡ step place.Done f deep kind.If)
    × (step q f deep kind.EndWord ≡ step place.Done f deep kind.EndWord)
free-block place.Done f deep e = (refl, refl, refl)
free-block place.Uses f deep e = (refl, refl, refl)
free-block place.Params f deep e = (refl, refl, refl)
free-block place.Results f deep e = (refl, refl, refl)
free-block place.Label f deep e = (refl, refl, refl)
free-block place.EndLabel f deep e = (refl, refl, refl)
free-block place.Indices f deep e = (refl, refl, refl)
free-block place.MemOffset f deep e = (refl, refl, refl)
free-block place.MemAlign f deep e = (refl, refl, refl)
free-block _ f deep e = absurd cc

-- at a free place as at none
free-open : (q : Place) (f : Frame) (deep : Bool) → is_free q ≡ true
    → (step q f deep kind.Open ≡ step place.Done f deep kind.Open)
    × (step q f deep kind.Close ≡ step place.Done f deep kind.Close)
free-open place.Done f deep e = (refl, refl)
free-open place.EndLabel f deep e = (refl, refl)
free-open place.Indices f deep e = (refl, refl)
free-open place.MemOffset f deep e = (refl, refl)
free-open place.MemAlign f deep e = (refl, refl)
free-open _ f deep e = absurd cc

abbrev Plain : Frame → Bool → Type 0
Plain f deep = AtNames (λ k p. step place.Done f deep k ≡ keeping role.Plain (Past p))

plain-names : (f : Frame) (deep : Bool) → takes_instrs f ≡ true → Plain f deep
plain-names frame.FuncStart true e = (refl, refl, refl, refl, refl, refl, refl)
plain-names frame.FuncStart false e = (refl, refl, refl, refl, refl, refl, refl)
plain-names frame.FuncHead true e = (refl, refl, refl, refl, refl, refl, refl)
plain-names frame.FuncHead false e = (refl, refl, refl, refl, refl, refl, refl)
plain-names frame.Func true e = (refl, refl, refl, refl, refl, refl, refl)
plain-names frame.Func false e = (refl, refl, refl, refl, refl, refl, refl)
plain-names frame.ElemOffset true e = (refl, refl, refl, refl, refl, refl, refl)
plain-names frame.ElemOffset false e = (refl, refl, refl, refl, refl, refl, refl)
plain-names frame.DataOffset true e = (refl, refl, refl, refl, refl, refl, refl)
plain-names frame.DataOffset false e = (refl, refl, refl, refl, refl, refl, refl)
plain-names frame.Region true e = (refl, refl, refl, refl, refl, refl, refl)
plain-names frame.Region false e = (refl, refl, refl, refl, refl, refl, refl)
plain-names frame.First true e = (refl, refl, refl, refl, refl, refl, refl)
plain-names frame.First false e = (refl, refl, refl, refl, refl, refl, refl)
plain-names frame.FoldedRegion true e = (refl, refl, refl, refl, refl, refl, refl)
plain-names frame.FoldedRegion false e = (refl, refl, refl, refl, refl, refl, refl)
plain-names frame.Then true e = (refl, refl, refl, refl, refl, refl, refl)
plain-names frame.Then false e = (refl, refl, refl, refl, refl, refl, refl)
plain-names frame.Else true e = (refl, refl, refl, refl, refl, refl, refl)
plain-names frame.Else false e = (refl, refl, refl, refl, refl, refl, refl)
plain-names _ deep e = absurd cc

-- behind any such parenthesis as where no part is left
opened-name : (q : Place) (f : Frame) (deep : Bool) → is_opened q ≡ true
    → AtNames (λ k p. step q f deep k ≡ step place.OpenDone f deep k)
opened-name place.OpenDone f deep e = (refl, refl, refl, refl, refl, refl, refl)
opened-name place.OpenUses f deep e = (refl, refl, refl, refl, refl, refl, refl)
opened-name place.OpenParams f deep e = (refl, refl, refl, refl, refl, refl, refl)
opened-name place.OpenResults f deep e = (refl, refl, refl, refl, refl, refl, refl)
opened-name _ f deep e = absurd cc

abbrev Held : Frame → Type 0
Held f = AtNames (λ k p. step place.OpenDone f false k ≡ keeping role.HeldPlain (Into p frame.Held))

held-names : (f : Frame) → takes_folded f ≡ true → Held f
held-names frame.FuncStart e = (refl, refl, refl, refl, refl, refl, refl)
held-names frame.FuncHead e = (refl, refl, refl, refl, refl, refl, refl)
held-names frame.Func e = (refl, refl, refl, refl, refl, refl, refl)
held-names frame.Elem e = (refl, refl, refl, refl, refl, refl, refl)
held-names frame.ElemOffset e = (refl, refl, refl, refl, refl, refl, refl)
held-names frame.Data e = (refl, refl, refl, refl, refl, refl, refl)
held-names frame.DataOffset e = (refl, refl, refl, refl, refl, refl, refl)
held-names frame.Region e = (refl, refl, refl, refl, refl, refl, refl)
held-names frame.First e = (refl, refl, refl, refl, refl, refl, refl)
held-names frame.FoldedRegion e = (refl, refl, refl, refl, refl, refl, refl)
held-names frame.Held e = (refl, refl, refl, refl, refl, refl, refl)
held-names frame.Asked e = (refl, refl, refl, refl, refl, refl, refl)
held-names frame.Then e = (refl, refl, refl, refl, refl, refl, refl)
held-names frame.Else e = (refl, refl, refl, refl, refl, refl, refl)
held-names _ e = absurd cc

-- the names of blocks
abbrev pub AtBlocks : (Kind → Frame → Type 0) → Type 0
AtBlocks P = P kind.Region frame.Region × P kind.If frame.First

at-block : (P : Kind → Frame → Type 0) (k : Kind) (g : Frame) → begun_frame k ≡ Some g → AtBlocks P → P k g
at-block P kind.Region g e h = let f : frame.Region ≡ g = cc in subst (λ (x : Frame). P kind.Region x) f h.0
at-block P kind.If g e h = let f : frame.First ≡ g = cc in subst (λ (x : Frame). P kind.If x) f h.1
at-block P _ g e h = absurd cc

abbrev Begins : Frame → Type 0
Begins f = AtBlocks (λ k g. step place.Done f false k ≡ keeping role.Begin (Into place.Label g))

begins : (f : Frame) → takes_instrs f ≡ true → Begins f
begins frame.FuncStart e = (refl, refl)
begins frame.FuncHead e = (refl, refl)
begins frame.Func e = (refl, refl)
begins frame.ElemOffset e = (refl, refl)
begins frame.DataOffset e = (refl, refl)
begins frame.Region e = (refl, refl)
begins frame.First e = (refl, refl)
begins frame.FoldedRegion e = (refl, refl)
begins frame.Then e = (refl, refl)
begins frame.Else e = (refl, refl)
begins _ e = absurd cc

ends : (f : Frame) (deep : Bool) → ends_by_word f ≡ true
    → step place.Done f deep kind.EndWord ≡ keeping role.End (Out place.EndLabel)
ends frame.Region deep e = refl
ends frame.First deep e = refl
ends _ deep e = absurd cc

opens : (f : Frame) (deep : Bool) → takes_open f ≡ true
    → step place.Done f deep kind.Open ≡ dropping (On place.OpenDone)
opens frame.FuncStart true e = refl
opens frame.FuncStart false e = refl
opens frame.FuncHead true e = refl
opens frame.FuncHead false e = refl
opens frame.Func true e = refl
opens frame.Func false e = refl
opens frame.ElemOffset true e = refl
opens frame.ElemOffset false e = refl
opens frame.DataOffset true e = refl
opens frame.DataOffset false e = refl
opens frame.Region true e = refl
opens frame.Region false e = refl
opens frame.First true e = refl
opens frame.First false e = refl
opens frame.FoldedRegion true e = refl
opens frame.FoldedRegion false e = refl
opens frame.Held deep e = refl
opens frame.Module deep e = refl
opens frame.Fields deep e = refl
opens frame.Then true e = refl
opens frame.Then false e = refl
opens frame.Else true e = refl
opens frame.Else false e = refl
opens _ deep e = absurd cc

part-opens : (q p : Place) (f : Frame) (deep : Bool) → opened_part q ≡ Some p
    → step q f deep kind.Open ≡ dropping (On p)
part-opens place.Label p f deep e = let h : place.OpenUses ≡ p = cc in ap (λ (x : Place). dropping (On x)) h
part-opens place.Uses p f deep e = let h : place.OpenUses ≡ p = cc in ap (λ (x : Place). dropping (On x)) h
part-opens place.FuncId p f deep e = let h : place.OpenUses ≡ p = cc in ap (λ (x : Place). dropping (On x)) h
part-opens place.Params p f deep e = let h : place.OpenParams ≡ p = cc in ap (λ (x : Place). dropping (On x)) h
part-opens place.Results p f deep e = let h : place.OpenResults ≡ p = cc in ap (λ (x : Place). dropping (On x)) h
part-opens place.ExportedId p f deep e = let h : place.OpenExports ≡ p = cc in ap (λ (x : Place). dropping (On x)) h
part-opens place.Exports p f deep e = let h : place.OpenExports ≡ p = cc in ap (λ (x : Place). dropping (On x)) h
part-opens _ p f deep e = absurd cc

index-leads : (q p : Place) (f : Frame) (deep : Bool) (k : Kind) → behind_index q k ≡ Some p
    → step q f deep k ≡ keeping role.Index (On p)
index-leads place.Index p f deep kind.Natural32 e =
    let h : place.Done ≡ p = cc in ap (λ (x : Place). keeping role.Index (On x)) h
index-leads place.Index p f deep kind.Id e =
    let h : place.Done ≡ p = cc in ap (λ (x : Place). keeping role.Index (On x)) h
index-leads place.Index p f deep _ e = absurd cc
index-leads place.FirstIndex p f deep kind.Natural32 e =
    let h : place.Indices ≡ p = cc in ap (λ (x : Place). keeping role.Index (On x)) h
index-leads place.FirstIndex p f deep kind.Id e =
    let h : place.Indices ≡ p = cc in ap (λ (x : Place). keeping role.Index (On x)) h
index-leads place.FirstIndex p f deep _ e = absurd cc
index-leads place.Indices p f deep kind.Natural32 e =
    let h : place.Indices ≡ p = cc in ap (λ (x : Place). keeping role.Index (On x)) h
index-leads place.Indices p f deep kind.Id e =
    let h : place.Indices ≡ p = cc in ap (λ (x : Place). keeping role.Index (On x)) h
index-leads place.Indices p f deep _ e = absurd cc
index-leads _ p f deep k e = absurd cc

literal-leads : (q : Place) (f : Frame) (deep : Bool) (k : Kind) → is_literal q k ≡ true
    → step q f deep k ≡ keeping role.Literal (On place.Done)
literal-leads place.Literal32 f deep kind.Natural32 e = refl
literal-leads place.Literal32 f deep kind.Signed32 e = refl
literal-leads place.Literal32 f deep _ e = absurd cc
literal-leads place.Literal64 f deep kind.Natural32 e = refl
literal-leads place.Literal64 f deep kind.Signed32 e = refl
literal-leads place.Literal64 f deep _ e = absurd cc
literal-leads _ f deep k e = absurd cc

offset-leads : (q : Place) (f : Frame) (deep : Bool) (k : Kind) → is_offset q k ≡ true
    → step q f deep k ≡ keeping role.MemOffset (On place.MemAlign)
offset-leads place.MemOffset f deep kind.MemOffset e = refl
offset-leads place.MemOffset f deep _ e = absurd cc
offset-leads _ f deep k e = absurd cc

align-leads : (q : Place) (f : Frame) (deep : Bool) (k : Kind) → is_align q k ≡ true
    → step q f deep k ≡ keeping role.MemAlign (On place.Done)
align-leads place.MemOffset f deep kind.MemAlign e = refl
align-leads place.MemOffset f deep _ e = absurd cc
align-leads place.MemAlign f deep kind.MemAlign e = refl
align-leads place.MemAlign f deep _ e = absurd cc
align-leads _ f deep k e = absurd cc

held-is : (f : Frame) → is_held f ≡ true → f ≡ frame.Held
held-is frame.Held e = refl
held-is _ e = absurd cc

-- ---- readers

-- such a token is read
pub usual-by : (n q : ℕ) (ks : List Kind) (es : List Event) (s t u : Standing) (k : Kind) (o : Option Role) (g : Move)
    → t ≡ s → action_at t k ≡ Some (record { keep = o; go = g }) → u ≡ moved g t → IsRead n ks es s → q ≡ length ks
    → IsRead n (ks ++ k ∷ []) (es ++ kept_as o q k) u
usual-by n q ks es s t u k o g e h i r j =
    rw (j, i) (one_read k (record { keep = o; go = g }) (subst (λ (x : Standing). IsRead n ks es x) (sym e) r) h)

pub plain-at : (s : Standing) (k : Kind) (p : Place) → behind_name k ≡ Some p → takes_name s.place ≡ true
    → takes_instrs s.frame ≡ true → action_at s k ≡ keeping role.Plain (Past p)
plain-at s k p e f t =
    at-name (λ k p. step s.place s.frame (is_deep s) k ≡ step place.Done s.frame (is_deep s) k) k p e
    (free-name s.place s.frame (is_deep s) f)
    ∙ at-name (λ k p. step place.Done s.frame (is_deep s) k ≡ keeping role.Plain (Past p)) k p e
    (plain-names s.frame (is_deep s) t)

pub held-at : (s : Standing) (k : Kind) (p : Place) → behind_name k ≡ Some p → is_opened s.place ≡ true
    → takes_folded s.frame ≡ true → is_deep s ≡ false → action_at s k ≡ keeping role.HeldPlain (Into p frame.Held)
held-at s k p e f t d =
    at-name (λ k p. step s.place s.frame (is_deep s) k ≡ step place.OpenDone s.frame (is_deep s) k) k p e
    (opened-name s.place s.frame (is_deep s) f)
    ∙ ap (λ (b : Bool). step place.OpenDone s.frame b k) d
    ∙ at-name (λ k p. step place.OpenDone s.frame false k ≡ keeping role.HeldPlain (Into p frame.Held)) k p e
    (held-names s.frame t)

pub begin-at : (s : Standing) (k : Kind) (g : Frame) → begun_frame k ≡ Some g → takes_name s.place ≡ true
    → takes_instrs s.frame ≡ true → is_deep s ≡ false → action_at s k ≡ keeping role.Begin (Into place.Label g)
begin-at s k g e f t d =
    let h = free-block s.place s.frame (is_deep s) f in
    at-block (λ k g. step s.place s.frame (is_deep s) k ≡ step place.Done s.frame (is_deep s) k) k g e (h.0, h.1)
    ∙ ap (λ (b : Bool). step place.Done s.frame b k) d
    ∙ at-block (λ k g. step place.Done s.frame false k ≡ keeping role.Begin (Into place.Label g)) k g e
    (begins s.frame t)

pub end-at : (s : Standing) → takes_name s.place ≡ true → ends_by_word s.frame ≡ true
    → action_at s kind.EndWord ≡ keeping role.End (Out place.EndLabel)
end-at s f t = (free-block s.place s.frame (is_deep s) f).2 ∙ ends s.frame (is_deep s) t

pub open-at : (s : Standing) → is_free s.place ≡ true → takes_open s.frame ≡ true
    → action_at s kind.Open ≡ dropping (On place.OpenDone)
open-at s f t = (free-open s.place s.frame (is_deep s) f).0 ∙ opens s.frame (is_deep s) t

pub held-end-at : (s : Standing) → is_free s.place ≡ true → is_held s.frame ≡ true
    → action_at s kind.Close ≡ keeping role.HeldEnd (Out place.Done)
held-end-at s f t =
    (free-open s.place s.frame (is_deep s) f).1 ∙ ap (λ (g : Frame).
    step place.Done g (is_deep s) kind.Close) (held-is s.frame t)

pub part-at : (s : Standing) (p : Place) → opened_part s.place ≡ Some p → action_at s kind.Open ≡ dropping (On p)
part-at s p e = part-opens s.place p s.frame (is_deep s) e

pub index-at : (s : Standing) (k : Kind) (p : Place) → behind_index s.place k ≡ Some p
    → action_at s k ≡ keeping role.Index (On p)
index-at s k p e = index-leads s.place p s.frame (is_deep s) k e

pub literal-at : (s : Standing) (k : Kind) → is_literal s.place k ≡ true
    → action_at s k ≡ keeping role.Literal (On place.Done)
literal-at s k e = literal-leads s.place s.frame (is_deep s) k e

pub offset-at : (s : Standing) (k : Kind) → is_offset s.place k ≡ true
    → action_at s k ≡ keeping role.MemOffset (On place.MemAlign)
offset-at s k e = offset-leads s.place s.frame (is_deep s) k e

pub align-at : (s : Standing) (k : Kind) → is_align s.place k ≡ true
    → action_at s k ≡ keeping role.MemAlign (On place.Done)
align-at s k e = align-leads s.place s.frame (is_deep s) k e

-- what the place itself takes is read
pub part-by : (n q : ℕ) (ks : List Kind) (es : List Event) (s t u : Standing) (k : Kind) (r : Option Action)
    (a : Action)
    (p : Place) → t ≡ s → r ≡ find (place_rows t.place) k → r ≡ Some a → a.go ≡ On p → u ≡ moved (On p) t
    → IsRead n ks es s → q ≡ length ks → IsRead n (ks ++ k ∷ []) (es ++ kept_as a.keep q k) u
part-by n q ks es s t u k r a p e f h g i j l =
    usual-by n q ks es s t u k a.keep (On p) e
    (ap (λ (x : Option Action). or_else x (step_rest (rest_of t.place) t.frame (is_deep t) k)) (sym f ∙ h)
    ∙ ap (λ (m : Move). Some (record { keep = a.keep; go = m })) g)
    i j l
