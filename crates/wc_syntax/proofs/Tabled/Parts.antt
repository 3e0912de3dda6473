-- Where the most usual tokens of fields and of type uses lead, the table leads.
use Rattle.std.proofs.Common.{◌≡◌, Bool, true, Some, refl, ap, ◌∙◌}
use Rattle.wc_syntax.specs.declared.kind.Kind.{Kind}
use Rattle.wc_syntax.specs.declared.kind.Kind.TheVariants as kind
use Rattle.wc_syntax.specs.declared.role.Role.{Role}
use Rattle.wc_syntax.specs.declared.role.Role.TheVariants as role
use Rattle.wc_syntax.specs.declared.place.Place.{Place}
use Rattle.wc_syntax.specs.declared.place.Place.TheVariants as place
use Rattle.wc_syntax.specs.declared.place.Frame.{Frame}
use Rattle.wc_syntax.specs.declared.place.Frame.TheVariants as frame
use Rattle.wc_syntax.specs.declared.place.Move.TheVariants.{On, Turn, Into, Out}
use Rattle.wc_syntax.specs.Tables.Table.{step, rest_of, is_in_frame}
use Rattle.wc_syntax.specs.Tables.Parts.{ends_field, behind_part, begun_part, opens_func, first_part}
use Rattle.wc_syntax.specs.Tables.Parts.{opens_field, type_role, behind_type, is_type_index}
use Rattle.wc_syntax.specs.Standard.Reading.{Standing, is_deep, action_at}
use Rattle.wc_syntax.proofs.Tabled.Usual.{keeping, dropping}

part-ends : (q p : Place) (f : Frame) (deep : Bool) → behind_part q ≡ Some p
    → step q f deep kind.Close ≡ dropping (On p)
part-ends place.UseEnd p f deep e = let h : place.Params ≡ p = cc in ap (λ (x : Place). dropping (On x)) h
part-ends place.Param p f deep e = let h : place.Params ≡ p = cc in ap (λ (x : Place). dropping (On x)) h
part-ends place.ParamEnd p f deep e = let h : place.Params ≡ p = cc in ap (λ (x : Place). dropping (On x)) h
part-ends place.ParamTypes p f deep e = let h : place.Params ≡ p = cc in ap (λ (x : Place). dropping (On x)) h
part-ends place.ResultTypes p f deep e = let h : place.Results ≡ p = cc in ap (λ (x : Place). dropping (On x)) h
part-ends place.InlineExportEnd p f deep e = let h : place.Exports ≡ p = cc in ap (λ (x : Place). dropping (On x)) h
part-ends place.MutableEnd p f deep e = let h : place.Done ≡ p = cc in ap (λ (x : Place). dropping (On x)) h
part-ends place.TableElements p f deep e = let h : place.Done ≡ p = cc in ap (λ (x : Place). dropping (On x)) h
part-ends place.MemoryStrings p f deep e = let h : place.Done ≡ p = cc in ap (λ (x : Place). dropping (On x)) h
part-ends place.ExportEnd p f deep e = let h : place.Done ≡ p = cc in ap (λ (x : Place). dropping (On x)) h
part-ends place.Local p f deep e = let h : place.Done ≡ p = cc in ap (λ (x : Place). dropping (On x)) h
part-ends place.LocalEnd p f deep e = let h : place.Done ≡ p = cc in ap (λ (x : Place). dropping (On x)) h
part-ends place.LocalTypes p f deep e = let h : place.Done ≡ p = cc in ap (λ (x : Place). dropping (On x)) h
part-ends _ p f deep e = absurd cc

-- where no part has to follow as where none is left
free-close : (q : Place) (f : Frame) (deep : Bool) → is_in_frame (rest_of q) ≡ true
    → step q f deep kind.Close ≡ step place.Done f deep kind.Close
free-close place.Done f deep e = refl
free-close place.Uses f deep e = refl
free-close place.Params f deep e = refl
free-close place.Results f deep e = refl
free-close place.Label f deep e = refl
free-close place.EndLabel f deep e = refl
free-close place.Indices f deep e = refl
free-close place.MemOffset f deep e = refl
free-close place.MemAlign f deep e = refl
free-close place.ModuleId f deep e = refl
free-close place.ExportedId f deep e = refl
free-close place.Exports f deep e = refl
free-close place.FuncId f deep e = refl
free-close place.Max f deep e = refl
free-close place.SegmentIndex f deep e = refl
free-close _ f deep e = absurd cc

field-ends : (f : Frame) (deep : Bool) → ends_field f ≡ true
    → step place.Done f deep kind.Close ≡ keeping role.FieldEnd (Out place.Done)
field-ends frame.Field deep e = refl
field-ends frame.FuncStart deep e = refl
field-ends frame.FuncHead deep e = refl
field-ends frame.Func deep e = refl
field-ends frame.ElemTail deep e = refl
field-ends frame.Elements deep e = refl
field-ends frame.Strings deep e = refl
field-ends _ deep e = absurd cc

part-begins : (q p : Place) (f : Frame) (deep : Bool) (k : Kind) → begun_part q k ≡ Some p
    → step q f deep k ≡ dropping (On p)
part-begins place.OpenUses p f deep kind.TypeWord e =
    let h : place.UseIndex ≡ p = cc in ap (λ (x : Place). dropping (On x)) h
part-begins place.OpenUses p f deep kind.ParamWord e =
    let h : place.Param ≡ p = cc in ap (λ (x : Place). dropping (On x)) h
part-begins place.OpenUses p f deep kind.ResultWord e =
    let h : place.ResultTypes ≡ p = cc in ap (λ (x : Place). dropping (On x)) h
part-begins place.OpenUses p f deep _ e = absurd cc
part-begins place.OpenParams p f deep kind.ParamWord e =
    let h : place.Param ≡ p = cc in ap (λ (x : Place). dropping (On x)) h
part-begins place.OpenParams p f deep kind.ResultWord e =
    let h : place.ResultTypes ≡ p = cc in ap (λ (x : Place). dropping (On x)) h
part-begins place.OpenParams p f deep _ e = absurd cc
part-begins place.OpenResults p f deep kind.ResultWord e =
    let h : place.ResultTypes ≡ p = cc in ap (λ (x : Place). dropping (On x)) h
part-begins place.OpenResults p f deep _ e = absurd cc
part-begins _ p f deep k e = absurd cc

func-begins : (q p : Place) (f : Frame) (deep : Bool) (k : Kind) → opens_func q f ≡ true → first_part k ≡ Some p
    → step q f deep k ≡ dropping (Turn p frame.FuncHead)
func-begins place.OpenExports p frame.FuncStart deep kind.TypeWord d e =
    let h : place.UseIndex ≡ p = cc in ap (λ (x : Place). dropping (Turn x frame.FuncHead)) h
func-begins place.OpenExports p frame.FuncStart deep kind.ParamWord d e =
    let h : place.Param ≡ p = cc in ap (λ (x : Place). dropping (Turn x frame.FuncHead)) h
func-begins place.OpenExports p frame.FuncStart deep kind.ResultWord d e =
    let h : place.ResultTypes ≡ p = cc in ap (λ (x : Place). dropping (Turn x frame.FuncHead)) h
func-begins place.OpenExports p frame.FuncStart deep kind.LocalWord d e =
    let h : place.Local ≡ p = cc in ap (λ (x : Place). dropping (Turn x frame.FuncHead)) h
func-begins place.OpenExports p frame.FuncStart deep _ d e = absurd cc
func-begins place.OpenExports p _ deep k d e = absurd cc
func-begins _ p f deep k d e = absurd cc

field-begins : (q : Place) (f : Frame) (deep : Bool) → opens_field q f ≡ true
    → step q f deep kind.FuncWord ≡ keeping role.Field (Into place.ExportedId frame.FuncStart)
field-begins place.OpenDone frame.Start deep e = refl
field-begins place.OpenDone frame.Fields deep e = refl
field-begins place.OpenDone frame.Module deep e = refl
field-begins place.OpenDone _ deep e = absurd cc
field-begins _ f deep e = absurd cc

type-leads : (q : Place) (r : Role) (f : Frame) (deep : Bool) → type_role q ≡ Some r
    → step q f deep kind.ValType ≡ keeping r (On (behind_type q))
type-leads place.Param r f deep e =
    let h : role.ParamType ≡ r = cc in ap (λ (x : Role). keeping x (On place.ParamTypes)) h
type-leads place.NamedParam r f deep e =
    let h : role.ParamType ≡ r = cc in ap (λ (x : Role). keeping x (On place.ParamEnd)) h
type-leads place.ParamTypes r f deep e =
    let h : role.ParamType ≡ r = cc in ap (λ (x : Role). keeping x (On place.ParamTypes)) h
type-leads place.ResultTypes r f deep e =
    let h : role.ResultType ≡ r = cc in ap (λ (x : Role). keeping x (On place.ResultTypes)) h
type-leads place.Local r f deep e =
    let h : role.LocalType ≡ r = cc in ap (λ (x : Role). keeping x (On place.LocalTypes)) h
type-leads place.NamedLocal r f deep e =
    let h : role.LocalType ≡ r = cc in ap (λ (x : Role). keeping x (On place.LocalEnd)) h
type-leads place.LocalTypes r f deep e =
    let h : role.LocalType ≡ r = cc in ap (λ (x : Role). keeping x (On place.LocalTypes)) h
type-leads _ r f deep e = absurd cc

type-index-leads : (q : Place) (f : Frame) (deep : Bool) (k : Kind) → is_type_index q k ≡ true
    → step q f deep k ≡ keeping role.TypeIndex (On place.UseEnd)
type-index-leads place.UseIndex f deep kind.Natural32 e = refl
type-index-leads place.UseIndex f deep kind.Id e = refl
type-index-leads place.UseIndex f deep _ e = absurd cc
type-index-leads _ f deep k e = absurd cc

-- ---- readers

pub part-end-at : (s : Standing) (p : Place) → behind_part s.place ≡ Some p → action_at s kind.Close ≡ dropping (On p)
part-end-at s p e = part-ends s.place p s.frame (is_deep s) e

pub field-end-at : (s : Standing) → is_in_frame (rest_of s.place) ≡ true → ends_field s.frame ≡ true
    → action_at s kind.Close ≡ keeping role.FieldEnd (Out place.Done)
field-end-at s f t = free-close s.place s.frame (is_deep s) f ∙ field-ends s.frame (is_deep s) t

pub part-word-at : (s : Standing) (k : Kind) (p : Place) → begun_part s.place k ≡ Some p
    → action_at s k ≡ dropping (On p)
part-word-at s k p e = part-begins s.place p s.frame (is_deep s) k e

pub first-word-at : (s : Standing) (k : Kind) (p : Place) → opens_func s.place s.frame ≡ true → first_part k ≡ Some p
    → action_at s k ≡ dropping (Turn p frame.FuncHead)
first-word-at s k p d e = func-begins s.place p s.frame (is_deep s) k d e

pub func-at : (s : Standing) → opens_field s.place s.frame ≡ true
    → action_at s kind.FuncWord ≡ keeping role.Field (Into place.ExportedId frame.FuncStart)
func-at s e = field-begins s.place s.frame (is_deep s) e

pub type-at : (s : Standing) (r : Role) → type_role s.place ≡ Some r
    → action_at s kind.ValType ≡ keeping r (On (behind_type s.place))
type-at s r e = type-leads s.place r s.frame (is_deep s) e

pub type-index-at : (s : Standing) (k : Kind) → is_type_index s.place k ≡ true
    → action_at s k ≡ keeping role.TypeIndex (On place.UseEnd)
type-index-at s k e = type-index-leads s.place s.frame (is_deep s) k e
