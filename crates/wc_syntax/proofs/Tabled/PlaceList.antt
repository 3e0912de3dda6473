-- The places, in a list.
use Rattle.std.proofs.Common.{◌≡◌, ℕ, zero, suc, Bool, true, false, cond, List, [], ◌∷◌, map, refl, ap}
use Rattle.wc_syntax.specs.declared.place.Place.{Place}
use Rattle.wc_syntax.specs.declared.place.Place.TheVariants as place
use Rattle.wc_syntax.specs.declared.place.Frame.{Frame}
use Rattle.wc_syntax.proofs.Tabled.Validity.{valid}

abbrev pub all-places : List Place
all-places =
    place.Done ∷ place.OpenDone ∷ place.Uses ∷ place.OpenUses ∷ place.UseIndex ∷ place.UseEnd ∷ place.Params ∷
    place.OpenParams ∷ place.Param ∷ place.NamedParam ∷ place.ParamEnd ∷ place.ParamTypes ∷ place.Results ∷
    place.OpenResults ∷ place.ResultTypes ∷ place.Label ∷ place.EndLabel ∷ place.Index ∷ place.FirstIndex ∷
    place.Indices ∷ place.MemOffset ∷ place.MemAlign ∷ place.Literal32 ∷ place.Literal64 ∷ place.ModuleId ∷
    place.ExportedId ∷ place.Exports ∷ place.OpenExports ∷ place.InlineExportName ∷ place.InlineExportEnd ∷
    place.TypeId ∷ place.TypeFunc ∷ place.OpenTypeFunc ∷ place.ModuleName ∷ place.ItemName ∷ place.FuncId ∷
    place.TableId ∷ place.MemoryId ∷ place.GlobalId ∷ place.TableMin ∷ place.TableMax ∷ place.Funcref ∷
    place.Min ∷ place.Max ∷ place.GlobalType ∷ place.OpenGlobalType ∷ place.MutableType ∷ place.MutableEnd ∷
    place.TableElem ∷ place.OpenTableElem ∷ place.TableElements ∷ place.MemoryStrings ∷ place.ExportName ∷
    place.ExportDescription ∷ place.OpenExportDescription ∷ place.ExportIndex ∷ place.ExportEnd ∷
    place.StartIndex ∷ place.SegmentIndex ∷ place.Local ∷ place.NamedLocal ∷ place.LocalEnd ∷
    place.LocalTypes ∷ []

-- where a place stands in the list
abbrev pub number : Place → ℕ
number place.Done = 0
number place.OpenDone = 1
number place.Uses = 2
number place.OpenUses = 3
number place.UseIndex = 4
number place.UseEnd = 5
number place.Params = 6
number place.OpenParams = 7
number place.Param = 8
number place.NamedParam = 9
number place.ParamEnd = 10
number place.ParamTypes = 11
number place.Results = 12
number place.OpenResults = 13
number place.ResultTypes = 14
number place.Label = 15
number place.EndLabel = 16
number place.Index = 17
number place.FirstIndex = 18
number place.Indices = 19
number place.MemOffset = 20
number place.MemAlign = 21
number place.Literal32 = 22
number place.Literal64 = 23
number place.ModuleId = 24
number place.ExportedId = 25
number place.Exports = 26
number place.OpenExports = 27
number place.InlineExportName = 28
number place.InlineExportEnd = 29
number place.TypeId = 30
number place.TypeFunc = 31
number place.OpenTypeFunc = 32
number place.ModuleName = 33
number place.ItemName = 34
number place.FuncId = 35
number place.TableId = 36
number place.MemoryId = 37
number place.GlobalId = 38
number place.TableMin = 39
number place.TableMax = 40
number place.Funcref = 41
number place.Min = 42
number place.Max = 43
number place.GlobalType = 44
number place.OpenGlobalType = 45
number place.MutableType = 46
number place.MutableEnd = 47
number place.TableElem = 48
number place.OpenTableElem = 49
number place.TableElements = 50
number place.MemoryStrings = 51
number place.ExportName = 52
number place.ExportDescription = 53
number place.OpenExportDescription = 54
number place.ExportIndex = 55
number place.ExportEnd = 56
number place.StartIndex = 57
number place.SegmentIndex = 58
number place.Local = 59
number place.NamedLocal = 60
number place.LocalEnd = 61
number place.LocalTypes = 62

-- it has this number in the list
abbrev Has : ℕ → Place → List Place → Type 0
Has n p [] = ⊥
Has zero p (q ∷ qs) = q ≡ p
Has (suc n) p (q ∷ qs) = Has n p qs

listed : (p : Place) → Has (number p) p all-places
listed place.Done = refl
listed _ = refl

-- those that may stand over the frame
abbrev pub over-frame : Frame → List Place → List Place
over-frame f [] = []
over-frame f (p ∷ ps) = cond (valid p f) (p ∷ over-frame f ps) (over-frame f ps)

abbrev first-of : {A : Type 0} → A → List A → A
first-of a [] = a
first-of a (x ∷ xs) = x

abbrev others-of : {A : Type 0} → List A → List A
others-of [] = []
others-of (x ∷ xs) = xs

-- what holds of all of them holds of each
pub at-place : {A : Type 0} (g h : Place → A) (f : Frame)
    → map g (over-frame f all-places) ≡ map h (over-frame f all-places) → (p : Place) → valid p f ≡ true → g p ≡ h p
at-place {A} g h f e p v = go (number p) all-places (listed p) e
  where
    first : (q : Place) (b : Bool) (qs : List Place) → b ≡ true
        → map g (cond b (q ∷ qs) qs) ≡ map h (cond b (q ∷ qs) qs)
        → g q ≡ h q
    first q true qs is e = ap (λ (l : List A). first-of (g q) l) e
    first q false qs is e = absurd cc

    others : (q : Place) (b : Bool) (qs : List Place) → map g (cond b (q ∷ qs) qs) ≡ map h (cond b (q ∷ qs) qs)
        → map g qs ≡ map h qs
    others q true qs e = ap (λ (l : List A). others-of l) e
    others q false qs e = e

    go : (n : ℕ) (ps : List Place) → Has n p ps → map g (over-frame f ps) ≡ map h (over-frame f ps) → g p ≡ h p
    go n [] has e = absurd has
    go zero (q ∷ qs) has e = rw (← has) (first q (valid q f) (over-frame f qs) (rw has v) e)
    go (suc n) (q ∷ qs) has e = go n qs has (others q (valid q f) (over-frame f qs) e)
