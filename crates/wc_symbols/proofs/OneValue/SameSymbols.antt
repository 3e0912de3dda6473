-- A token is one symbol.
use Rattle.std.proofs.Common.{◌≡◌, ℕ, List, ◌++◌, codes, refl, sym, subst, ◌∙◌}
use Rattle.wc_symbols.specs.declared.symbol.Symbol.{Symbol}
use Rattle.wc_symbols.specs.declared.shape.Shape.{Shape}
use Rattle.wc_symbols.specs.declared.shape.Shape.TheVariants as shape
use Rattle.wc_symbols.specs.Standard.Numbers.{OffsetIs, AlignIs}
use Rattle.wc_symbols.specs.Standard.Words.{WordIs, known, other}
use Rattle.wc_symbols.specs.Reading.Shapes.{shape_of}
use Rattle.wc_symbols.proofs.Spelling.WordLemmas.{SaysAs, says-as}
use Rattle.wc_symbols.proofs.OneValue.SameNumbers.{NaturalIs-same, SignedIs-same, OffsetIs-same, AlignIs-same}
use Rattle.wc_symbols.proofs.OneValue.SameNames.{NameIs-same}

SaysAs-same : (x : Shape) (text : List ℕ) (s o : Symbol) → SaysAs x text s → SaysAs x text o → s ≡ o
SaysAs-same shape.Natural text s o h k = NaturalIs-same h k
SaysAs-same shape.Plus text s o h k = SignedIs-same h k
SaysAs-same shape.Minus text s o h k = SignedIs-same h k
SaysAs-same shape.Offset text s o h k =
    let both : codes "offset=" ++ h.0 ≡ codes "offset=" ++ k.0 = sym h.1 ∙ k.1 in
    let same : h.0 ≡ k.0 = cc in
    OffsetIs-same h.2 (subst (λ (t : List ℕ). OffsetIs t o) (sym same) k.2)
SaysAs-same shape.Align text s o h k =
    let both : codes "align=" ++ h.0 ≡ codes "align=" ++ k.0 = sym h.1 ∙ k.1 in
    let same : h.0 ≡ k.0 = cc in
    AlignIs-same h.2 (subst (λ (t : List ℕ). AlignIs t o) (sym same) k.2)
SaysAs-same shape.Name text s o h k = NameIs-same h k

pub WordIs-same : {text : List ℕ} {s o : Symbol} → WordIs text s → WordIs text o → s ≡ o
WordIs-same {text} {s} {o} (known h) (known k) = SaysAs-same (shape_of text) text s o (says-as h) (says-as k)
WordIs-same (known h) (other n) = absurd (n _ h)
WordIs-same (other n) (known k) = absurd (n _ k)
WordIs-same (other n) (other m) = refl
