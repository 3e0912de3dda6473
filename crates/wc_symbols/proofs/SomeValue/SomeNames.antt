-- Each word is a name, or it is none.
use Rattle.std.proofs.Common.{◌≡◌, ℕ, Bool, true, false, List, [], ◌∷◌, Option, Some, None, if◌then◌else◌, refl, subst}
use Rattle.std.proofs.Common.{inl, inr}
use Rattle.std.specs.Str.{bytes_eq}
use Rattle.std.proofs.lemmas.Slice.Eq.{bytes_eq-Decides}
use Rattle.wc_ops.specs.declared.op.Op.{Op}
use Rattle.wc_ops.specs.Standard.Opcodes.{row}
use Rattle.wc_ops.specs.Reading.OpcodeMeaning.{all_ops}
use Rattle.wc_ops.specs.Standard.NameMeaning.{is_float_name}
use Rattle.wc_syntax.specs.declared.kind.Kind.TheVariants as kind
use Rattle.wc_symbols.specs.declared.symbol.Symbol.{Symbol}
use Rattle.wc_symbols.specs.declared.symbol.Value.TheVariants.{Instruction}
use Rattle.wc_symbols.specs.Standard.Symbols.{bare, valued, OrOther}
use Rattle.wc_symbols.specs.Standard.Names.{op_kind, KeywordIs, word, i32, i64, f32, f64, NameIs, keyword_is}
use Rattle.wc_symbols.specs.Standard.Names.{instruction, float}
use Rattle.wc_symbols.proofs.OneValue.SameNames.{Entry, keywords, find_keyword, find_op, KeywordIs-found, op-found}

infixr 5 ◌and◌
data AllAre : List Entry → Type 0 where
  done : AllAre []
  ◌and◌ : {x : Entry} {xs : List Entry} → KeywordIs x.text x.is → AllAre xs → AllAre (x ∷ xs)

keywords-are : AllAre keywords
keywords-are =
    word kind.ThenWord refl and word kind.ElseWord refl and word kind.EndWord refl and
    word kind.ModuleWord refl and word kind.TypeWord refl and word kind.ImportWord refl and
    word kind.FuncWord refl and word kind.TableWord refl and word kind.MemoryWord refl and
    word kind.GlobalWord refl and word kind.ExportWord refl and word kind.StartWord refl and
    word kind.ElemWord refl and word kind.DataWord refl and word kind.OffsetWord refl and
    word kind.LocalWord refl and word kind.ParamWord refl and word kind.ResultWord refl and
    word kind.MutWord refl and word kind.FuncrefWord refl and i32 and i64 and f32 and f64 and done

found-keyword : (xs : List Entry) → AllAre xs → (text : List ℕ) (s : Symbol) → find_keyword xs text ≡ Some s
    → KeywordIs text s
found-keyword [] are text s e = absurd cc
found-keyword (x ∷ xs) (h and are) text s e = go (bytes_eq x.text text) refl e (λ f. found-keyword xs are text s f)
  where
    go : (b : Bool) → bytes_eq x.text text ≡ b → (if b then Some x.is else find_keyword xs text) ≡ Some s
        → (find_keyword xs text ≡ Some s → KeywordIs text s) → KeywordIs text s
    go true q e later =
        let same : x.text ≡ text = (bytes_eq-Decides x.text text).0 q in
        let is : x.is ≡ s = cc in
        subst (λ (o : Symbol). KeywordIs text o) is (subst (λ (t : List ℕ). KeywordIs t x.is) same h)
    go false q e later = later e

found-op : (os : List Op) (text : List ℕ) (o : Op) → find_op os text ≡ Some o → (row o).name ≡ text
found-op [] text o e = absurd cc
found-op (p ∷ os) text o e = go (bytes_eq (row p).name text) refl e (λ f. found-op os text o f)
  where
    go : (b : Bool) → bytes_eq (row p).name text ≡ b → (if b then Some p else find_op os text) ≡ Some o
        → (find_op os text ≡ Some o → (row o).name ≡ text) → (row o).name ≡ text
    go true q e later =
        let same : (row p).name ≡ text = (bytes_eq-Decides (row p).name text).0 q in
        let is : p ≡ o = cc in
        subst (λ (x : Op). (row x).name ≡ text) is same
    go false q e later = later e

no-name : {text : List ℕ} {s : Symbol} → find_keyword keywords text ≡ None → find_op all_ops text ≡ None
    → is_float_name text ≡ false → NameIs text s → ⊥
no-name e f g (keyword_is k) = let a = KeywordIs-found k in absurd (cc (a.0, e))
no-name e f g (instruction {text = t} o q) = let a = op-found t o q in absurd (cc (a.0, f))
no-name e f g (float t) = absurd (cc (t, g))

pub some-name : (text : List ℕ) → (s : Symbol) × OrOther (NameIs text) s
some-name text = go (find_keyword keywords text) refl (find_op all_ops text) refl (is_float_name text) refl
  where
    go : (k : Option Symbol) → find_keyword keywords text ≡ k → (o : Option Op) → find_op all_ops text ≡ o → (b : Bool)
        → is_float_name text ≡ b → (s : Symbol) × OrOther (NameIs text) s
    go (Some s) e o f b g = (s, inl (keyword_is (found-keyword keywords keywords-are text s e)))
    go None e (Some o) f b g =
        (valued (op_kind o) (Instruction o), inl (instruction o (found-op all_ops text o f)))
    go None e None f true g = (bare kind.FloatName, inl (float g))
    go None e None f false g = (bare kind.OtherWord, inr ((λ o h. no-name e f g h), refl))
