-- Exports, and imports of functions, token by token.
use Rattle.std.proofs.Common.{◌≡◌, ℕ, ◌+◌, List, [], ◌∷◌, ◌++◌, true, Option, Some, None, refl, sym, ap, subst, arith}
use Rattle.wc_tokens.specs.declared.token.TokenKind.{TokenKind}
use Rattle.wc_tokens.specs.Standard.Streams.{Unread}
use Rattle.wc_syntax.specs.declared.kind.Kind.{Kind}
use Rattle.wc_syntax.specs.declared.kind.Kind.TheVariants as kind
use Rattle.wc_syntax.specs.declared.role.Role.TheVariants as role
use Rattle.wc_syntax.specs.declared.place.Place.{Place}
use Rattle.wc_syntax.specs.declared.place.Place.TheVariants as place
use Rattle.wc_syntax.specs.declared.place.Frame.{Frame}
use Rattle.wc_syntax.specs.declared.place.Frame.TheVariants as frame
use Rattle.wc_syntax.specs.declared.place.Move.TheVariants.{On}
use Rattle.wc_syntax.specs.Standard.Reading.{Standing, standing, action_at}
use Rattle.wc_syntax.specs.Tables.Parts.{is_between}
use Rattle.wc_syntax.proofs.Tabled.Usual.{keeping}
use Rattle.wc_symbols.specs.Standard.Symbols.{bare}
use Rattle.wc_surface.specs.declared.field.Field.{Field}
use Rattle.wc_surface.specs.declared.field.Field.TheVariants as field
use Rattle.wc_parse_code.specs.declared.word.Word.{Word}
use Rattle.wc_parse_field.specs.declared.field_draft.FieldDraft.{FieldDraft}
use Rattle.wc_surface.specs.Standard.Identifiers.{Identifier, identifier}
use Rattle.wc_parse_field.specs.Drafting.Fields.{started, unnamed, name_of}
use Rattle.wc_parse_field.specs.Drafting.Wholes.{exported, func_imported}
use Rattle.wc_parse.specs.declared.text_draft.TextDraft.{TextDraft}
use Rattle.wc_parse.specs.Kept.Passing.{Seen, seen, named, Begins, IsNamed, IsIndex, number, symbolic}
use Rattle.wc_parse.specs.Kept.Passing.{is_lendable, IsLent, IsAsked, IsTyped, none, more}
use Rattle.wc_parse.specs.Kept.Passing.{IsSeen, Runs, ended, goes, with_whole, SaysWhole}

-- ---- what the table does with the tokens that may be several

lends : (l : ℕ) (around : List Frame) (k : Kind) → is_lendable k ≡ true
    → action_at (standing l place.OpenExportDescription frame.Field around) k
    ≡ keeping role.Description (On place.ExportIndex)
lends l around kind.FuncWord h = refl
lends l around kind.TableWord h = refl
lends l around kind.MemoryWord h = refl
lends l around kind.GlobalWord h = refl
lends l around _ h = absurd cc

targets : (l : ℕ) (around : List Frame) (t : TokenKind) (k : Kind) → IsIndex t k
    → action_at (standing l place.ExportIndex frame.Field around) k ≡ keeping role.Target (On place.ExportEnd)
targets l around _ _ number = refl
targets l around _ _ symbolic = refl

types : (l : ℕ) (around : List Frame) (t : TokenKind) (k : Kind) → IsIndex t k
    → action_at (standing l place.UseIndex frame.Described around) k ≡ keeping role.TypeIndex (On place.UseEnd)
types l around _ _ number = refl
types l around _ _ symbolic = refl

-- no field so far
abbrev draft : List Field → TextDraft
draft fs = record { fields = fs; field = started kind.OtherWord 0 }

-- ---- exports

abbrev export_tokens : List ℕ → List ℕ → List ℕ → List ℕ → List ℕ → Kind → List ℕ → Word → List ℕ → List ℕ → List Seen
export_tokens a b c bytes d k e w f g =
    seen (bare kind.Open) a ∷ seen (bare kind.ExportWord) b ∷ named c bytes ∷ seen (bare kind.Open) d ∷
    seen (bare k) e ∷ seen w.symbol w.text ∷ seen (bare kind.Close) f ∷ seen (bare kind.Close) g ∷ []

module _ (n l : ℕ) (around : List Frame) (fs : List Field) (a b c bytes d : List ℕ) (k : Kind) (e : List ℕ) (w : Word)
    (f g : List ℕ) (can : is_lendable k ≡ true) (at : w.token ≡ n + 5) (t : TokenKind)
    (index : IsIndex t w.symbol.kind) where
  -- from behind the word of the field
  export-rest : (o : Frame)
      → Runs (named c bytes ∷ seen (bare kind.Open) d ∷ seen (bare k) e ∷ seen w.symbol w.text ∷
      seen (bare kind.Close) f ∷ seen (bare kind.Close) g ∷ []) (n + 2)
      (standing l place.ExportName frame.Field (o ∷ around))
      (record { fields = fs; field = started kind.ExportWord (n + 1) }) (standing l place.Done o around)
      (draft (fs ++ field.Export (exported bytes k w) ∷ []))
  export-rest o =
      (goes (n + 3) _ (omega arith) refl
      (goes (n + 4) _ (omega arith) refl
      (goes w.token _ (omega (arith, at)) (lends l (o ∷ around) k can)
      (goes (n + 6) _ (omega (arith, at)) (targets l (o ∷ around) t w.symbol.kind index)
      (goes (n + 7) _ (omega arith) refl
      (goes (n + 8) _ (omega arith) refl
      ended))))))

  export-from : (p : Place) (o : Frame) → is_between p o ≡ true
      → Runs (export_tokens a b c bytes d k e w f g) n (standing l p o around) (draft fs) (standing l p o around)
      (draft (fs ++ field.Export (exported bytes k w) ∷ []))
  export-from place.Done frame.Fields h =
      goes (n + 1) _ refl refl (goes (n + 2) _ (omega arith) refl (export-rest frame.Fields))
  export-from place.Done frame.Module h =
      goes (n + 1) _ refl refl (goes (n + 2) _ (omega arith) refl (export-rest frame.Module))
  export-from place.Done _ h = absurd cc
  export-from _ o h = absurd cc

-- the draft is of no field
whole-from : (xs : List Seen) (n : ℕ) (f : Field)
    → ((l : ℕ) (around : List Frame) (fs : List Field) (p : Place) (o : Frame) → is_between p o ≡ true
    → Runs xs n (standing l p o around) (draft fs) (standing l p o around) (draft (fs ++ f ∷ [])))
    → (s : Standing) (d : TextDraft) → is_between s.place s.frame ≡ true → d.field ≡ started kind.OtherWord 0
    → Runs xs n s d s (with_whole f d)
whole-from xs n f runs s d h fresh =
    subst
    (λ (x : FieldDraft).
    Runs xs n s (record { fields = d.fields; field = x }) s (record { fields = d.fields ++ f ∷ []; field = x }))
    (sym fresh) (runs s.limit s.around d.fields s.place s.frame h)

pub export-says : {u v x y : Unread} (n : ℕ) (bytes : List ℕ) (k : Kind) (w : Word) (f : Field)
    → Begins u kind.ExportWord v → IsNamed v bytes x → IsLent x (n + 3) k w y
    → f ≡ field.Export (exported bytes k w) → SaysWhole u n f 8 y
export-says n bytes k w f begin name lent e =
    let at : w.token ≡ n + 5 = omega (arith, lent.token) in
    rw e (record {
      xs = export_tokens begin.opens.0 begin.word.0 name.0 bytes lent.opens.0 k lent.word.0 w lent.first.0
          lent.second.0;
      are_seen = more begin.opens.1 (more begin.word.1 (more name.1 (more lent.opens.1 (more lent.word.1
          (more lent.target.seen
          (more lent.first.1 (more lent.second.1 none)))))));
      count_is = refl;
      runs = whole-from _ n _ (λ l around fs p o h.
          export-from n l around fs begin.opens.0 begin.word.0 name.0 bytes lent.opens.0 k lent.word.0 w lent.first.0
          lent.second.0
          lent.lendable at lent.target.kind lent.target.index p o h);
    })

-- ---- imports of functions

-- up to the word of the function
abbrev asked_tokens : List ℕ → List ℕ → Seen → Seen → List ℕ → List ℕ → List Seen → List Seen
asked_tokens a b x y c d rest =
    seen (bare kind.Open) a ∷ seen (bare kind.ImportWord) b ∷ x ∷ y ∷ seen (bare kind.Open) c ∷
    seen (bare kind.FuncWord) d ∷ rest

-- behind it and its identifier
abbrev typed_tokens : List ℕ → List ℕ → Word → List ℕ → List ℕ → List ℕ → List Seen
typed_tokens e f w g h i =
    seen (bare kind.Open) e ∷ seen (bare kind.TypeWord) f ∷ seen w.symbol w.text ∷ seen (bare kind.Close) g ∷
    seen (bare kind.Close) h ∷ seen (bare kind.Close) i ∷ []

-- the draft behind the word of the function
abbrev asked_draft : List Field → ℕ → List ℕ → List ℕ → Option Identifier → TextDraft
asked_draft fs n «module» item id = record {
  fields = fs;
  field = record (started kind.ImportWord (n + 1)) {
    names = record (unnamed (Some (n + 1))) { id = id; «module» = name_of «module»; item = name_of item };
  };
}

module _ (n l : ℕ) (around : List Frame) (fs : List Field) («module» item : List ℕ) where
  asked-rest : (o : Frame) (t r c d : List ℕ) (rest : List Seen) (s : Standing) (e : TextDraft)
      → Runs rest (n + 6) (standing l place.FuncId frame.Described (o ∷ around))
      (asked_draft fs n «module» item None) s e
      → Runs (named t «module» ∷ named r item ∷ seen (bare kind.Open) c ∷ seen (bare kind.FuncWord) d ∷ rest) (n + 2)
      (standing l place.ModuleName frame.Import (o ∷ around))
      (record { fields = fs; field = started kind.ImportWord (n + 1) }) s e
  asked-rest o t r c d rest s e runs =
      goes (n + 3) _ (omega arith) refl
      (goes (n + 4) _ (omega arith) refl
      (goes (n + 5) _ (omega arith) refl
      (goes (n + 6) _ (omega arith) refl
      runs)))

  asked-from : (p : Place) (o : Frame) (a b t r c d : List ℕ) (rest : List Seen) (e : TextDraft) → is_between p o ≡ true
      → Runs rest (n + 6) (standing l place.FuncId frame.Described (o ∷ around)) (asked_draft fs n «module» item None)
      (standing l place.Done o around) e
      → Runs (asked_tokens a b (named t «module») (named r item) c d rest) n (standing l p o around) (draft fs)
      (standing l p o around) e
  asked-from place.Done frame.Fields a b t r c d rest e h runs =
      goes (n + 1) _ refl refl (goes (n + 2) _ (omega arith) refl (asked-rest frame.Fields t r c d rest _ e runs))
  asked-from place.Done frame.Module a b t r c d rest e h runs =
      goes (n + 1) _ refl refl (goes (n + 2) _ (omega arith) refl (asked-rest frame.Module t r c d rest _ e runs))
  asked-from place.Done _ a b t r c d rest e h runs = absurd cc
  asked-from _ o a b t r c d rest e h runs = absurd cc

  module _ (m : ℕ) (e f : List ℕ) (w : Word) (g h i : List ℕ) (at : w.token ≡ m + 2) (q : TokenKind)
      (index : IsIndex q w.symbol.kind) (id : Option Identifier) (o : Frame) where
    -- from the index on
    typed-rest : Runs (seen w.symbol w.text ∷ seen (bare kind.Close) g ∷ seen (bare kind.Close) h ∷
        seen (bare kind.Close) i ∷ []) w.token (standing l place.UseIndex frame.Described (o ∷ around))
        (asked_draft fs n «module» item id) (standing l place.Done o around)
        (draft (fs ++ field.Import (func_imported (n + 1) «module» item id w) ∷ []))
    typed-rest =
        goes (m + 3) _ (omega (arith, at)) (types l (o ∷ around) q w.symbol.kind index)
        (goes (m + 4) _ (omega arith) refl
        (goes (m + 5) _ (omega arith) refl
        (goes (m + 6) _ (omega arith) refl
        ended)))

    -- behind the word of the function
    typed-unnamed : Runs (typed_tokens e f w g h i) m (standing l place.FuncId frame.Described (o ∷ around))
        (asked_draft fs n «module» item id) (standing l place.Done o around)
        (draft (fs ++ field.Import (func_imported (n + 1) «module» item id w) ∷ []))
    typed-unnamed = goes (m + 1) _ refl refl (goes w.token _ (omega (arith, at)) refl typed-rest)

    -- behind its identifier
    typed-named : Runs (typed_tokens e f w g h i) m (standing l place.Uses frame.Described (o ∷ around))
        (asked_draft fs n «module» item id) (standing l place.Done o around)
        (draft (fs ++ field.Import (func_imported (n + 1) «module» item id w) ∷ []))
    typed-named = goes (m + 1) _ refl refl (goes w.token _ (omega (arith, at)) refl typed-rest)

pub import-says : {u v w : Unread} (n : ℕ) («module» item : List ℕ) (y : Word) (f : Field) → IsAsked u «module» item v
    → IsTyped v (n + 6) y w → f ≡ field.Import (func_imported (n + 1) «module» item None y) → SaysWhole u n f 12 w
import-says n «module» item y f asked typed e =
    rw e (record {
      xs = asked_tokens asked.import.opens.0 asked.import.word.0 (named asked.first.0 «module»)
          (named asked.second.0 item) asked.function.opens.0 asked.function.word.0
          (typed_tokens typed.ty.opens.0 typed.ty.word.0 y typed.first.0 typed.second.0 typed.third.0);
      are_seen = more asked.import.opens.1 (more asked.import.word.1 (more asked.first.1 (more asked.second.1
          (more asked.function.opens.1 (more asked.function.word.1 (more typed.ty.opens.1 (more typed.ty.word.1
          (more typed.target.seen (more typed.first.1 (more typed.second.1 (more typed.third.1 none)))))))))));
      count_is = refl;
      runs = whole-from _ n _ (λ l around fs p o h.
          asked-from n l around fs «module» item p o asked.import.opens.0 asked.import.word.0 asked.first.0
          asked.second.0 asked.function.opens.0 asked.function.word.0 _ _ h
          (typed-unnamed n l around fs «module» item (n + 6) typed.ty.opens.0 typed.ty.word.0 y typed.first.0
          typed.second.0 typed.third.0 typed.token typed.target.kind typed.target.index None o));
    })

pub named-import-says : {u v v' w : Unread} (n : ℕ) («module» item : List ℕ) (x : Identifier) (y : Word) (f : Field)
    → IsAsked u «module» item v → x.token ≡ n + 6 → IsSeen v (seen (bare kind.Id) x.text) v' → IsTyped v' (n + 7) y w
    → f ≡ field.Import (func_imported (n + 1) «module» item (Some x) y) → SaysWhole u n f 13 w
named-import-says n «module» item x y f asked token id typed e =
    rw e (record {
      xs = asked_tokens asked.import.opens.0 asked.import.word.0 (named asked.first.0 «module»)
          (named asked.second.0 item) asked.function.opens.0 asked.function.word.0
          (seen (bare kind.Id) x.text ∷
          typed_tokens typed.ty.opens.0 typed.ty.word.0 y typed.first.0 typed.second.0 typed.third.0);
      are_seen = more asked.import.opens.1 (more asked.import.word.1 (more asked.first.1 (more asked.second.1
          (more asked.function.opens.1 (more asked.function.word.1 (more id (more typed.ty.opens.1 (more typed.ty.word.1
          (more typed.target.seen (more typed.first.1 (more typed.second.1 (more typed.third.1 none))))))))))));
      count_is = refl;
      runs = whole-from _ n _ (λ l around fs p o h.
          asked-from n l around fs «module» item p o asked.import.opens.0 asked.import.word.0 asked.first.0
          asked.second.0 asked.function.opens.0 asked.function.word.0 _ _ h
          (subst
          (λ (z : Identifier).
          Runs
          (seen (bare kind.Id) x.text ∷
          typed_tokens typed.ty.opens.0 typed.ty.word.0 y typed.first.0 typed.second.0 typed.third.0)
          (n + 6) (standing l place.FuncId frame.Described (o ∷ around)) (asked_draft fs n «module» item None)
          (standing l place.Done o around)
          (draft (fs ++ field.Import (func_imported (n + 1) «module» item (Some z) y) ∷ [])))
          (ap (λ (k : ℕ). identifier k x.text) (sym token))
          (goes (n + 7) _ (omega arith) refl
          (typed-named n l around fs «module» item (n + 7) typed.ty.opens.0 typed.ty.word.0 y typed.first.0
          typed.second.0 typed.third.0 typed.token typed.target.kind typed.target.index
          (Some (identifier (n + 6) x.text)) o))));
    })
