-- Tokens that were read one after another, and what they add.
use Rattle.std.proofs.Common.{◌≡◌, ℕ, ◌+◌, ◌≤◌, List, [], ◌∷◌, ◌++◌, length, drop, Option, Some, None}
use Rattle.std.proofs.Common.{refl, sym, ap, subst}
use Rattle.std.proofs.Common.{length-append, true, arith, ◌-◌, ◌∙◌}
use Rattle.std.proofs.Math.Seq.{drop-append_seam}
use Rattle.wc_tokens.specs.Standard.Lexemes.{Lexeme}
use Rattle.wc_tokens.specs.Standard.Streams.{Unread, followed}
use Rattle.wc_tokens.specs.Reading.Stops.{EndsWith}
use Rattle.wc_tokens.proofs.Lexing.RunLaws.{EndsWith-more}
use Rattle.wc_tokens.proofs.Lexing.StreamLaws.{Gives-shorter, Gives-ends}
use Rattle.wc_body.specs.Standard.Nested.{nesting_limit}
use Rattle.wc_syntax.specs.declared.kind.Kind.TheVariants.{OtherWord}
use Rattle.wc_syntax.specs.declared.role.Role.{Role}
use Rattle.wc_syntax.specs.declared.place.Move.{Move}
use Rattle.wc_syntax.specs.Standard.Reading.{Standing, moved, action_at}
use Rattle.wc_syntax.specs.Tables.Parts.{is_between}
use Rattle.wc_syntax.proofs.Tabled.Usual.{usual-by}
use Rattle.wc_symbols.specs.Standard.Tokens.{TokenIs}
use Rattle.wc_surface.specs.declared.field.Field.{Field}
use Rattle.wc_parse_code.specs.Standard.Tokens.{kept_token}
use Rattle.wc_parse_field.specs.Drafting.Fields.{started}
use Rattle.wc_parse.specs.declared.text_draft.TextDraft.{TextDraft}
use Rattle.wc_parse.specs.Kept.Texts.{take_by}
use Rattle.wc_parse.specs.Kept.Folds.{StandsFor}
use Rattle.wc_parse.specs.Kept.SaidSoFar.{IsSaid}
use Rattle.wc_parse.specs.Kept.Passing.{Seen, AreSeen, none, more, adds, Runs, ended, goes, with_whole, SaysWhole}
use Rattle.wc_parse.specs.Kept.Passing.{Passes}
use Rattle.wc_parse.proofs.Saying.Said.{said-count, said-dropped, said-kept}
use Rattle.wc_parse.proofs.Tokens.Streams.{IsStream, token-found}

-- ---- one more token

pub said-goes : {ts : List Lexeme} {n : ℕ} {s : Standing} {d : TextDraft} (w : IsSaid ts n s d) (t : Lexeme)
    (rest : List Lexeme) (x : Seen) (o : Option Role) (g : Move) → drop n ts ≡ t ∷ rest
    → TokenIs t.kind t.text x.symbol → x.text ≡ t.text → StandsFor t.kind t.text x.bytes
    → action_at s x.symbol.kind ≡ Some (record { keep = o; go = g }) → IsSaid ts (n + 1) (moved g s) (adds o n x d)
said-goes {ts} {n} {s} w t rest x None g e h f b i =
    said-dropped w t rest x.symbol (moved g s) e h
    (usual-by nesting_limit n w.kinds w.es s s (moved g s) x.symbol.kind None g refl i refl w.read
    (said-count w t rest e))
said-goes {ts} {n} {s} {d} w t rest x (Some r) g e h f b i =
    said-kept w t rest x.symbol r x.bytes (moved g s) (take_by r (kept_token n x.symbol x.text) x.bytes d) e h
    (usual-by nesting_limit n w.kinds w.es s s (moved g s) x.symbol.kind (Some r) g refl i refl w.read
    (said-count w t rest e))
    b
    (ap (λ (y : List ℕ). take_by r (kept_token n x.symbol y) x.bytes d) f)

-- ---- many tokens

pub stream-runs : {text : List ℕ} (n m : ℕ) {u v : Unread} {s s' : Standing} {d d' : TextDraft} {xs : List Seen}
    → IsStream text n u s d → AreSeen u xs v → Runs xs n s d s' d' → m ≡ n + length xs → IsStream text m v s' d'
stream-runs {text} n m {u} {v} {s} {s'} {d} {d'} w none ended e =
    let same : n ≡ m = omega (arith, e) in
    subst (λ (k : ℕ). IsStream text k u s d) same w
stream-runs {text} n m {s = s} {d = d} w (more {v = b} {x = x} {xs = xs} seen rest) (goes k a next act runs) e =
    let found = token-found seen.lexeme w seen.gives in
    let behind : IsStream text (n + 1) b (moved a.go s) (adds a.keep n x d) =
    found.taken (moved a.go s) (adds a.keep n x d)
    (λ ts later said stands.
    said-goes said seen.lexeme later x a.keep a.go stands seen.symbol seen.text seen.bytes act) in
    let same : n + 1 ≡ k = sym next in
    stream-runs k m (subst (λ (i : ℕ). IsStream text i b (moved a.go s) (adds a.keep n x d)) same behind) rest runs
    (omega (arith, e, next))

seen-shorter : {u v : Unread} {xs : List Seen} → AreSeen u xs v → length v.rest ≤ length u.rest
seen-shorter none = omega arith
seen-shorter (more seen rest) =
    let first = Gives-shorter seen.gives in
    let others = seen-shorter rest in
    omega (arith, first, others)

-- what is left is the end of what was left
record IsEnd (u v : Unread) : Type 0 where
  same_text : v.size ≡ u.size
  ends : EndsWith u.rest v.rest

seen-end : {u v : Unread} {xs : List Seen} → AreSeen u xs v → IsEnd u v
seen-end none = record { same_text = refl; ends = ([], refl) }
seen-end {u} {v} (more {v = b} seen rest) =
    let others = seen-end rest in
    record {
      same_text = others.same_text ∙ seen.gives.same_text;
      ends = EndsWith-more u.rest b.rest others.ends.0 v.rest (Gives-ends seen.gives) others.ends.1;
    }

-- so who follows stands there
pub passes-followed : {n m : ℕ} {u v : Unread} {s : Standing} {d d' : TextDraft} → Passes u n s d v m d'
    → followed u v ≡ v
passes-followed {u = u} {v = v} p =
    let w = seen-end p.are_seen in
    let front = w.ends.0 in
    let count : length u.rest - length v.rest ≡ length front =
    omega (arith, ap length w.ends.1, length-append front v.rest) in
    let rest : drop (length u.rest - length v.rest) u.rest ≡ v.rest =
    ap (λ (k : ℕ). drop k u.rest) count ∙ ap (drop (length front)) w.ends.1 ∙ drop-append_seam front v.rest in
    ap (λ (t : List ℕ). record u { rest = t }) rest ∙ ap (λ (k : ℕ). record v { size = k }) (sym w.same_text)

pub stream-passes : {text : List ℕ} {n m : ℕ} {u v : Unread} {s : Standing} {d d' : TextDraft} → IsStream text n u s d
    → Passes u n s d v m d' → IsStream text m v s d'
stream-passes {n = n} {m = m} w p = stream-runs n m w p.are_seen p.runs p.count_is

pub passes-shorter : {n m : ℕ} {u v : Unread} {s : Standing} {d d' : TextDraft} → Passes u n s d v m d'
    → length v.rest ≤ length u.rest
passes-shorter p = seen-shorter p.are_seen

pub passes-from : {n m : ℕ} {u u' v : Unread} {s : Standing} {d d' : TextDraft} → u' ≡ u → Passes u' n s d v m d'
    → Passes u n s d v m d'
passes-from {n} {m} {v = v} {s = s} {d = d} {d' = d'} e p = subst (λ (x : Unread). Passes x n s d v m d') e p

-- ---- fields one after another

seen-join : {u v w : Unread} {xs ys : List Seen} → AreSeen u xs v → AreSeen v ys w → AreSeen u (xs ++ ys) w
seen-join none h = h
seen-join (more seen rest) h = more seen (seen-join rest h)

runs-join : {xs ys : List Seen} (n m : ℕ) {s t t' : Standing} {d e e' : TextDraft} → Runs xs n s d t e
    → m ≡ n + length xs → Runs ys m t e t' e' → Runs (xs ++ ys) n s d t' e'
runs-join {ys = ys} n m {s = s} {t' = t'} {d = d} {e' = e'} ended i h =
    let same : m ≡ n = omega (arith, i) in
    subst (λ (k : ℕ). Runs ys k s d t' e') same h
runs-join n m (goes k a next act runs) i h = goes k a next act (runs-join k m runs (omega (arith, i, next)) h)

pub passes-none : {u : Unread} {n : ℕ} {s : Standing} {d : TextDraft} → Passes u n s d u n d
passes-none = record { xs = []; are_seen = none; count_is = omega arith; runs = ended }

pub passes-more : {u v w : Unread} {n m : ℕ} {s : Standing} {d e : TextDraft} {f : Field} {count : ℕ}
    → Passes u n s d v m e → is_between s.place s.frame ≡ true → e.field ≡ started OtherWord 0
    → SaysWhole v m f count w → Passes u n s d w (m + count) (with_whole f e)
passes-more {n = n} {m = m} {s = s} {e = e} p between fresh q = record {
  xs = p.xs ++ q.xs;
  are_seen = seen-join p.are_seen q.are_seen;
  count_is = omega (arith, p.count_is, q.count_is, length-append p.xs q.xs);
  runs = runs-join n m p.runs p.count_is (q.runs s e between fresh);
}
