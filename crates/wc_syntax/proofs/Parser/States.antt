-- The states of the parser: the tokens so far lead there.
use Rattle.std.proofs.Common.{arith, ◌≡◌, ℕ, zero, suc, ◌+◌, Bool, true, false, cond, List, [], ◌∷◌, ◌++◌, Option, Some}
use Rattle.std.proofs.Common.{None, refl, sym, ap, subst, ◌∙◌, append_assoc, append-nil, inl, inr}
use Rattle.std.specs.Prelude.{◌&&◌, not}
use Rattle.wc_syntax.specs.declared.role.Role.{Role}
use Rattle.wc_syntax.specs.declared.place.Place.{Place}
use Rattle.wc_syntax.specs.declared.place.Place.TheVariants as place
use Rattle.wc_syntax.specs.declared.place.Frame.{Frame}
use Rattle.wc_syntax.specs.declared.place.Frame.TheVariants as frame
use Rattle.wc_syntax.specs.declared.place.Move.{Move}
use Rattle.wc_syntax.specs.declared.place.Move.TheVariants.{On, Past, Turn, Into, Out}
use Rattle.wc_syntax.specs.declared.place.Action.{Action}
use Rattle.wc_syntax.specs.Standard.Phrases.{Phrase, The, text}
use Rattle.wc_syntax.specs.Standard.Deriving.{Item, terminal_of, Event, kept}
use Rattle.wc_syntax.specs.Tables.Table.{leads_to, is_end, resume}
use Rattle.wc_syntax.proofs.Stacks.Run.{Mode, Cut, Run, cut}
use Rattle.wc_syntax.proofs.Stacks.Edges.{keep}
use Rattle.wc_syntax.proofs.Tabled.Places.{left, front, over, is-open, means}
use Rattle.wc_syntax.proofs.Tabled.Validity.{valid, is-block, fits-in, leaves, leaves-valid}
use Rattle.wc_syntax.proofs.Tabled.Agreement.{said, led, entered, some, sound, sound-go, alike, at-bottom}
use Rattle.wc_syntax.proofs.Tabled.Agreement.{limit-reached}
use Rattle.wc_syntax.proofs.Parser.Machine.{Reads, Alts, step-out, step-in, leads, tag-out, tag-in, over-out, over-in}

-- how many may be open in a body, where so many may be open in one in it
abbrev pub up : Frame → ℕ → ℕ
up c d = cond (at-bottom c) d (suc d)

-- how many of them count
abbrev pub nests : List Frame → ℕ
nests [] = 0
nests (c ∷ bs) = cond (at-bottom c) (nests bs) (suc (nests bs))

-- the bodies around the innermost one, in which so many more may be open
abbrev pub under : ℕ → List Frame → List Phrase
under d [] = []
under d (c ∷ bs) = left (up c d) c ++ under (up c d) bs

-- the fields are outermost, and they alone; each frame fits in the one around it
abbrev pub Bottom : Frame → List Frame → Type 0
Bottom b [] = at-bottom b ≡ true
Bottom b (c ∷ bs) = (at-bottom b ≡ false) × (fits-in b c ≡ true) × Bottom c bs

-- the tokens xs lead from the text to these stacks, over k, and what was kept is e
pub record Leads (n : ℕ) (xs : List Item) (ss : List (List Phrase)) (k : List Phrase) (e : List Event) : Type 0 where
  pub on : (m : Mode) (us : List Item) (es : List Event) → Run m (The (text n) ∷ []) (xs ++ us) es → (fs : List Event)
      × (es ≡ e ++ fs) × Reads m ss k us fs
  pub back : (m : Mode) (us : List Item) (fs : List Event) → Reads m ss k us fs
      → Run m (The (text n) ∷ []) (xs ++ us) (e ++ fs)

-- the tokens xs lead to this state
pub record Reached (n : ℕ) (xs : List Item) (d : ℕ) (p : Place) (b : Frame) (bs : List Frame) (e : List Event) : Type 0
  where
    pub leads : Leads n xs (means d p b) (under d bs) e
    pub is-valid : valid p b ≡ true
    pub left-some : some (means d p b) ≡ true
    pub depth : d + nests bs ≡ n
    pub bottom : Bottom b bs

-- ---- the first state

pub reached-first : (n : ℕ) → Reached n [] n place.Done frame.Start [] []
reached-first n = record {
  leads = record { on = λ m us es r. (es, refl, inl r); back = λ m us fs h. elim h [ inl r ↦ r | inr q ↦ absurd q ] };
  is-valid = refl;
  left-some = refl;
  depth = omega arith;
  bottom = refl;
}

-- ---- one token more

abbrev pub keeps-one : Option Role → Item → List Event
keeps-one None i = []
keeps-one (Some r) i = kept r i ∷ []

keep-is : (o : Option Role) (i : Item) (e fs : List Event) → e ++ keep o i fs ≡ (e ++ keeps-one o i) ++ fs
keep-is None i e fs = ap (λ (w : List Event). w ++ fs) (sym (append-nil e))
keep-is (Some r) i e fs = sym (append_assoc e (kept r i ∷ []) fs)

pub ends-nothing : (d : ℕ) (p : Place) (b : Frame) (bs : List Frame) → Bottom b bs → is_end p b ≡ true → under d bs ≡ []
ends-nothing d p b [] h e = refl
ends-nothing d p frame.Fields (c ∷ bs) h e = absurd (let g = h.0 in cc)
ends-nothing d p frame.Start (c ∷ bs) h e = absurd (let g = h.0 in cc)
ends-nothing d p frame.Closed (c ∷ bs) h e = absurd (let g = h.0 in cc)
ends-nothing d p b (c ∷ bs) h e = absurd cc

said-out : (d : ℕ) (b : Frame) (o : Option Action) (a : Action) (m : Mode) (k : List Phrase) (i : Item) (us : List Item)
    (es : List Event) → o ≡ Some a → Alts m (said d b o) k i us es → (fs : List Event) × (es ≡ keep a.keep i fs)
    × Reads m (led d b a.go) k us fs
said-out d b o a m k i us es e h = tag-out m a.keep (led d b a.go) k i us es (subst (λ (x : Option Action).
    Alts m (said d b x) k i us es) e h)

said-in : (d : ℕ) (b : Frame) (o : Option Action) (a : Action) (m : Mode) (k : List Phrase) (i : Item) (us : List Item)
    (fs : List Event) → o ≡ Some a → Reads m (led d b a.go) k us fs → Alts m (said d b o) k i us (keep a.keep i fs)
said-in d b o a m k i us fs e h = subst (λ (x : Option Action).
    Alts m (said d b x) k i us (keep a.keep i fs)) (sym e) (tag-in m a.keep (led d b a.go) k i us fs h)

advance : (n : ℕ) (xs : List Item) (d : ℕ) (p : Place) (b : Frame) (k : List Phrase) (e : List Event) (i : Item)
    (a : Action) → valid p b ≡ true → (is_end p b ≡ true → k ≡ []) → Leads n xs (means d p b) k e
    → leads_to p b (limit-reached d) (terminal_of i) ≡ Some a
    → Leads n (xs ++ i ∷ []) (led d b a.go) k (e ++ keeps-one a.keep i)
advance n xs d p b k e i a v bottom l h = record {
  on = λ m us es r.
      let (gs, g, q) = l.on m (i ∷ us) es (subst (λ (w : List Item).
      Run m (The (text n) ∷ []) w es) (append_assoc xs (i ∷ []) us) r) in
      let (fs, f, w) = said-out d b (leads_to p b (limit-reached d) (terminal_of i)) a m k i us gs h
      (step-out d p b v m k i us gs bottom q) in
      (fs, g ∙ ap (λ (y : List Event). e ++ y) f ∙ keep-is a.keep i e fs, w);
  back = λ m us fs w.
      let r = l.back m (i ∷ us) (keep a.keep i fs) (step-in d p b v m k i us (keep a.keep i fs)
      (said-in d b (leads_to p b (limit-reached d) (terminal_of i)) a m k i us fs h w)) in
      subst (λ (y : List Event). Run m (The (text n)
      ∷ []) ((xs ++ i ∷ []) ++ us) y) (keep-is a.keep i e fs) (subst (λ (y : List Item).
      Run m (The (text n) ∷ []) y (e ++ keep a.keep i fs)) (sym (append_assoc xs (i ∷ []) us)) r);
}

leads-under : (n : ℕ) (xs : List Item) (t : List Phrase) (ss : List (List Phrase)) (k : List Phrase) (e : List Event)
    → Leads n xs (over t ss) k e → Leads n xs ss (t ++ k) e
leads-under n xs t ss k e l = record {
  on = λ m us es r. let w = l.on m us es r in (w.0, w.1, over-out m t ss k us w.0 w.2);
  back = λ m us fs h. l.back m us fs (over-in m t ss k us fs h);
}

leads-over : (n : ℕ) (xs : List Item) (t : List Phrase) (ss : List (List Phrase)) (k : List Phrase) (e : List Event)
    → Leads n xs ss (t ++ k) e → Leads n xs (over t ss) k e
leads-over n xs t ss k e l = record {
  on = λ m us es r. let w = l.on m us es r in (w.0, w.1, over-in m t ss k us w.0 w.2);
  back = λ m us fs h. l.back m us fs (over-out m t ss k us fs h);
}

-- the state after an action
abbrev pub Next : (n : ℕ) (xs : List Item) (d : ℕ) (b : Frame) (bs : List Frame) (e : List Event) → Move → Type 0
Next n xs d b bs e (On p) = Reached n xs d p b bs e
Next n xs d b bs e (Past p) = Reached n xs d p (resume b) bs e
Next n xs d b bs e (Turn p c) = Reached n xs d p c bs e
Next n xs d b bs e (Into p c) = (f : ℕ) × Reached n xs f p c (resume b ∷ bs) e
Next n xs d b bs e (Out p) = (c : Frame) × (cs : List Frame) × (bs ≡ c ∷ cs) × Reached n xs (up c d) p c cs e

and-true : (a b : Bool) → (a && b) ≡ true → (a ≡ true) × (b ≡ true)
and-true true b e = (refl, e)
and-true false b e = absurd cc

not-true : (a : Bool) → not a ≡ true → a ≡ false
not-true false e = refl
not-true true e = absurd cc

alike-is : (p q : Bool) → alike p q ≡ true → p ≡ q
alike-is true q e = sym e
alike-is false q e = sym (not-true q e)

turned-fits : (b c x : Frame) → is-block b ≡ is-block c → fits-in b x ≡ true → fits-in c x ≡ true
turned-fits b c x e h = subst (λ (z : Bool). cond z (valid place.EndLabel x) true ≡ true) e h

turned : (b c : Frame) (bs : List Frame) → at-bottom b ≡ at-bottom c → is-block b ≡ is-block c → Bottom b bs
    → Bottom c bs
turned b c [] e g h = sym e ∙ h
turned b c (x ∷ bs) e g h = (sym e ∙ h.0, turned-fits b c x g h.1, h.2)

some-over : (t : List Phrase) (ss : List (List Phrase)) → some (over t ss) ≡ some ss
some-over t [] = refl
some-over t (s ∷ ss) = refl

shut-means : (d : ℕ) (p : Place) (b : Frame) → is-open p ≡ false → means d p b ≡ over (left d b) (front p)
shut-means d p b e = rw e refl

-- what is entered at a body of the bottom, or not
go-in : (n : ℕ) (xs : List Item) (d : ℕ) (b : Frame) (bs : List Frame) (e : List Event) (p : Place) (c : Frame)
    → valid p c ≡ true → d + nests bs ≡ n → Bottom b bs → at-bottom c ≡ false → fits-in c b ≡ true
    → some (entered (at-bottom b) d b p c) ≡ true → Leads n xs (entered (at-bottom b) d b p c) (under d bs) e → (f : ℕ)
    × Reached n xs f p c (b ∷ bs) e
go-in n xs d b bs e p c v h bottom q t s l = by-bottom (at-bottom b) refl d h s l
  where
    by-bottom : (z : Bool) → at-bottom b ≡ z → (d : ℕ) → d + nests bs ≡ n → some (entered z d b p c) ≡ true
        → Leads n xs (entered z d b p c) (under d bs) e → (f : ℕ) × Reached n xs f p c (b ∷ bs) e
    by-bottom true z d h s l = (
      d,
      record {
        leads = rw z (leads-under n xs (left d b) (means d p c) (under d bs) e l);
        is-valid = v;
        left-some = sym (some-over (left d b) (means d p c)) ∙ s;
        depth = rw z h;
        bottom = (q, t, bottom);
      },
    )
    by-bottom false z zero h s l = absurd cc
    by-bottom false z (suc d) h s l = (
      d,
      record {
        leads = rw z (leads-under n xs (left (suc d) b) (means d p c) (under (suc d) bs) e l);
        is-valid = v;
        left-some = sym (some-over (left (suc d) b) (means d p c)) ∙ s;
        depth = rw z (omega (arith, h));
        bottom = (q, t, bottom);
      },
    )

up-depth : (c : Frame) (d k n : ℕ) → d + cond (at-bottom c) k (suc k) ≡ n → up c d + k ≡ n
up-depth c d k n h = by-bottom (at-bottom c) h
  where
    by-bottom : (z : Bool) → d + cond z k (suc k) ≡ n → cond z d (suc d) + k ≡ n
    by-bottom true h = h
    by-bottom false h = omega (arith, h)

go-next : (n : ℕ) (xs : List Item) (d : ℕ) (b : Frame) (bs : List Frame) (e : List Event) (g : Move) → d + nests bs ≡ n
    → Bottom b bs → some (led d b g) ≡ true → sound-go d b g ≡ true → Leads n xs (led d b g) (under d bs) e
    → Next n xs d b bs e g
go-next n xs d b bs e (On p) h bottom s q l = record {
  leads = l;
  is-valid = q;
  left-some = s;
  depth = h;
  bottom =
      bottom;
}
go-next n xs d b bs e (Past p) h bottom s q l =
    let w = and-true (valid p (resume b)) (alike (at-bottom b) (at-bottom (resume b)) && alike (is-block b)
    (is-block (resume b))) q in
    let v = and-true (alike (at-bottom b) (at-bottom (resume b))) (alike (is-block b) (is-block (resume b))) w.1 in
    record {
      leads = l;
      is-valid = w.0;
      left-some = s;
      depth = h;
      bottom =
          turned b (resume b) bs (alike-is (at-bottom b) (at-bottom (resume b)) v.0)
          (alike-is (is-block b) (is-block (resume b)) v.1) bottom;
    }
go-next n xs d b bs e (Turn p c) h bottom s q l =
    let w = and-true (valid p c) (alike (at-bottom b) (at-bottom c) && alike (is-block b) (is-block c)) q in
    let v = and-true (alike (at-bottom b) (at-bottom c)) (alike (is-block b) (is-block c)) w.1 in
    record {
      leads = l;
      is-valid = w.0;
      left-some = s;
      depth = h;
      bottom =
          turned b c bs (alike-is (at-bottom b) (at-bottom c) v.0) (alike-is (is-block b) (is-block c) v.1) bottom;
    }
go-next n xs d b bs e (Into p c) h bottom s q l =
    let v = and-true (valid p c) (not (at-bottom c) && (fits-in c (resume b) &&
    (alike (at-bottom b) (at-bottom (resume b)) && alike (is-block b) (is-block (resume b))))) q in
    let w = and-true (not (at-bottom c)) (fits-in c (resume b) &&
    (alike (at-bottom b) (at-bottom (resume b)) && alike (is-block b) (is-block (resume b)))) v.1 in
    let x = and-true (fits-in c (resume b)) (alike (at-bottom b) (at-bottom (resume b)) && alike (is-block b)
    (is-block (resume b))) w.1 in
    let y = and-true (alike (at-bottom b) (at-bottom (resume b))) (alike (is-block b) (is-block (resume b))) x.1 in
    go-in n xs d (resume b) bs e p c v.0 h (turned b (resume b) bs (alike-is (at-bottom b) (at-bottom (resume b)) y.0)
    (alike-is (is-block b) (is-block (resume b)) y.1) bottom) (not-true (at-bottom c) w.0) x.0 s l
go-next n xs d b [] e (Out p) h bottom s q l = absurd (let w =
    (and-true (not (at-bottom b)) (not (is-open p)) (and-true (leaves b p) (not (at-bottom b) && not (is-open p))
    q).1).0 in let v = not-true (at-bottom b) w in cc)
go-next n xs d b (c ∷ cs) e (Out p) h bottom s q l =
    let v = and-true (leaves b p) (not (at-bottom b) && not (is-open p)) q in
    let shut = shut-means (up c d) p c (not-true (is-open p) (and-true (not (at-bottom b)) (not (is-open p))
    v.1).1) in (
      c,
      cs,
      refl,
      record {
        leads = subst (λ (y : List (List Phrase)).
            Leads n xs y (under (up c d) cs) e) (sym shut) (leads-over n xs (left (up c d) c) (front p)
            (under (up c d) cs) e l);
        is-valid = leaves-valid b p c v.0 bottom.1;
        left-some = ap (λ (y : List (List Phrase)). some y) shut ∙ some-over (left (up c d) c) (front p) ∙ s;
        depth = up-depth c d (nests cs) n h;
        bottom = bottom.2;
      },
    )

pub next : (n : ℕ) (xs : List Item) (d : ℕ) (p : Place) (b : Frame) (bs : List Frame) (e : List Event) (i : Item)
    (a : Action) → Reached n xs d p b bs e → leads_to p b (limit-reached d) (terminal_of i) ≡ Some a
    → Next n (xs ++ i ∷ []) d b bs (e ++ keeps-one a.keep i) a.go
next n xs d p b bs e i a r h =
    let sounds = and-true (some (led d b a.go)) (sound-go d b a.go) (subst (λ (x : Option Action).
    sound d b x ≡ true) h (leads d p b (terminal_of i) r.is-valid)) in
    go-next n (xs ++ i ∷ []) d b bs (e ++ keeps-one a.keep i) a.go r.depth r.bottom sounds.0 sounds.1
    (advance n xs d p b (under d bs) e i a r.is-valid (ends-nothing d p b bs r.bottom) r.leads h)

-- ---- refused

refused-alts : (d : ℕ) (b : Frame) (o : Option Action) (m : Mode) (k : List Phrase) (i : Item) (us : List Item)
    (es : List Event) → o ≡ None → Alts m (said d b o) k i us es → ⊥
refused-alts d b o m k i us es e h = subst (λ (x : Option Action). Alts m (said d b x) k i us es) e h

pub refused : (n : ℕ) (xs : List Item) (d : ℕ) (p : Place) (b : Frame) (bs : List Frame) (e : List Event) (i : Item)
    → Reached n xs d p b bs e → leads_to p b (limit-reached d) (terminal_of i) ≡ None
    → (m : Mode) (us : List Item) (es : List Event) → Run m (The (text n) ∷ []) (xs ++ i ∷ us) es → ⊥
refused n xs d p b bs e i r h m us es q =
    let (fs, f, w) = r.leads.on m (i ∷ us) es q in
    refused-alts d b (leads_to p b (limit-reached d) (terminal_of i)) m (under d bs) i us fs h
    (step-out d p b r.is-valid m (under d bs) i us fs (ends-nothing d p b bs r.bottom) w)

reads-cut : (ss : List (List Phrase)) (k : List Phrase) → some ss ≡ true → Reads Cut ss k [] []
reads-cut [] k e = absurd cc
reads-cut (s ∷ ss) k e = inl cut

pub begins-so : (n : ℕ) (xs : List Item) (d : ℕ) (p : Place) (b : Frame) (bs : List Frame) (e : List Event)
    → Reached n xs d p b bs e → (es : List Event) × Run Cut (The (text n) ∷ []) xs es
begins-so n xs d p b bs e r = (
  e ++ [],
  subst (λ (w : List Item). Run Cut (The (text n)
      ∷ []) w (e ++ [])) (append-nil xs) (r.leads.back Cut [] [] (reads-cut (means d p b) (under d bs) r.left-some)),
)
