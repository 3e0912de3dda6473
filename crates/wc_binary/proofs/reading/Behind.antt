-- One reading behind another.
use Rattle.std.proofs.Common.{◌≡◌, ℕ, List, [], ◌∷◌, Option, Some, None, Result, Ok, Err, refl, sym, ap, ◌∙◌}
use Rattle.std.specs.Prelude.{IsTrue}
use Rattle.wc_binary.specs.declared.fault.BinFault.{BinFault}
use Rattle.wc_binary.specs.declared.fault.BinFault.TheVariants.{Bad, Read, Memory}
use Rattle.wc_binary.specs.declared.fault.BinWhy.TheVariants.{End}
use Rattle.wc_binary.specs.Standard.Phrase.{Halt, halt, Phrase, ◌>>=◌}
use Rattle.wc_binary.specs.Reading.Reading.{Got, got, ◌and_then◌, read}
use Rattle.wc_binary.specs.Reading.Source.{Input, up_to, GoesOn, NextGives, Fails, Gave}
use Rattle.wc_binary.proofs.reading.ahead.Fronts.{bytes_to, IsWithin, within-before, bytes-split, phrase-to}
use Rattle.wc_binary.proofs.reading.Going.{GoesOn-trans, Stopped-behind, ReadFailed-behind}

-- what is still read from new on gives what is read from old on, of all bytes and of those up to any place
pub record Leads {A : Type 0} (old new : Input) (rest total : List ℕ → Result (Got A) Halt) : Type 0 where
  pub going : GoesOn old new
  pub same : IsTrue old.known
      → IsTrue new.known × ((c : Option ℕ) → IsWithin new.place c → rest (bytes_to c new) ≡ total (bytes_to c old))

-- a fault of what is still read is one of all that is read
pub leads-fail : {A : Type 0} (old mid new : Input) (rest total : List ℕ → Result (Got A) Halt)
    → Leads old mid rest total → (e : BinFault) → Fails mid new e rest → Fails old new e total
leads-fail old mid new rest total so_far Memory h = Stopped-behind old mid new so_far.going h
leads-fail old mid new rest total so_far (Read at) h = (
  ReadFailed-behind old mid new at so_far.going h.0,
  λ w. let s = so_far.same w in sym (s.1 (Some at) h.0.forward) ∙ h.1 s.0,
)
leads-fail old mid new rest total so_far (Bad at why) h =
    (Stopped-behind old mid new so_far.going h.0, λ w. let s = so_far.same w in sym (s.1 None tt) ∙ h.1 s.0)

-- what is still read is all that is read
pub leads-give : {A : Type 0} (old mid new : Input) (rest total : List ℕ → Result (Got A) Halt)
    → Leads old mid rest total → (r : Result A BinFault) → Gave mid new r rest → Gave old new r total
leads-give old mid new rest total so_far (Ok v) h = (
  GoesOn-trans old mid new so_far.going h.0,
  λ w. let s = so_far.same w in let e = h.1 s.0 in (e.0, sym (s.1 None tt) ∙ e.1),
)
leads-give old mid new rest total so_far (Err e) h = leads-fail old mid new rest total so_far e h

-- nothing is read behind these bytes
pub leads-done : {A : Type 0} (old now : Input) (rest total : List ℕ → Result (Got A) Halt) → Leads old now rest total
    → (v : A) → ((x : List ℕ) → rest x ≡ got v now.place x) → Gave old now (Ok v) total
leads-done old now rest total so_far v e =
    (so_far.going, λ w. let s = so_far.same w in (s.0, sym (s.1 None tt) ∙ e now.left))

pub leads-trans : {A : Type 0} (old mid new : Input) (rest total : List ℕ → Result (Got A) Halt)
    → Leads old mid rest total → (last : List ℕ → Result (Got A) Halt) → Leads mid new last rest
    → Leads old new last total
leads-trans old mid new rest total so_far last more = record {
  going = GoesOn-trans old mid new so_far.going more.going;
  same = λ w. let s = so_far.same w in let t = more.same s.0 in
      (t.0, λ c le. t.1 c le ∙ s.1 c (within-before mid.place new.place c more.going.forward le));
}

-- a fault of the first of what is still read
pub first-fails : {A B : Type 0} (mid new : Input) (one : List ℕ → Result (Got A) Halt)
    (more : List ℕ → Result (Got B) Halt) → ((x : List ℕ) (f : Halt) → one x ≡ Err f → more x ≡ Err f) → (e : BinFault)
    → Fails mid new e one → Fails mid new e more
first-fails mid new one more stops Memory h = h
first-fails mid new one more stops (Read at) h = (h.0, λ w. stops (up_to at mid) (halt at End at) (h.1 w))
first-fails mid new one more stops (Bad at why) h = (h.0, λ w. stops mid.left (halt at why new.place) (h.1 w))

-- a fault of the first of two readings
pub first-of : {A B : Type 0} (mid new : Input) (one : List ℕ → Result (Got A) Halt) (k : Got A → Result (Got B) Halt)
    (e : BinFault) → Fails mid new e one → Fails mid new e (λ x. one x and_then k)
first-of mid new one k e h = first-fails mid new one (λ x. one x and_then k) (λ x f q. rw q refl) e h

-- a phrase, and then what reads behind it
pub behind-leads : {A B : Type 0} (p : Phrase A) (k : Got A → Result (Got B) Halt) (old mid : Input) (u : A)
    → Gave old mid (Ok u) (λ x. read p old.place x)
    → Leads old mid (λ x. k (record { value = u; place = mid.place; left = x })) (λ x. read p old.place x and_then k)
behind-leads p k old mid u h = record {
  going = h.0;
  same = λ w. let s = h.1 w in (s.0, λ c le. let e = phrase-to p old mid u s.1 c le in rw e refl);
}

pub behind-fails : {A B : Type 0} (p : Phrase A) (k : Got A → Result (Got B) Halt) (old mid new : Input) (u : A)
    → Gave old mid (Ok u) (λ x. read p old.place x) → (e : BinFault)
    → Fails mid new e (λ x. k (record { value = u; place = mid.place; left = x }))
    → Fails old new e (λ x. read p old.place x and_then k)
behind-fails p k old mid new u h e f =
    leads-fail old mid new (λ x. k (record { value = u; place = mid.place; left = x }))
    (λ x. read p old.place x and_then k) (behind-leads p k old mid u h) e f

pub then-leads : {A B : Type 0} (p : Phrase A) (f : A → Phrase B) (old mid : Input) (u : A)
    → Gave old mid (Ok u) (λ x. read p old.place x)
    → Leads old mid (λ x. read (f u) mid.place x) (λ x. read (p >>= f) old.place x)
then-leads p f old mid u h = behind-leads p (λ g. read (f g.value) g.place g.left) old mid u h

pub then-gives : {A B : Type 0} (p : Phrase A) (f : A → Phrase B) (old mid new : Input) (u : A)
    → Gave old mid (Ok u) (λ x. read p old.place x) → (r : Result B BinFault)
    → Gave mid new r (λ x. read (f u) mid.place x) → Gave old new r (λ x. read (p >>= f) old.place x)
then-gives p f old mid new u h r k =
    leads-give old mid new (λ x. read (f u) mid.place x) (λ x.
    read (p >>= f) old.place x) (then-leads p f old mid u h) r k

-- a byte that was taken stands in front
pub byte-leads : {A : Type 0} (old mid : Input) (b : ℕ) → NextGives old mid (Ok (Some b))
    → (r : List ℕ → Result (Got A) Halt) → Leads old mid (λ x. r (b ∷ x)) r
byte-leads old mid b next r = record {
  going = next.0;
  same = λ w. let e = next.2 w in (e.0, λ c le. ap r (sym (bytes-split old mid (b ∷ []) e.1 next.1 c le)));
}

pub byte-then-gives : {A : Type 0} (old mid new : Input) (b : ℕ) → NextGives old mid (Ok (Some b))
    → (r : List ℕ → Result (Got A) Halt) → (v : Result A BinFault) → Gave mid new v (λ x. r (b ∷ x)) → Gave old new v r
byte-then-gives old mid new b next r v h = leads-give old mid new (λ x. r (b ∷ x)) r (byte-leads old mid b next r) v h
