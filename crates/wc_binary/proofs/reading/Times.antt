-- Reading items one after the other, as a loop does.
use Rattle.std.proofs.Common.{◌≡◌, ℕ, zero, suc, ◌-◌, ◌+◌, ◌≤◌, ◌<◌, List, [], ◌∷◌, ◌++◌, length, take, drop, get_or}
use Rattle.std.proofs.Common.{Some, Result, Ok, Err, refl, ap, subst, sym, ◌∙◌, append_assoc, add-one, drop-cons, arith}
use Rattle.std.specs.List.{AllByRecursion}
use Rattle.std.specs.Prelude.{IsTrue}
use native.Mathlib.Numerals.{unary_clauses}
use Rattle.std.proofs.lemmas.List.{length-append, length-take-le, take-append-drop, take_at, drop_at, drop_all}
use Rattle.std.proofs.lemmas.List.{append-nil}
use Rattle.wc_binary.specs.declared.fault.BinFault.{BinFault}
use Rattle.wc_binary.specs.declared.fault.BinWhy.TheVariants.{End}
use Rattle.wc_binary.specs.Standard.Phrase.{Halt, halt, Phrase, byte}
use Rattle.wc_binary.specs.Reading.Reading.{Got, got, fault, ◌and_then◌, read}
use Rattle.wc_binary.specs.Reading.Source.{Input, NextGives, Takes, Passes, AreAhead, Fails, Gave}
use Rattle.wc_binary.specs.Standard.Values.{times, any_byte, exactly, only, IsByte}
use Rattle.wc_binary.specs.declared.fault.BinWhy.{BinWhy}
use Rattle.wc_binary.specs.Standard.Sections.{skip}
use Rattle.wc_binary.proofs.phrases.AnyByte.{byte-stands}
use Rattle.wc_binary.proofs.reading.ahead.Fronts.{bytes_to, within-before, bytes-split, phrase-to}
use Rattle.wc_binary.proofs.reading.Going.{EndsAt, GoesOn-trans}
use Rattle.wc_binary.proofs.reading.Behind.{Leads, leads-trans, leads-fail, leads-done, first-fails, behind-leads}

-- what was read before, and what is still read
abbrev pub with_first : {A : Type 0} → List A → Result (Got (List A)) Halt → Result (Got (List A)) Halt
with_first first r = r and_then λ g. got (first ++ g.value) g.place g.left

regroup : {A : Type 0} (first : List A) (v : A) (r : Result (Got (List A)) Halt)
    → with_first first (r and_then λ g. got (v ∷ g.value) g.place g.left) ≡ with_first (first ++ v ∷ []) r
regroup first v (Ok g) = rw (append_assoc first (v ∷ []) g.value) refl
regroup first v (Err f) = refl

with-cons : {A : Type 0} (v : A) (vs : List A) (r : Result (Got (List A)) Halt)
    → (with_first vs r and_then λ g. got (v ∷ g.value) g.place g.left) ≡ with_first (v ∷ vs) r
with-cons v vs (Ok g) = refl
with-cons v vs (Err f) = refl

with-first-twice : {A : Type 0} (first more : List A) (r : Result (Got (List A)) Halt)
    → with_first first (with_first more r) ≡ with_first (first ++ more) r
with-first-twice first more (Ok g) = rw (append_assoc first more g.value) refl
with-first-twice first more (Err f) = refl

-- nothing was read before
pub whole_first : {A : Type 0} (r : Result (Got (List A)) Halt) → with_first [] r ≡ r
whole_first (Ok g) = refl
whole_first (Err f) = refl

module _ {A : Type 0} (p : Phrase A) (first : List A) (count i : ℕ) (old mid : Input)
    (total : List ℕ → Result (Got (List A)) Halt)
    (so_far : Leads old mid (λ x. with_first first (read (times (count - i) p) mid.place x)) total) (lt : i < count)
  where
    pub times-more : (v : A) (new : Input) → Gave mid new (Ok v) (λ x. read p mid.place x)
        → Leads old new (λ x. with_first (first ++ v ∷ []) (read (times (count - (i + 1)) p) new.place x)) total
    times-more v new h =
        let k : count - i ≡ suc (count - (i + 1)) = omega arith in
        record {
          going = GoesOn-trans old mid new so_far.going h.0;
          same = λ w. let s = so_far.same w in let e = h.1 s.0 in (
            e.0,
            λ c le.
                let rest = read (times (count - (i + 1)) p) new.place (bytes_to c new) in
                let read_to = phrase-to p mid new v e.1 c le in
                let one : with_first first (read (times (count - i) p) mid.place (bytes_to c mid))
                ≡ with_first (first ++ v ∷ []) rest = rw (k, read_to) (regroup first v rest) in
                sym one ∙ s.1 c (within-before mid.place new.place c h.0.forward le),
          );
        }

    pub times-fails : (new : Input) (e : BinFault) → Fails mid new e (λ x. read p mid.place x) → Fails old new e total
    times-fails new e h =
        let k : count - i ≡ suc (count - (i + 1)) = omega arith in
        leads-fail old mid new (λ x. with_first first (read (times (count - i) p) mid.place x)) total so_far e
        (first-fails mid new (λ x. read p mid.place x) (λ x. with_first first (read (times (count - i) p) mid.place x))
        (λ x f q. rw (k, q) refl) e h)

-- all were read
pub times-done : {A : Type 0} (p : Phrase A) (first : List A) (count i : ℕ) (old now : Input)
    (total : List ℕ → Result (Got (List A)) Halt)
    → Leads old now (λ x. with_first first (read (times (count - i) p) now.place x)) total → count ≤ i
    → Gave old now (Ok first) total
times-done p first count i old now total so_far le =
    let none : count - i ≡ 0 = omega arith in
    leads-done old now (λ x. with_first first (read (times (count - i) p) now.place x)) total so_far first
    (λ x. rw none (rw append-nil refl))

module _ (old new : Input) where
  -- the next byte, read by its phrase
  pub byte-gave : (b : ℕ) → NextGives old new (Ok (Some b)) → Gave old new (Ok b) (λ x. read any_byte old.place x)
  unfolding any_byte
  byte-gave b next = (next.0, λ w. let e = next.2 w in (e.0, rw (e.1, next.1, byte-stands b next.3) refl))

-- bytes that are there, in front of what follows them
behind-bytes : (bytes : List ℕ) (count o : ℕ) (x : List ℕ) → length bytes ≤ count → AllByRecursion IsByte bytes
    → read (times count any_byte) o (bytes ++ x)
    ≡ with_first bytes (read (times (count - length bytes) any_byte) (o + length bytes) x)
unfolding any_byte
behind-bytes [] count o x le are = simp unary_clauses (sym (whole_first (read (times count any_byte) o x)))
behind-bytes (b ∷ bs) zero o x le are = absurd (omega arith)
behind-bytes (b ∷ bs) (suc n) o x le are =
    let fewer : suc n - length (b ∷ bs) ≡ n - length bs = omega arith in
    let place : o + length (b ∷ bs) ≡ o + 1 + length bs = omega arith in
    rw (fewer, place, byte-stands b are.0, behind-bytes bs n (o + 1) x (omega (arith, le)) are.1)
    (with-cons b bs (read (times (n - length bs) any_byte) (o + 1 + length bs) x))

-- the bytes taken at once, behind those read before
pub times-bytes : (first : List ℕ) (count : ℕ) (old mid new : Input) (total : List ℕ → Result (Got (List ℕ)) Halt)
    → Leads old mid (λ x. with_first first (read (times count any_byte) mid.place x)) total
    → (bytes : List ℕ) → length bytes ≤ count → Takes mid new bytes
    → Leads old new (λ x. with_first (first ++ bytes) (read (times (count - length bytes) any_byte) new.place x)) total
times-bytes first count old mid new total so_far bytes le takes = record {
  going = GoesOn-trans old mid new so_far.going takes.0;
  same = λ w. let s = so_far.same w in let e = takes.2 s.0 in (
    e.0,
    λ c within.
        let rest = bytes_to c new in
        let split = bytes-split mid new bytes e.1 takes.1 c within in
        let there = behind-bytes bytes count mid.place rest le takes.3 in
        let joined = sym (with-first-twice first bytes
        (read (times (count - length bytes) any_byte) (mid.place + length bytes) rest))
        ∙ ap (with_first first) (sym there) in
        let placed = ap (λ q. with_first (first ++ bytes) (read (times (count - length bytes) any_byte) q rest)) takes.1
        in
        placed ∙ joined ∙ ap (λ z. with_first first (read (times count any_byte) mid.place z)) (sym split)
        ∙ s.1 c (within-before mid.place new.place c takes.0.forward within),
  );
}

-- all that are wanted, taken at once
pub times-taken : (old new : Input) (bytes : List ℕ) (n : ℕ) → length bytes ≡ n → Takes old new bytes
    → Gave old new (Ok bytes) (λ x. read (times n any_byte) old.place x)
times-taken old new bytes n long takes = (
  takes.0,
  λ w.
      let e = takes.2 w in
      let none : n - length bytes ≡ 0 = omega (arith, long) in
      let there = behind-bytes bytes n old.place new.left (omega (arith, long)) takes.3 in
      (e.0, rw (e.1, there, none, takes.1) (rw append-nil refl)),
)

-- the bytes that were ahead are those that were dropped
pub ahead-taken : (old new : Input) (bytes : List ℕ) (count dropped : ℕ) → dropped ≡ count
    → AreAhead old count bytes → Passes count old new dropped → Takes old new bytes
ahead-taken old new bytes count dropped all ahead passes = (
  passes.0,
  rw ahead.0 (passes.2 ∙ ap (λ n. old.place + n) all),
  λ w. let e = passes.3 w in (e.0, rw (ahead.1 w, e.2, all) (sym (take-append-drop count old.left))),
  ahead.2,
)

-- no byte, where more are wanted
pub times-end : (first : List ℕ) (count : ℕ) (old mid : Input) (total : List ℕ → Result (Got (List ℕ)) Halt)
    → Leads old mid (λ x. with_first first (read (times (count - length first) any_byte) mid.place x)) total
    → length first < count → IsTrue old.known → IsTrue mid.known × EndsAt mid.place old mid total
unfolding any_byte
times-end first count old mid total so_far lt w =
    let s = so_far.same w in
    let k : count - length first ≡ suc (count - (length first + 1)) = omega arith in (
      s.0,
      λ c within e.
          let one : with_first first (read (times (count - length first) any_byte) mid.place (bytes_to c mid))
          ≡ Err (halt mid.place End mid.place) = rw (k, e) refl in
          sym (s.1 c within) ∙ one,
    )

-- a byte, and those taken at once behind it
pub times-round : (first : List ℕ) (count : ℕ) (old mid next : Input) (total : List ℕ → Result (Got (List ℕ)) Halt)
    → Leads old mid (λ x. with_first first (read (times (count - length first) any_byte) mid.place x)) total
    → length first < count → (b : ℕ) → NextGives mid next (Ok (Some b))
    → (pushed : List ℕ) → pushed ≡ first ++ b ∷ [] → (now : Input) (bytes after : List ℕ) → after ≡ pushed ++ bytes
    → length bytes ≤ count - length pushed → Takes next now bytes
    → (length after ≤ count)
    × Leads old now (λ x. with_first after (read (times (count - length after) any_byte) now.place x)) total
times-round first count old mid next total so_far lt b gave pushed one now bytes after more le takes =
    let n : length pushed ≡ length first + 1 = rw (one, length-append first (b ∷ [])) refl in
    let m : length after ≡ length pushed + length bytes = rw (more, length-append pushed bytes) refl in
    let fewer : count - length after ≡ count - length pushed - length bytes = omega arith in
    let behind_byte = times-more any_byte first count (length first) old mid total so_far lt b next
    (byte-gave mid next b gave) in (
      omega (arith, le),
      rw fewer (rw more (times-bytes pushed (count - length pushed) old next now total
          (rw (n, one) behind_byte) bytes le takes)),
    )

-- bytes that are there are skipped
skip-first : (dropped count o : ℕ) (x : List ℕ) → dropped ≤ count → dropped ≤ length x
    → AllByRecursion IsByte (take dropped x)
    → read (skip count) o x ≡ read (skip (count - dropped)) (o + dropped) (drop dropped x)
unfolding any_byte
skip-first zero count o x le has are = simp unary_clauses refl
skip-first (suc n) zero o x le has are = absurd (omega (arith, le))
skip-first (suc n) (suc m) o [] le has are = absurd (omega (arith, has))
skip-first (suc n) (suc m) o (b ∷ x) le has are =
    let fewer : suc m - suc n ≡ m - n = omega arith in
    let place : o + suc n ≡ o + 1 + n = omega arith in
    rw (fewer, place, byte-stands b are.0)
    (skip-first n m (o + 1) x (omega (arith, le)) (omega (arith, has)) are.1)

-- a byte that is skipped
skip-byte : (count : ℕ) (old mid new : Input) (total : List ℕ → Result (Got (Unit {0})) Halt) → 0 < count
    → Leads old mid (λ x. read (skip count) mid.place x) total → (b : ℕ) → NextGives mid new (Ok (Some b))
    → Leads old new (λ x. read (skip (count - 1)) new.place x) total
unfolding any_byte
skip-byte count old mid new total lt so_far b next =
    let k : count ≡ suc (count - 1) = omega (arith, lt) in
    record {
      going = GoesOn-trans old mid new so_far.going next.0;
      same = λ w. let s = so_far.same w in let e = next.2 s.0 in (
        e.0,
        λ c le.
            let split = bytes-split mid new (b ∷ []) e.1 next.1 c le in
            let one : read (skip (suc (count - 1))) mid.place (bytes_to c mid)
            ≡ read (skip (count - 1)) new.place (bytes_to c new) = rw (split, next.1, byte-stands b next.3) refl in
            sym one ∙ ap (λ n. read (skip n) mid.place (bytes_to c mid)) (sym k)
            ∙ s.1 c (within-before mid.place new.place c next.0.forward le),
      );
    }

-- no byte, where more are to be skipped
pub skip-end : (old mid : Input) (total : List ℕ → Result (Got (Unit {0})) Halt) (count : ℕ) → 0 < count
    → Leads old mid (λ x. read (skip count) mid.place x) total
    → IsTrue old.known → IsTrue mid.known × EndsAt mid.place old mid total
unfolding any_byte
skip-end old mid total count lt so_far w =
    let s = so_far.same w in
    let k : count ≡ suc (count - 1) = omega (arith, lt) in (
      s.0,
      λ c within e.
          let one : read (skip (suc (count - 1))) mid.place (bytes_to c mid) ≡ fault mid.place End mid.place =
          rw e refl in
          sym (s.1 c within) ∙ ap (λ n. read (skip n) mid.place (bytes_to c mid)) k ∙ one,
    )

-- all were skipped
pub skip-done : (count : ℕ) (old now : Input) (total : List ℕ → Result (Got (Unit {0})) Halt)
    → Leads old now (λ x. read (skip count) now.place x) total → count ≤ 0 → Gave old now (Ok tt) total
skip-done count old now total so_far le =
    let none : count ≡ 0 = omega arith in
    leads-done old now (λ x. read (skip count) now.place x) total so_far tt (λ x. rw none refl)

-- a byte, and those dropped at once behind it
pub skip-round : (count : ℕ) (old mid next : Input) (total : List ℕ → Result (Got (Unit {0})) Halt) → 0 < count
    → Leads old mid (λ x. read (skip count) mid.place x) total → (b : ℕ) → NextGives mid next (Ok (Some b))
    → (now : Input) (dropped : ℕ) → Passes (count - 1) next now dropped
    → Leads old now (λ x. read (skip (count - 1 - dropped)) now.place x) total
skip-round count old mid next total lt so_far b gave now dropped passes =
    let so_on = skip-byte count old mid next total lt so_far b gave in
    record {
      going = GoesOn-trans old next now so_on.going passes.0;
      same = λ w. let s = so_on.same w in let e = passes.3 s.0 in (
        e.0,
        λ c le.
            let first = take dropped next.left in
            let rest = bytes_to c now in
            let long : length first ≡ dropped = length-take-le dropped next.left e.1 in
            let whole : next.left ≡ first ++ now.left =
            sym (take-append-drop dropped next.left) ∙ ap (λ z. first ++ z) (sym e.2) in
            let split = bytes-split next now first whole (passes.2 ∙ ap (λ n. next.place + n) (sym long)) c le in
            let are = subst (AllByRecursion IsByte) (sym (take_at first rest dropped long)) e.3 in
            let has : dropped ≤ length (first ++ rest) = omega (arith, long, length-append first rest) in
            let one = skip-first dropped (count - 1) next.place (first ++ rest) passes.1 has are in
            let behind = ap (λ z. read (skip (count - 1 - dropped)) (next.place + dropped) z)
            (drop_at first rest dropped long) in
            let placed = ap (λ q. read (skip (count - 1 - dropped)) q rest) passes.2 in
            placed ∙ sym behind ∙ sym one ∙ ap (λ z. read (skip (count - 1)) next.place z) (sym split)
            ∙ s.1 c (within-before next.place now.place c passes.0.forward le),
      );
    }

-- ---- bytes that are wanted, one after the other

module _ (bytes : List ℕ) (why : BinWhy) (i : ℕ) (old mid : Input) (total : List ℕ → Result (Got (Unit {0})) Halt)
    (so_far : Leads old mid (λ x. read (exactly (drop i bytes) why) mid.place x) total) where
  next_byte : i < length bytes → drop i bytes ≡ get_or bytes i 0 ∷ drop (i + 1) bytes
  next_byte lt = rw add-one (drop-cons bytes i 0 lt)

  pub exactly-more : i < length bytes → (new : Input)
      → Gave mid new (Ok tt) (λ x. read (byte (only (get_or bytes i 0) why)) mid.place x)
      → Leads old new (λ x. read (exactly (drop (i + 1) bytes) why) new.place x) total
  exactly-more lt new h =
      let rest = exactly (drop (i + 1) bytes) why in
      let is = next_byte lt in
      leads-trans old mid new (λ x. read (exactly (drop i bytes) why) mid.place x) total so_far
      (λ x. read rest new.place x)
      (rw is (behind-leads (byte (only (get_or bytes i 0) why)) (λ g. read rest g.place g.left) mid new tt h))

  pub exactly-fails : i < length bytes → (new : Input) (e : BinFault)
      → Fails mid new e (λ x. read (byte (only (get_or bytes i 0) why)) mid.place x) → Fails old new e total
  exactly-fails lt new e h =
      let is = next_byte lt in
      leads-fail old mid new (λ x. read (exactly (drop i bytes) why) mid.place x) total so_far e
      (first-fails mid new (λ x. read (byte (only (get_or bytes i 0) why)) mid.place x)
      (λ x. read (exactly (drop i bytes) why) mid.place x) (λ x f q. rw is (rw q refl)) e h)

  pub exactly-done : length bytes ≤ i → Gave old mid (Ok tt) total
  exactly-done le =
      let none = drop_all i bytes le in
      leads-done old mid (λ x. read (exactly (drop i bytes) why) mid.place x) total so_far tt (λ x. rw none refl)
