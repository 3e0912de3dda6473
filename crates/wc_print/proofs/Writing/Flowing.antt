-- How bytes go out to a writer one behind another.
use Rattle.std.proofs.Common.{◌≡◌, ℕ, zero, suc, ◌+◌, ◌-◌, ◌<◌, ◌≤◌, nat_lt, Bool, true, false, ◌||◌, ◌&&◌, ◌^◌}
use Rattle.std.proofs.Common.{List, [], ◌++◌, length, take, Option, Ok, Err, ◌⊎◌, inl, inr, refl, sym, ap, subst}
use Rattle.std.proofs.lemmas.Bool.{false≢true}
use Rattle.std.proofs.Common.{◌∙◌, append_assoc, arith, lt-ltb}
use Rattle.std.proofs.lemmas.List.{append-nil, length-append, take-append-le, take_all}
use Rattle.std.proofs.Math.Seq.{take-append-add}
use Rattle.std.proofs.KnownBytes.{Appends-trans, Appends-nil, Appends-kept}
use Rattle.std.specs.Io.KnownBytes.{Appends, Keeps}
use Rattle.wc_print.specs.Standard.Sending.{Sends}
use Rattle.wc_device.specs.Standard.Device.{device_inner, has_failed, countable, was_asked_again, flush_count, one_more}
use Rattle.wc_device.specs.Standard.Device.{is_unflushed, has_lost, LosesBehind, FlushedBehindAll}
use Rattle.wc_device.specs.declared.io_device.Device.{Device}
use Rattle.wc_print.specs.declared.outlet.Outlet.{Outlet}
use Rattle.wc_print.specs.Writing.Flows.{Flows, FlowsUnless, OnlyWrites}
use Rattle.wc_print.specs.Writing.Outlet.{HasSent}

-- what waited went out
pub all-sent : (first old new : Option (List ℕ)) (sent n : ℕ) (bytes said : List ℕ) → Flows first old sent bytes said
    → Appends old new bytes → n ≡ sent + length bytes → Flows first new n [] said
all-sent first old new sent n bytes said h k e = record {
  out = h.out ++ bytes;
  appends = Appends-trans first old new h.out bytes h.appends k;
  counted = omega (arith, e, h.counted, length-append h.out bytes);
  all = h.all ∙ sym (append-nil (h.out ++ bytes));
}

-- the writer failed before all of it went out
pub some-sent : (first old new : Option (List ℕ)) (sent n : ℕ) (bytes said : List ℕ) → Flows first old sent bytes said
    → sent ≤ n → n < sent + length bytes → Appends old new (take (n - sent) bytes)
    → (n < length said) × Appends first new (take n said)
some-sent first old new sent n bytes said h ge le k =
    let size : length said ≡ length h.out + length bytes = ap length h.all ∙ length-append h.out bytes in
    let here : n ≡ length h.out + (n - sent) = omega (arith, ge, h.counted) in
    let front : take n said ≡ h.out ++ take (n - sent) bytes =
    ap (λ (x : List ℕ). take n x) h.all ∙ ap (λ (x : ℕ). take x (h.out ++ bytes)) here
    ∙ take-append-add h.out bytes (n - sent) in (
      omega (arith, size, le, h.counted),
      subst (λ (x : List ℕ). Appends first new x) (sym front)
          (Appends-trans first old new h.out (take (n - sent) bytes) h.appends k),
    )

-- more bytes wait, or are lost
pub more-put : (failed : Bool) (first new : Option (List ℕ)) (sent : ℕ) (waiting more bytes said : List ℕ)
    → FlowsUnless failed first new sent waiting said → more ≡ waiting ++ bytes
    → FlowsUnless failed first new sent more (said ++ bytes)
more-put false first new sent waiting more bytes said h e = record {
  out = h.out;
  appends = h.appends;
  counted = h.counted;
  all = ap (λ (x : List ℕ). x ++ bytes) h.all ∙ append_assoc h.out waiting bytes
      ∙ ap (λ (x : List ℕ). h.out ++ x) (sym e);
}
more-put true first new sent waiting more bytes said h e = (
  omega (arith, h.0, length-append said bytes),
  subst (λ (x : List ℕ). Appends first new x) (sym (take-append-le sent said bytes (omega (arith, h.0)))) h.1,
)

-- ---- one step

pub sent-on : (was is : Bool) (first old new : Option (List ℕ)) (sent n : ℕ) (bytes said : List ℕ) → was ≡ false
    → is ≡ was
    → FlowsUnless was first old sent bytes said → Appends old new bytes → n ≡ sent + length bytes
    → FlowsUnless is first new n [] said
sent-on false false first old new sent n bytes said f g h k e = all-sent first old new sent n bytes said h k e
sent-on false true first old new sent n bytes said f g h k e = absurd cc
sent-on true is first old new sent n bytes said f g h k e = absurd cc

pub cut-off : (was is : Bool) (first old new : Option (List ℕ)) (sent n : ℕ) (bytes said : List ℕ) → was ≡ false
    → is ≡ true
    → FlowsUnless was first old sent bytes said
    → (sent ≤ n) × (n ≤ sent + length bytes) × Appends old new (take (n - sent) bytes) → n < sent + length bytes
    → FlowsUnless is first new n [] said
cut-off false true first old new sent n bytes said f g h k l = some-sent first old new sent n bytes said h k.0 l k.2
cut-off false false first old new sent n bytes said f g h k l = absurd cc
cut-off true is first old new sent n bytes said f g h k l = absurd cc

pub lost : (was : Bool) (first old : Option (List ℕ)) (sent : ℕ) (bytes said : List ℕ) → was ≡ true
    → FlowsUnless was first old sent bytes said → FlowsUnless was first old sent [] said
lost true first old sent bytes said f h = h
lost false first old sent bytes said f h = absurd cc

-- ---- what the writer was asked for

not-again : (again failed some : Bool) → failed ≡ false → (again || (failed && some)) ≡ again
not-again true failed some f = refl
not-again false false some f = refl
not-again false true some f = absurd cc

not-again-flushed : (again failed : Bool) → failed ≡ false → (again || failed) ≡ again
not-again-flushed true failed f = refl
not-again-flushed false failed f = f

-- some of them can be counted
some-counted : (more : ℕ) → 0 < more → 0 < countable more 0
some-counted more lt = omega (arith, lt)

-- a write was asked for, before or now
some-asked : (was : Bool) (count more : ℕ) → (0 < count → was ≡ true) → 0 < count + more
    → (was || nat_lt 0 (countable more count)) ≡ true
some-asked true count more h lt = refl
some-asked false zero more h lt = lt-ltb 0 (countable more 0) (some-counted more (omega (arith, lt)))
some-asked false (suc k) more h lt = absurd (false≢true (h (omega arith)))

-- nothing, before anything is put
not-asked : {W : Type 0} (d : Device W) (sent : ℕ) → has_failed d ≡ false → sent ≡ 0 → OnlyWrites d d sent
not-asked d sent f e = record {
  again = refl;
  flushes = refl;
  some = λ lt. absurd (omega (arith, lt, e));
  failed = λ t. absurd cc;
  kept = λ _. refl;
  lost = inl refl;
}

pub asked-on : {W : Type 0} (first old new : Device W) (sent n more : ℕ) → has_failed old ≡ false
    → has_failed new ≡ has_failed old → n ≡ sent + more
    → was_asked_again new ≡ (was_asked_again old || (has_failed old && nat_lt 0 (countable more sent)))
    → flush_count new ≡ flush_count old → is_unflushed new ≡ (is_unflushed old || nat_lt 0 (countable more sent))
    → has_lost new ≡ has_lost old → OnlyWrites first old sent → OnlyWrites first new n
asked-on first old new sent n more f g e again flushes unflushed lost h = record {
  again = again ∙ not-again _ _ _ f ∙ h.again;
  flushes = flushes ∙ h.flushes;
  some = λ lt. unflushed ∙ some-asked (is_unflushed old) sent more h.some (omega (arith, lt, e));
  failed = λ t. absurd cc;
  kept = λ _. lost ∙ h.kept f;
  lost = inl (lost ∙ h.kept f);
}

-- bytes were lost only behind as many as can be counted, also since before, where none were lost
loses-since : {W : Type 0} (first old new : Device W) (n : ℕ) → has_lost old ≡ has_lost first → LosesBehind n old new
    → LosesBehind n first new
loses-since first old new n e (inl k) = inl (k ∙ e)
loses-since first old new n e (inr k) = inr k

pub asked-last : {W : Type 0} (first old new : Device W) (sent n more : ℕ) → has_failed old ≡ false
    → has_failed new ≡ true → n < sent + more
    → was_asked_again new ≡ (was_asked_again old || (has_failed old && nat_lt 0 (countable more sent)))
    → flush_count new ≡ flush_count old → is_unflushed new ≡ (is_unflushed old || nat_lt 0 (countable more sent))
    → LosesBehind n old new → OnlyWrites first old sent → OnlyWrites first new n
asked-last first old new sent n more f g lt again flushes unflushed lost h =
    let some : is_unflushed new ≡ true =
    unflushed ∙ some-asked (is_unflushed old) sent more h.some (omega (arith, lt)) in
    record {
      again = again ∙ not-again _ _ _ f ∙ h.again;
      flushes = flushes ∙ h.flushes;
      some = λ _. some;
      failed = λ _. some;
      kept = λ t. absurd cc;
      lost = loses-since first old new n (h.kept f) lost;
    }

-- ---- an outlet

-- nothing was put
pub none-put : (failed : Bool) (first : Option (List ℕ)) (sent : ℕ) (bytes : List ℕ) → failed ≡ false → sent ≡ 0
    → bytes ≡ [] → FlowsUnless failed first first sent bytes []
none-put failed first sent bytes f e z =
    let none : Flows first first 0 [] [] = record {
      out = [];
      appends = Appends-nil first;
      counted = refl;
      all =
          refl;
    } in
    rw (f, e, z) none

pub begun : {W : Type 0} (contents : W → Option (List ℕ)) (o : Outlet W) → has_failed o.device.now ≡ false → o.sent ≡ 0
    → o.waiting.now.items ≡ [] → HasSent contents o o []
begun contents o f e z = record {
  same = refl;
  flows = none-put _ _ o.sent o.waiting.now.items f e z;
  calls = not-asked o.device.now o.sent f e;
}

-- nothing waits
pub emptied : {W : Type 0} (contents : W → Option (List ℕ)) (first now : Outlet W) (said : List ℕ)
    → now.waiting.now.items ≡ []
    → HasSent contents first now (said ++ [])
    → FlowsUnless (has_failed now.device.now) (contents (device_inner first.device.now))
    (contents (device_inner now.device.now)) now.sent [] said
emptied contents first now said z h = rw (append-nil said) at (rw z at h.flows)

-- ---- the end

pub failed-end : (was : Bool) (first old : Option (List ℕ)) (sent : ℕ) (said : List ℕ) → was ≡ true
    → FlowsUnless was first old sent [] said → Sends first old said (Err sent)
failed-end true first old sent said f h = (omega (arith, h.0), h.1)
failed-end false first old sent said f h = absurd cc

-- all of it went out, whatever a flush tells
whole-end : (first old new : Option (List ℕ)) (sent : ℕ) (said : List ℕ) → Flows first old sent [] said → Keeps old new
    → (sent ≡ length said) × Appends first new said
whole-end first old new sent said h k =
    let all : said ≡ h.out = h.all ∙ append-nil h.out in (
      h.counted ∙ ap length (sym all),
      subst (λ (x : List ℕ). Appends first new x) (sym all) (Appends-kept first old new h.out h.appends k),
    )

pub flushed-end : (was : Bool) (first old new : Option (List ℕ)) (sent : ℕ) (said : List ℕ) → was ≡ false
    → FlowsUnless was first old sent [] said → Keeps old new → Sends first new said (Ok sent)
flushed-end false first old new sent said f h k = whole-end first old new sent said h k
flushed-end true first old new sent said f h k = absurd cc

pub unflushed-end : (was : Bool) (first old new : Option (List ℕ)) (sent : ℕ) (said : List ℕ) → was ≡ false
    → FlowsUnless was first old sent [] said → Keeps old new → Sends first new said (Err sent)
unflushed-end false first old new sent said f h k =
    let whole : (sent ≡ length said) × Appends first new said = whole-end first old new sent said h k in
    let all : take sent said ≡ said = take_all sent said (omega (arith, whole.0)) in
    (omega (arith, whole.0), subst (λ (x : List ℕ). Appends first new x) (sym all) whole.1)
unflushed-end true first old new sent said f h k = absurd cc

-- ---- one flush behind all of it

-- of the writer behind the flush: whether it was asked again, how often it was flushed, whether it is unflushed, and
-- whether bytes were lost
pub flushed-again : {W : Type 0} (first old : Device W) (sent : ℕ) (again : Bool) → has_failed old ≡ false
    → again ≡ (was_asked_again old || has_failed old) → OnlyWrites first old sent → again ≡ was_asked_again first
flushed-again first old sent again f e h = e ∙ not-again-flushed _ _ f ∙ h.again

pub flushed-once : {W : Type 0} (first old : Device W) (sent count : ℕ) (unflushed lost : Bool)
    → has_failed old ≡ false
    → (count ≡ one_more (flush_count old)) × (unflushed ≡ false) × (lost ≡ has_lost old) → OnlyWrites first old sent
    → (count ≡ one_more (flush_count first)) × (unflushed ≡ false) × (lost ≡ has_lost first)
flushed-once first old sent count unflushed lost f (c, u, l) h = (c ∙ ap one_more h.flushes, u, l ∙ h.kept f)

all-out : (was : Bool) (first old : Option (List ℕ)) (sent : ℕ) (said : List ℕ) → was ≡ false
    → FlowsUnless was first old sent [] said → sent ≡ length said
all-out false first old sent said f h = h.counted ∙ ap length (sym (h.all ∙ append-nil h.out))
all-out true first old sent said f h = absurd cc

cut-short : (was : Bool) (first old : Option (List ℕ)) (sent : ℕ) (said : List ℕ) → was ≡ true
    → FlowsUnless was first old sent [] said → sent < length said
cut-short true first old sent said f h = h.0
cut-short false first old sent said f h = absurd cc

pub flushed-behind : {W : Type 0} (first old : Device W) (before here : Option (List ℕ)) (sent count : ℕ)
    (unflushed lost : Bool) (said : List ℕ) → has_failed old ≡ false
    → FlowsUnless (has_failed old) before here sent [] said
    → (count ≡ one_more (flush_count old)) × (unflushed ≡ false) × (lost ≡ has_lost old) → OnlyWrites first old sent
    → (sent ≡ length said → (count ≡ one_more (flush_count first)) × (unflushed ≡ false) × (lost ≡ has_lost first))
    × (sent < length said → ((count ≡ flush_count first) × (unflushed ≡ true))
    × ((lost ≡ has_lost first) ⊎ (sent ≡ 2 ^ 64 - 1)))
flushed-behind first old before here sent count unflushed lost said f flows k h =
    let all : sent ≡ length said = all-out _ before here sent said f flows in
    ((λ _. flushed-once first old sent count unflushed lost f k h), λ lt. absurd (omega (arith, lt, all)))

pub not-flushed : {W : Type 0} (first old : Device W) (before here : Option (List ℕ)) (sent : ℕ) (said : List ℕ)
    → has_failed old ≡ true → FlowsUnless (has_failed old) before here sent [] said → OnlyWrites first old sent
    → FlushedBehindAll sent (length said) first old
not-flushed first old before here sent said f flows h =
    let fewer : sent < length said = cut-short _ before here sent said f flows in
    ((λ e. absurd (omega (arith, e, fewer))), λ _. ((h.flushes, h.failed f), h.lost))
