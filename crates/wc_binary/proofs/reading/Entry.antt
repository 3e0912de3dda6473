-- From a source to the whole input.
use Rattle.std.proofs.Common.{◌≡◌, ℕ, ◌+◌, ◌≤◌, ◌||◌, List, [], ◌∷◌, ◌++◌, length, Option, Some, None, Result, Ok, Err}
use Rattle.std.proofs.Common.{IfSome, IfErr, OnOk, Bool, false, refl, ap, subst, sym, ◌∙◌}
use Rattle.std.specs.Prelude.{IsTrue}
use Rattle.std.specs.Option.{is_some, unwrap_or}
use Rattle.std.specs.Io.KnownBytes.{IsAtEnd}
use Rattle.wc_ast.specs.declared.module.Module.{Module}
use Rattle.wc_binary.specs.declared.fault.BinFault.{BinFault}
use Rattle.wc_binary.specs.declared.fault.BinFault.TheVariants.{Bad, Read, Memory}
use Rattle.wc_binary.specs.Reading.Source.{Input, IsEnded}
use Rattle.wc_device.specs.Standard.Device.{buffer_size}
use Rattle.wc_binary.specs.Standard.Decoding.{Decodes, DecodesNear, DecodesCut}
use Rattle.wc_binary.specs.Reading.Modules.{ModuleGives}

-- ---- what a source gives of these bytes

module _ (x : List ℕ) (old new : Input) (k : IsTrue old.known) (e : old.left ≡ x) where
  -- is what they decode to
  pub decodes-told : (r : Result Module BinFault) → ModuleGives old new r → Decodes x r
  decodes-told (Ok m) h = rw e at (h.1 k).0
  decodes-told (Err (Bad at why)) h = (new.place, rw e at (h.1 k))
  decodes-told (Err (Read at)) h = tt
  decodes-told (Err Memory) h = tt

  -- is told near its place
  near-told : (r : Result Module BinFault) → new.count ≤ new.place + buffer_size → ModuleGives old new r
      → DecodesNear new.count x r
  near-told (Ok m) le h = h.2.0 ∙ (h.1 k).1 ∙ ap length e
  near-told (Err (Bad at why)) le h = (new.place, rw e at (h.1 k), le)
  near-told (Err (Read at)) le h = tt
  near-told (Err Memory) le h = tt

  -- leaves no fault behind, where a read failed
  cut-told : (r : Result Module BinFault) → ModuleGives old new r → DecodesCut x r
  cut-told (Ok m) h = tt
  cut-told (Err (Bad at why)) h = tt
  cut-told (Err (Read at)) h = rw e at (h.1 k)
  cut-told (Err Memory) h = tt

-- ---- the same of bytes at hand and those that a reader tells

module _ (old new : Input) (r : Result Module BinFault) (h : ModuleGives old new r) (front pending : List ℕ)
    (same : pending ≡ front) where
  -- the input is what is pending, and then what the reader tells
  abbrev IsFed : Option (List ℕ) → Type 0
  IsFed rest = (old.known ≡ is_some rest) × (old.left ≡ pending ++ unwrap_or rest [])

  whole : (x : List ℕ) → IsFed (Some x) → old.left ≡ front ++ x
  whole x f = f.1 ∙ ap (λ (y : List ℕ). y ++ x) same

  pub decodes-fed : (rest : Option (List ℕ)) → IsFed rest → IfSome rest (λ x. Decodes (front ++ x) r)
  decodes-fed None f = tt
  decodes-fed (Some x) f = decodes-told (front ++ x) old new f.0 (whole x f) r h

  pub near-fed : (rest : Option (List ℕ)) → IsFed rest → (count : ℕ) → new.count ≡ count
      → new.count ≤ new.place + buffer_size → IfSome rest (λ x. DecodesNear count (front ++ x) r)
  near-fed None f count is le = tt
  near-fed (Some x) f count is le =
      subst (λ (n : ℕ). DecodesNear n (front ++ x) r) is (near-told (front ++ x) old new f.0 (whole x f) r le h)

  pub cut-fed : (rest : Option (List ℕ)) → IsFed rest → IfSome rest (λ x. DecodesCut (front ++ x) r)
  cut-fed None f = tt
  cut-fed (Some x) f = cut-told (front ++ x) old new f.0 (whole x f) r h

-- ---- how the reader is left

no-more : (pending x : List ℕ) → pending ++ x ≡ [] → x ≡ []
no-more [] x e = e
no-more (b ∷ pending) x e = absurd cc

module _ (old new : Input) where
  at-end : (pending : List ℕ) (rest : Option (List ℕ)) → new.known ≡ is_some rest
      → new.left ≡ pending ++ unwrap_or rest [] → IsEnded new → IsAtEnd rest
  at-end pending None k l h = tt
  at-end pending (Some x) k l h = no-more pending x (sym l ∙ h.1 k)

  pub ends-fed : (pending : List ℕ) (rest : Option (List ℕ)) (r : Result Module BinFault) → new.known ≡ is_some rest
      → new.left ≡ pending ++ unwrap_or rest [] → ModuleGives old new r → OnOk r (IsAtEnd rest)
  ends-fed pending rest (Ok m) k l h = at-end pending rest k l h.2
  ends-fed pending rest (Err e) k l h = tt

  failed-at : (e : BinFault) → old.failed ≡ None → ModuleGives old new (Err e) → (at : ℕ) → e ≡ Read at
      → new.failed ≡ Some at
  failed-at (Bad a why) none h at is = absurd cc
  failed-at (Read a) none h at is = let same : a ≡ at = cc in h.0.failed none ∙ ap (λ (q : ℕ). Some q) same
  failed-at Memory none h at is = absurd cc

  -- a failed read is the first failure
  pub fails-at : (r : Result Module BinFault) → old.failed ≡ None → ModuleGives old new r
      → IfErr r (λ e. (at : ℕ) → e ≡ Read at → new.failed ≡ Some at)
  fails-at (Ok m) none h = tt
  fails-at (Err e) none h = failed-at e none h

  -- the device is the same
  pub same-lender : (r : Result Module BinFault) → ModuleGives old new r → new.lender ≡ old.lender
  same-lender (Ok m) h = h.0.lender
  same-lender (Err (Bad at why)) h = h.0.lender
  same-lender (Err (Read at)) h = h.0.lender
  same-lender (Err Memory) h = h.lender

  -- no read was asked for after it, or after the end
  pub never-again : (r : Result Module BinFault) → old.spent ≡ false → ModuleGives old new r → new.asked ≡ old.asked
  never-again (Ok m) unspent h = h.0.asked unspent
  never-again (Err (Bad at why)) unspent h = h.0.asked unspent
  never-again (Err (Read at)) unspent h = h.0.asked unspent
  never-again (Err Memory) unspent h = h.asked unspent

pub none-failed : (o : Option ℕ) → is_some o ≡ false → o ≡ None
none-failed None e = refl
none-failed (Some n) e = absurd cc

pub unspent : (failed ended : Bool) → failed ≡ false → ended ≡ false → (failed || ended) ≡ false
unspent failed ended e f = rw (e, f) refl
