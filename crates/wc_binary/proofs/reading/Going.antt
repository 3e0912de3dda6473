-- Reading goes on from place to place of one device.
use Rattle.std.proofs.Common.{◌≡◌, ℕ, List, [], Option, Some, None, Result, Err, refl, sym, ap, ◌∙◌, arith}
use Rattle.std.specs.Prelude.{IsTrue}
use Rattle.wc_binary.specs.declared.fault.BinFault.{BinFault}
use Rattle.wc_binary.specs.declared.fault.BinFault.TheVariants.{Bad, Read, Memory}
use Rattle.wc_binary.specs.declared.fault.BinWhy.TheVariants.{End}
use Rattle.wc_binary.specs.Standard.Phrase.{Halt, halt}
use Rattle.wc_binary.specs.Reading.Reading.{Got}
use Rattle.wc_binary.specs.Reading.Source.{Input, GoesOn, Stopped, ReadFailed, ByteGives, Fails}
use Rattle.wc_binary.proofs.reading.ahead.Fronts.{bytes_to, IsWithin}

pub GoesOn-refl : (i : Input) → GoesOn i i
GoesOn-refl i = record { forward = omega arith; failed = refl; spent = refl; asked = λ e. refl; lender = refl }

pub GoesOn-trans : (a b c : Input) → GoesOn a b → GoesOn b c → GoesOn a c
GoesOn-trans a b c p q = record {
  forward = let f = p.forward in let g = q.forward in omega arith;
  failed = q.failed ∙ p.failed;
  spent = q.spent ∙ p.spent;
  asked = λ e. q.asked (p.spent ∙ e) ∙ p.asked e;
  lender = q.lender ∙ p.lender;
}

-- what goes on may stop there
pub GoesOn-stops : (a b : Input) → GoesOn a b → Stopped a b
GoesOn-stops a b p = record { forward = p.forward; failed = p.failed; asked = p.asked; lender = p.lender }

pub Stopped-refl : (i : Input) → Stopped i i
Stopped-refl i = GoesOn-stops i i (GoesOn-refl i)

pub Stopped-behind : (a b c : Input) → GoesOn a b → Stopped b c → Stopped a c
Stopped-behind a b c p q = record {
  forward = let f = p.forward in let g = q.forward in omega arith;
  failed = q.failed ∙ p.failed;
  asked = λ e. q.asked (p.spent ∙ e) ∙ p.asked e;
  lender = q.lender ∙ p.lender;
}

pub ReadFailed-behind : (a b c : Input) (at : ℕ) → GoesOn a b → ReadFailed b c at → ReadFailed a c at
ReadFailed-behind a b c at p q = record {
  forward = let f = p.forward in let g = q.forward in omega arith;
  has_failed = q.has_failed;
  failed = λ e. q.failed (p.failed ∙ e);
  count = q.count;
  asked = λ e. q.asked (p.spent ∙ e) ∙ p.asked e;
  lender = q.lender ∙ p.lender;
}

-- of the bytes up to a place, where none of them is left: the reading from old on ends for want of a byte
abbrev pub EndsAt : {A : Type 0} → ℕ → Input → Input → (List ℕ → Result (Got A) Halt) → Type 0
EndsAt p old mid r =
    (c : Option ℕ) → IsWithin mid.place c → bytes_to c mid ≡ [] → r (bytes_to c old) ≡ Err (halt p End p)

-- where no byte could be taken on the way: what the reading gives of bytes of which none is left
pub byte-fails : {A : Type 0} (old mid new : Input) → GoesOn old mid → (f : BinFault) → ByteGives mid new (Err f)
    → (r : List ℕ → Result (Got A) Halt)
    → (IsTrue old.known → IsTrue mid.known × EndsAt mid.place old mid r) → Fails old new f r
byte-fails old mid new going (Bad at why) h r none =
    let p = h.1 in
    let w = h.2 in
    let next = h.0 in
    let place = next.1 in
    rw (p, w) (
      Stopped-behind old mid new going next.0,
      λ k. let n = none k in rw place (n.1 None tt (next.2 n.0).1),
    )
byte-fails old mid new going (Read at) h r none = (
  ReadFailed-behind old mid new at going h.0,
  λ k. let n = none k in n.1 (Some at) h.0.forward h.1 ∙ ap (λ q. Err (halt q End q)) (sym h.2),
)
byte-fails old mid new going Memory h r none = absurd h
