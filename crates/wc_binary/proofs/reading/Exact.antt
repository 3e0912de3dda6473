-- What was decoded is all that the bytes can give.
use Rattle.std.proofs.Common.{◌≡◌, ℕ, List, ◌++◌, Option, Some, None, Result, Ok, Err, IfSome, inl, inr, refl, ap}
use Rattle.wc_ast.specs.declared.module.Module.{Module}
use Rattle.wc_binary.specs.declared.fault.BinFault.{BinFault}
use Rattle.wc_binary.specs.declared.fault.BinFault.TheVariants.{Bad, Read, Memory}
use Rattle.wc_binary.specs.declared.fault.BinWhy.{BinWhy}
use Rattle.wc_binary.specs.Standard.Style.{free}
use Rattle.wc_binary.specs.Standard.Phrase.{Halt, halt}
use Rattle.wc_binary.specs.Standard.Decoding.{Decodes, DecodesOnly, DecodesOnlyFault}
use Rattle.wc_binary.proofs.sections.Order.{bin-rises}
use Rattle.wc_binary.proofs.sections.OneModule.{rises-one, rises-or-stop, one-fault}

pub decodes-only : (x : List ℕ) (r : Result Module BinFault) → Decodes x r → DecodesOnly x r
decodes-only x (Ok n) h = λ m k. rises-one x n m (bin-rises free x n h) (bin-rises free x m k)
decodes-only x (Err (Bad at why)) h = λ m k. rises-or-stop x m (halt at why h.0) (bin-rises free x m k) h.1
decodes-only x (Err (Read at)) h = λ m k. tt
decodes-only x (Err Memory) h = λ m k. tt

same-fault : (a b s t : ℕ) (v w : BinWhy) → halt a v s ≡ halt b w t → Bad a v ≡ Bad b w
same-fault a b s t v w e =
    let place : a ≡ b = ap (λ (f : Halt). f.at) e in
    let why : v ≡ w = ap (λ (f : Halt). f.why) e in
    rw (place, why) refl

pub decodes-only-fault : (x : List ℕ) (r : Result Module BinFault) → Decodes x r → DecodesOnlyFault x r
decodes-only-fault x (Ok n) h = λ at why k. rises-or-stop x n (halt at why k.0) (bin-rises free x n h) k.1
decodes-only-fault x (Err (Bad a w)) h = λ at why k.
    inr (same-fault a at h.0 k.0 w why (one-fault x (halt a w h.0) (halt at why k.0) h.1 k.1))
decodes-only-fault x (Err (Read a)) h = λ at why k. inl tt
decodes-only-fault x (Err Memory) h = λ at why k. inl tt

module _ (front : List ℕ) where
  pub fed-only : (rest : Option (List ℕ)) (r : Result Module BinFault) → IfSome rest (λ x. Decodes (front ++ x) r)
      → IfSome rest (λ x. DecodesOnly (front ++ x) r)
  fed-only None r h = tt
  fed-only (Some x) r h = decodes-only (front ++ x) r h

  pub fed-only-fault : (rest : Option (List ℕ)) (r : Result Module BinFault) → IfSome rest (λ x. Decodes (front ++ x) r)
      → IfSome rest (λ x. DecodesOnlyFault (front ++ x) r)
  fed-only-fault None r h = tt
  fed-only-fault (Some x) r h = decodes-only-fault (front ++ x) r h
