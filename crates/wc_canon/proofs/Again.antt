-- The printed text of an input has the input's answer.
use Rattle.std.proofs.Common.{◌≡◌, ◌≤◌, ℕ, List, [], length, Option, Some, None, Result, Ok, Err, IfOk, OnOk}
use Rattle.std.proofs.Common.{refl, sym, subst}
use Rattle.std.specs.Io.KnownBytes.{Appends}
use Rattle.wc_ast.specs.declared.module.Module.{Module}
use Rattle.wc_check.specs.Standard.Broken.{broken}
use Rattle.wc_tokens.specs.Standard.Lexemes.{longest}
use Rattle.wc_binary.specs.Standard.Module.{Canon}
use Rattle.wc_binary.proofs.spelling.whole.Modules.{canon-only}
use Rattle.wc_print.specs.Standard.Layout.{layout}
use Rattle.wc_print.specs.Standard.Printed.{text}
use Rattle.wc_read_text.specs.Standard.Texts.{Txt}
use Rattle.wc_readback.proofs.NameLemmas.Reading.{text-of}
use Rattle.wc_canon.specs.declared.fault.RunFault.{RunFault}
use Rattle.wc_canon.specs.declared.running.Job.TheVariants as job
use Rattle.wc_canon.specs.Standard.Input.{KeepsRules, Means, HasAnswer}
use Rattle.wc_canon.specs.Standard.Printing.{HasText}
use Rattle.wc_canon.specs.Standard.Run.{IsOutputOf, HasSameAnswer, SendsAlike}
use Rattle.wc_canon.proofs.Laws.{text-denotes, means-kept, means-canon, means-answered, has-answer, answer-canonical}
use Rattle.wc_canon.proofs.Fitted.{fitted, few-locals}
use Rattle.wc_canon.proofs.Spelled.{fits-printable}

breaks-none : (m : Module) → KeepsRules m → broken m ≡ []
unfolding KeepsRules
breaks-none m k = k

-- a module that breaks no rule, and that some bytes spell, is what its printed text is a text of
text-back : (m : Module) (c : List ℕ) → Canon c m → KeepsRules m → length (text (layout m)) ≤ longest
    → Txt (text (layout m)) m
text-back m c spelled kept short =
    let fits = fitted m (canon-only c m spelled).0 in
    text-of m fits (few-locals m (canon-only c m spelled).0) (breaks-none m kept) (fits-printable m fits) short

meant-again : (x b : List ℕ) (m : Module) → Means x m → length (text (layout m)) ≤ longest → HasAnswer x b
    → HasAnswer (text (layout m)) b
meant-again x b m p short a =
    let kept = means-kept x m p in
    let c = means-canon x m p in
    has-answer (text (layout m)) b m (text-denotes (text (layout m)) m refl (text-back m c.0 c.1 kept short)) kept
    (answer-canonical x b m p a)

-- ---- the law

pub again : (x t b : List ℕ) → HasText x t → length t ≤ longest → HasAnswer x b → HasAnswer t b
unfolding HasText
again x t b p short a =
    subst (λ (u : List ℕ). HasAnswer u b) (sym p.2)
    (meant-again x b p.0 p.1 (subst (λ (u : List ℕ). length u ≤ longest) p.2 short) a)

-- an input with a text has an answer
answered : (x t : List ℕ) → HasText x t → (b : List ℕ) × HasAnswer x b
unfolding HasText
answered x t p = means-answered x p.0 p.1

same-of : (x t : List ℕ) → HasText x t → length t ≤ longest → (b : List ℕ) × HasAnswer x b × HasAnswer t b
same-of x t p short = let a = answered x t p in (a.0, a.1, again x t a.0 p short a.1)

-- ---- what is printed of a reader

same-answer : (input : Option (List ℕ)) (t : List ℕ) → IsOutputOf job.Text input t → length t ≤ longest
    → HasSameAnswer input t
same-answer None t p short = let s = same-of p.0 t p.1 short in (s.0, (p.0, s.1), s.2)
same-answer (Some x) t p short = same-of x t p short

pub told-alike : (input : Option (List ℕ)) (t bytes : List ℕ) → IsOutputOf job.Text input t → bytes ≡ t
    → length bytes ≤ longest → HasSameAnswer input bytes
told-alike input t bytes p e short =
    subst (λ (u : List ℕ). HasSameAnswer input u) (sym e)
    (same-answer input t p (subst (λ (u : List ℕ). length u ≤ longest) e short))

pub sent-alike : (input old new : Option (List ℕ)) (t : List ℕ) (r : Result ℕ RunFault) → IsOutputOf job.Text input t
    → IfOk r (λ n. n ≡ length t) → OnOk r (Appends old new t) → IfOk r (SendsAlike input old new)
sent-alike input old new t (Ok n) p e out = λ short. (
  t,
  p,
  e,
  out,
  same-answer input t p (subst (λ (k : ℕ). k ≤ longest) e short),
)
sent-alike input old new t (Err f) p e out = tt
