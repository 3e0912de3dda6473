-- What a run answers, and what went out: `old` and `new` are the bytes that the writer holds, where they are known.
use Rattle.std.specs.Prelude.{◌≡◌, ℕ, ◌+◌, ◌≤◌, List, length, take, Bool, true, false, Option, Some, None}
use Rattle.std.specs.Prelude.{IfSome, Result, Ok, Err, ⊤}
use Rattle.std.specs.Io.KnownBytes.{Keeps, Appends}
use Rattle.wc_device.specs.declared.io_device.Device.{Device}
use Rattle.wc_device.specs.Standard.Device.{device_inner, FlushedOnce, FlushedBehindAll, buffer_size}
use Rattle.wc_tokens.specs.Standard.Lexemes.{longest}
use Rattle.wc_binary.specs.Standard.Phrase.{halt}
use Rattle.wc_binary.specs.Standard.Module.{StopB}
use Rattle.wc_binary.specs.Standard.Decoding.{IsCutShort}
use Rattle.wc_canon.specs.declared.fault.Refusal.TheVariants.{Binary, Lex, Syntax, Names, Check, Oversize}
use Rattle.wc_canon.specs.declared.fault.Refusal.TheVariants.{Memory as NoMemory}
use Rattle.wc_canon.specs.declared.fault.RunFault.{RunFault}
use Rattle.wc_canon.specs.declared.fault.RunFault.TheVariants.{Refused, Read, Write, Memory}
use Rattle.wc_canon.specs.declared.running.Job.{Job}
use Rattle.wc_canon.specs.declared.running.Job.TheVariants as job
use Rattle.wc_canon.specs.Standard.Input.{is_binary, HasAnswer, HasFault}
use Rattle.wc_canon.specs.Standard.Printing.{HasText}

-- the run ended by its reader
abbrev pub is_read_fault : {V : Type 0} → Result V RunFault → Bool
is_read_fault (Err (Read at)) = true
is_read_fault _ = false

-- the run ended by its writer
abbrev pub is_write_fault : {V : Type 0} → Result V RunFault → Bool
is_write_fault (Err (Write written)) = true
is_write_fault _ = false

-- b is what the job writes for the input: its canonical bytes, or its printed text
abbrev pub HasOutput : Job → List ℕ → List ℕ → Type 0
HasOutput job.Binary x b = HasAnswer x b
HasOutput job.Text x b = HasText x b

-- the same where the bytes of the input are known, and else of some input
abbrev pub IsOutputOf : Job → Option (List ℕ) → List ℕ → Type 0
IsOutputOf j None b = (x : List ℕ) × HasOutput j x b
IsOutputOf j (Some x) b = HasOutput j x b

-- b is the answer to the input, where its bytes are known, and else to some input
abbrev pub IsAnswerOf : Option (List ℕ) → List ℕ → Type 0
IsAnswerOf input b = IsOutputOf job.Binary input b

-- the text has the answer to the input, where the bytes of this are known, and else the answer to some input
abbrev pub HasSameAnswer : Option (List ℕ) → List ℕ → Type 0
HasSameAnswer input t = (b : List ℕ) × IsAnswerOf input b × HasAnswer t b

-- what holds of the value that is answered to the input; or f is its fault, where its bytes are known
abbrev pub Judges : {V : Type 0} → Option (List ℕ) → (V → Type 0) → Result V RunFault → Type 0
Judges input P (Ok v) = P v
Judges input P (Err (Refused f)) = IfSome input (λ x. HasFault x f)
Judges input P (Err (Read at)) = ⊤
Judges input P (Err (Write written)) = ⊤
Judges input P (Err Memory) = ⊤

-- the whole output of the job for the input went out, n bytes; or f is its fault, where its bytes are known; or exactly
-- the first n bytes of the output went out
abbrev pub Answers : Job → Option (List ℕ) → Option (List ℕ) → Option (List ℕ) → Result ℕ RunFault → Type 0
Answers j input old new (Ok n) = (b : List ℕ) × IsOutputOf j input b × (n ≡ length b) × Appends old new b
Answers j input old new (Err (Refused f)) = IfSome input (λ x. HasFault x f)
Answers j input old new (Err (Read at)) = ⊤
Answers j input old new (Err (Write n)) =
    (b : List ℕ) × IsOutputOf j input b × (n ≤ length b) × Appends old new (take n b)
Answers j input old new (Err Memory) = ⊤

-- a text of the input went out, n bytes, and it has the same answer, where it isn't longer than a text may be
abbrev pub SendsAlike : Option (List ℕ) → Option (List ℕ) → Option (List ℕ) → ℕ → Type 0
SendsAlike input old new n =
    n ≤ longest
    → (t : List ℕ) × IsOutputOf job.Text input t × (n ≡ length t) × Appends old new t × HasSameAnswer input t

-- how a writer was flushed that was sent so many bytes: once behind all of them; or it failed in that flush; or in a
-- write before it, and then there was none
abbrev pub FlushesBehind : {W : Type 0} → ℕ → Device W → Device W → Result ℕ RunFault → Type 0
FlushesBehind all old new (Ok n) = FlushedOnce old new
FlushesBehind all old new (Err (Refused f)) = ⊥
FlushesBehind all old new (Err (Read at)) = ⊥
FlushesBehind all old new (Err (Write n)) = FlushedBehindAll n all old new
FlushesBehind all old new (Err Memory) = ⊥

-- the whole output of the job for the input went out, and then one flush; or exactly its first n bytes, and then one
-- flush, which failed, if these are all, and else none; or there is no answer, and nothing of the writer was asked.
-- contents are the bytes that a writer holds
abbrev pub FlushesOnce : {W : Type 0} → (W → Option (List ℕ)) → Job → Option (List ℕ) → Device W → Device W
    → Result ℕ RunFault → Type 0
FlushesOnce contents j input old new (Ok n) = FlushedOnce old new
FlushesOnce contents j input old new (Err (Refused f)) = new ≡ old
FlushesOnce contents j input old new (Err (Read at)) = new ≡ old
FlushesOnce contents j input old new (Err (Write n)) =
    (b : List ℕ) × IsOutputOf j input b × (n ≤ length b)
    × Appends (contents (device_inner old)) (contents (device_inner new)) (take n b)
    × FlushedBehindAll n (length b) old new
FlushesOnce contents j input old new (Err Memory) = new ≡ old

-- nothing went out without an answer
abbrev pub IsQuiet : Option (List ℕ) → Option (List ℕ) → Result ℕ RunFault → Type 0
IsQuiet old new (Ok n) = ⊤
IsQuiet old new (Err (Refused f)) = Keeps old new
IsQuiet old new (Err (Read at)) = Keeps old new
IsQuiet old new (Err (Write n)) = ⊤
IsQuiet old new (Err Memory) = Keeps old new

-- at most so many bytes were read past those behind which the fault of the binary x showed, which for a module that is
-- refused are all bytes; of a text all bytes were read
abbrev pub RefusesNear : ℕ → RunFault → List ℕ → Type 0
RefusesNear count (Refused (Binary at why)) x =
    (taken : ℕ) × StopB x (halt at why taken) × (count ≤ taken + buffer_size)
RefusesNear count (Refused (Lex at why)) x = count ≡ length x
RefusesNear count (Refused (Syntax token at why)) x = count ≡ length x
RefusesNear count (Refused (Names token at why)) x = count ≡ length x
RefusesNear count (Refused (Check item why)) x = count ≡ length x
RefusesNear count (Refused Oversize) x = count ≡ length x
RefusesNear count (Refused NoMemory) x = ⊤
RefusesNear count (Read at) x = ⊤
RefusesNear count (Write written) x = ⊤
RefusesNear count Memory x = ⊤

-- where a read fails behind the bytes x: a binary has no fault that shows before their end, and a text was read so far,
-- and isn't judged
abbrev pub IsCut : Bool → List ℕ → ℕ → Type 0
IsCut true x at = IsCutShort x at
IsCut false x at = at ≡ length x

-- a failed read was told, and no fault of the bytes that were read before it, which are those up to its place
abbrev pub ReadsCut : RunFault → List ℕ → Type 0
ReadsCut (Refused f) x = ⊤
ReadsCut (Read at) x = IsCut (is_binary (take at x)) (take at x) at
ReadsCut (Write written) x = ⊤
ReadsCut Memory x = ⊤
