-- How a failure is told: its status and its line.
use Rattle.std.specs.Prelude.{◌≡◌, ℕ, ◌≤◌, List, [], ◌∷◌, ◌++◌, length, take, codes, true, false, Option, Some, None}
use Rattle.std.specs.Io.KnownBytes.{Appends}
use denote.Ref.{Bor}
use Rattle.wc_device.specs.declared.io_device.Device.{Device}
use Rattle.wc_device.specs.Standard.Device.{device_inner, has_failed, was_asked_again, flush_count, has_lost}
use Rattle.wc_canon.specs.Standard.Text.{refusal_text}
use Rattle.wc_cli.specs.declared.failure.Failure.{Failure}
use Rattle.wc_cli.specs.declared.failure.Failure.TheVariants.{Refused, CannotRead, CannotWrite, NotText}
use Rattle.wc_cli.specs.declared.failure.Failure.TheVariants.{NoSubcommand, Terminal, OutOfMemory}

-- the exit status
abbrev pub failure_status : Failure → ℕ
failure_status (Refused path f) = 1
failure_status (CannotRead path) = 2
failure_status (CannotWrite path) = 2
failure_status NotText = 2
failure_status NoSubcommand = 2
failure_status Terminal = 2
failure_status OutOfMemory = 2

-- the program's name, a text and a line end
abbrev pub line_of : List ℕ → List ℕ
line_of text = codes "wcanon: " ++ (text ++ (10 ∷ []))

-- the same with a path before the text
abbrev pub line_about : List ℕ → List ℕ → List ℕ
line_about path text = codes "wcanon: " ++ (path ++ (codes ": " ++ (text ++ (10 ∷ []))))

-- how the place of an answer is named: its path, or the standard output
abbrev pub place_text : Option (Bor (List ℕ)) → List ℕ
place_text (Some path) = path.now
place_text None = codes "standard output"

-- the one line that is written
abbrev pub failure_line : Failure → List ℕ
failure_line (Refused path f) = line_about path.now (refusal_text f)
failure_line (CannotRead path) = line_about path.now (codes "cannot read")
failure_line (CannotWrite path) = line_about (place_text path) (codes "cannot write")
failure_line NotText = line_of (codes "an argument is not text")
failure_line NoSubcommand = line_of (codes "no subcommand")
failure_line Terminal = line_of (codes "standard output is a terminal; -o OUT names a file")
failure_line OutOfMemory = line_of (codes "out of memory")

-- from e to e' a text goes to a writer: held says which bytes it holds, where they are known
pub record GoesOut {E : Type 0} (held : E → Option (List ℕ)) (text : List ℕ) (e e' : Device E) : Type 0 where
  -- a writer that failed before isn't asked
  pub unasked : has_failed e ≡ true → e' ≡ e
  -- nor is it behind its failure, and it isn't flushed
  pub again : was_asked_again e' ≡ was_asked_again e
  pub unflushed : flush_count e' ≡ flush_count e
  -- and none of it is lost where no write failed
  pub kept : has_lost e' ≡ has_lost e
  -- all of it goes out where the writer doesn't fail
  pub whole : has_failed e' ≡ false → Appends (held (device_inner e)) (held (device_inner e')) text
  -- and else its first bytes
  pub front : (n : ℕ) × (n ≤ length text) × Appends (held (device_inner e)) (held (device_inner e')) (take n text)

-- f is told by its status and its line
abbrev pub Reports : {E : Type 0} → (E → Option (List ℕ)) → Failure → ℕ → Device E → Device E → Type 0
Reports held f status e e' = (status ≡ failure_status f) × GoesOut held (failure_line f) e e'
