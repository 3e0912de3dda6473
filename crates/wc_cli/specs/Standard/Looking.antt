-- How far the inputs of a line were read, by what came of it: old is an input before the line, and new the same one
-- behind it; remaining says which bytes a reader has left, where they are known.
use Rattle.std.specs.Prelude.{◌≡◌, ◌⊎◌, ℕ, ◌<◌, ◌≤◌, List, length, true, Option, None, Some, IfSome, Result, Ok, Err, ⊤}
use Rattle.std.specs.Io.KnownBytes.{IsAtEnd}
use Rattle.wc_device.specs.declared.io_device.Device.{Device}
use Rattle.wc_device.specs.Standard.Device.{device_inner, failed_at, has_ended, read_count}
use Rattle.wc_canon.specs.declared.fault.Refusal.{Refusal}
use Rattle.wc_canon.specs.declared.fault.RunFault.TheVariants as fault
use Rattle.wc_canon.specs.Standard.Input.{IsAccepted}
use Rattle.wc_canon.specs.Standard.Run.{RefusesNear, ReadsCut}
use Rattle.wc_canon.specs.Standard.Comparing.{WasJudged}
use Rattle.wc_cli.specs.declared.command_line.Ask.{Ask}
use Rattle.wc_cli.specs.declared.command_line.Ask.TheVariants.{Check, Canonical, Hash}
use Rattle.wc_cli.specs.declared.command_line.Line.{Line}
use Rattle.wc_cli.specs.declared.command_line.Line.TheVariants.{Make, Tell, Compare}
use Rattle.wc_cli.specs.declared.failure.Failure.{Failure}
use Rattle.wc_cli.specs.declared.failure.Failure.TheVariants.{Refused, CannotRead, CannotWrite, OutOfMemory}
use Rattle.wc_cli.specs.Standard.Inputs.{input_bytes}

-- ---- one input

-- all of it was read
abbrev pub IsReadOut : {R : Type 0} → (R → Option (List ℕ)) → Option (Device R) → Type 0
IsReadOut remaining None = ⊥
IsReadOut remaining (Some d) = IsAtEnd (remaining (device_inner d))

-- all of it was read, or as much as its fault shows in and at most 4,096 bytes more
abbrev pub IsJudged : {R : Type 0} → (R → Option (List ℕ)) → Option (Device R) → Option (Device R) → Type 0
IsJudged remaining old None = ⊥
IsJudged remaining old (Some d) = WasJudged (input_bytes remaining old) (remaining (device_inner d)) (read_count d)

-- as much of it was read as the fault f shows in, and at most 4,096 bytes more
abbrev pub IsReadNear : {R : Type 0} → (R → Option (List ℕ)) → Option (Device R) → Option (Device R) → Refusal → Type 0
IsReadNear remaining old None f = ⊥
IsReadNear remaining old (Some d) f = IfSome (input_bytes remaining old) (RefusesNear (read_count d) (fault.Refused f))

-- it isn't there, or a read of it failed, where no fault shows in what was read before
abbrev pub IsCutOff : {R : Type 0} → (R → Option (List ℕ)) → Option (Device R) → Option (Device R) → Type 0
IsCutOff remaining old None = ⊤
IsCutOff remaining old (Some d) =
    (at : ℕ) × (failed_at d ≡ Some at) × IfSome (input_bytes remaining old) (ReadsCut (fault.Read at))

-- it isn't there, or a read of it failed, within its bytes
abbrev pub IsBroken : {R : Type 0} → (R → Option (List ℕ)) → Option (Device R) → Option (Device R) → Type 0
IsBroken remaining old None = ⊤
IsBroken remaining old (Some d) =
    (at : ℕ) × (failed_at d ≡ Some at) × IfSome (input_bytes remaining old) (λ x. at ≤ length x)

-- something of it was read, or its end
abbrev pub IsLookedAt : {R : Type 0} → Option (Device R) → Type 0
IsLookedAt None = ⊥
IsLookedAt (Some d) = (0 < read_count d) ⊎ (has_ended d ≡ true)

-- ---- by what came of a line

-- of an input that is judged as it is read
abbrev pub ReadsOne : {R V : Type 0} → (R → Option (List ℕ)) → Option (Device R) → Option (Device R) → Result V Failure
    → Type 0
ReadsOne remaining old new (Ok v) = IsReadOut remaining new
ReadsOne remaining old new (Err (Refused path f)) = IsReadNear remaining old new f
ReadsOne remaining old new (Err (CannotRead path)) = IsCutOff remaining old new
ReadsOne remaining old new (Err f) = ⊤

-- of an input that is judged once all of it was read
abbrev pub ReadsWhole : {R V : Type 0} → (R → Option (List ℕ)) → Option (Device R) → Option (Device R)
    → Result V Failure → Type 0
ReadsWhole remaining old new (Ok v) = IsReadOut remaining new
ReadsWhole remaining old new (Err (Refused path f)) = IsReadOut remaining new
ReadsWhole remaining old new (Err (CannotRead path)) = IsBroken remaining old new
ReadsWhole remaining old new (Err f) = ⊤

-- of an input of which something is asked
abbrev pub ReadsAsk : {R V : Type 0} → Ask → (R → Option (List ℕ)) → Option (Device R) → Option (Device R)
    → Result V Failure → Type 0
ReadsAsk Check remaining old new r = ReadsOne remaining old new r
ReadsAsk Canonical remaining old new r = ReadsWhole remaining old new r
ReadsAsk Hash remaining old new r = ReadsOne remaining old new r

-- of the inputs a and b of a comparison, at the paths p and q, which a' and b' are behind it. A comes first: where it
-- can't be read, nothing is asked of B, nor where memory is refused before A was judged; and that B can't be read is
-- told only once A was judged, or, where B isn't there, looked at
abbrev pub ReadsBoth : {R S V : Type 0} → (R → Option (List ℕ)) → (S → Option (List ℕ)) → List ℕ → List ℕ
    → Option (Device R) → Option (Device R) → Option (Device S) → Option (Device S) → Result V Failure → Type 0
ReadsBoth of_a of_b p q a a' b b' (Ok v) = IsJudged of_a a a' × IsJudged of_b b b'
ReadsBoth of_a of_b p q a a' b b' (Err (Refused path f)) =
    IsJudged of_a a a' × IsJudged of_b b b'
    × (((path.now ≡ p) × IsReadNear of_a a a' f)
    ⊎ ((path.now ≡ q) × IfSome (input_bytes of_a a) IsAccepted × IsReadNear of_b b b' f))
ReadsBoth of_a of_b p q a a' b b' (Err (CannotRead path)) =
    ((path.now ≡ p) × IsCutOff of_a a a' × (b' ≡ b))
    ⊎ ((path.now ≡ q) × IsCutOff of_b b b' × (IsJudged of_a a a' ⊎ ((b ≡ None) × IsLookedAt a')))
ReadsBoth of_a of_b p q a a' b b' (Err (CannotWrite path)) = IsJudged of_a a a' × IsJudged of_b b b'
ReadsBoth of_a of_b p q a a' b b' (Err OutOfMemory) = (b' ≡ b) ⊎ IsJudged of_a a a'
ReadsBoth of_a of_b p q a a' b b' (Err f) = ⊤

-- of the inputs a and b of a line, which a' and b' are behind it. B isn't looked at where there is only one
abbrev pub LooksAt : {R S V : Type 0} → (R → Option (List ℕ)) → (S → Option (List ℕ)) → Line → Option (Device R)
    → Option (Device R) → Option (Device S) → Option (Device S) → Result V Failure → Type 0
LooksAt of_a of_b (Make job input output) a a' b b' r = ReadsOne of_a a a' r × (b' ≡ b)
LooksAt of_a of_b (Tell ask input named) a a' b b' r = ReadsAsk ask of_a a a' r × (b' ≡ b)
LooksAt of_a of_b (Compare p q) a a' b b' r = ReadsBoth of_a of_b p.now q.now a a' b b' r
