use Rattle.std.proofs.Common.{◌≡◌, ◌∙◌, arith, rules}
use Rattle.std.specs.Str.Lossy.{utf8_valid_len}
use Rattle.std.proofs.lemmas.Result.{err_from_is_err_and}
use Rattle.wc_binary.proofs.phrases.Forward.{name-count, name-bytes, name-bad, name-good}
use Rattle.wc_binary.proofs.reading.Going.{GoesOn-trans, GoesOn-stops}
use Rattle.wc_binary.proofs.reading.Times.{times-taken, ahead-taken}
use Rattle.wc_binary.proofs.decoder.name.NameFromSource.read.Goals as goal

pub returns-in_err-count : goal.returns-in_err-count
returns-in_err-count g c =
    let p = err_from_is_err_and c.from_residual.result c.from_residual.ensures.1 in
    rw (p.1, p.2) (name-count _ _ c.in_err-count.field-0.0 c.in_err-count.ensures)

pub returns-in_err-bytes : goal.returns-in_err-bytes
returns-in_err-bytes g c =
    let p = err_from_is_err_and c.from_residual-in_err-bytes.result c.from_residual-in_err-bytes.ensures.1 in
    rw (p.1, p.2)
    (name-bytes _ _ _ c.in_ok-count.count c.in_ok-count.ensures c.in_err-bytes.field-0.0 c.in_err-bytes.ensures.gives)

pub returns-in-Err : goal.returns-in-Err
returns-in-Err g c = rw c.bad.ensures (
  GoesOn-stops _ _ (GoesOn-trans _ _ _ c.in_ok-count.ensures.0 c.in_ok-bytes.ensures.gives.0),
  λ w.
      let count = c.in_ok-count.ensures.1 w in
      let raw = c.in_ok-bytes.ensures.gives.1 count.0 in
      let bytes-is = c.as_slice.ensures in
      let bars = rw bytes-is at c.in-Err.ensures.cases.0 in
      let valid = rw bytes-is at c.in-Err.ensures.valid_len in
      let upto : c.valid_up_to.result ≡ utf8_valid_len c.in_ok-bytes.bytes = c.valid_up_to.ensures ∙ valid in
      name-bad _ c.in_ok-count.count _ _ _ _ _ c.in_ok-bytes.bytes count.1 raw.1 _ bars (search rules),
)

pub returns : goal.returns
returns g c = (
  GoesOn-trans _ _ _ c.in_ok-count.ensures.0 c.in_ok-bytes.ensures.gives.0,
  λ w.
      let count = c.in_ok-count.ensures.1 w in
      let raw = c.in_ok-bytes.ensures.gives.1 count.0 in
      let bytes-is = c.as_slice.ensures in
      let good = rw bytes-is at c.in_default-from_utf8.ensures.cases.1 in (
        raw.0,
        rw (c.from_string.ensures, c.from_utf8_unchecked-text.ensures.value, c.into_vec.ensures)
            (name-good _ c.in_ok-count.count _ _ _ _ _ c.in_ok-bytes.bytes count.1 raw.1 good),
      ),
)

pub returns-in-Some : goal.returns-in-Some
returns-in-Some g c =
    let ahead = c.in-Some.ensures.ahead in
    let all : c.pass.result ≡ c.in_ok-count.count =
    rw c.pass.ensures.amount (omega (arith, c.in-Some.ensures.at_hand)) in
    let taken = ahead-taken _ _ _ _ _ all ahead c.pass.ensures.passed in
    let raw = times-taken _ _ _ _ ahead.0 taken in (
      GoesOn-trans _ _ _ c.in_ok-count.ensures.0 taken.0,
      λ w.
          let count = c.in_ok-count.ensures.1 w in
          let read_bytes = raw.1 count.0 in (
            read_bytes.0,
            name-good _ c.in_ok-count.count _ _ _ _ _ c.in-Some.name count.1 read_bytes.1
                c.in-Some.ensures.utf8,
          ),
    )
