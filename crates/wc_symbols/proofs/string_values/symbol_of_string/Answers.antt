use Rattle.std.proofs.Common.{◌≡◌, refl, sym, subst, IsUtf8, string_bytes}
use Rattle.std.proofs.lemmas.Str.{IsUtf8-string_bytes}
use Rattle.wc_symbols.specs.Standard.Strings.{bytes_in}
use Rattle.wc_symbols.specs.Standard.Tokens.{name, no_name}
use Rattle.wc_symbols.proofs.string_values.symbol_of_string.Goals as goal

pub returns-in-Plain : goal.returns-in-Plain
returns-in-Plain c = λ text s.
    let of : bytes_in c.args.value.now ≡ c.as_bytes.result.now = rw c.in-Plain.is (sym c.as_bytes.ensures.value) in
    rw c.bare.ensures (name s (subst IsUtf8 (sym of) c.as_bytes.ensures.utf8))

pub returns-in-Own : goal.returns-in-Own
returns-in-Own c = λ text s.
    let of : bytes_in c.args.value.now ≡ string_bytes c.in-Own.field-0 = rw c.in-Own.is refl in
    rw c.bare-in-Own.ensures (name s (subst IsUtf8 (sym of) (IsUtf8-string_bytes c.in-Own.field-0)))

pub returns-in-Ok : goal.returns-in-Ok
returns-in-Ok c = λ text s.
    let of : bytes_in c.args.value.now ≡ c.as_slice.result.now = rw c.in-Bytes.is (sym c.as_slice.ensures.value) in
    rw c.bare-in-Ok.ensures (name s (subst IsUtf8 (sym of) c.in-Ok.ensures.cases.1))

pub returns-in-Err : goal.returns-in-Err
returns-in-Err c = λ text s.
    let of : bytes_in c.args.value.now ≡ c.as_slice.result.now = rw c.in-Bytes.is (sym c.as_slice.ensures.value) in
    rw c.bare-in-Err.ensures (no_name s (λ u. c.in-Err.ensures.cases.0 (subst IsUtf8 of u)))
