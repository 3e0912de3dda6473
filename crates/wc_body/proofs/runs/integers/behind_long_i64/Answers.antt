use Rattle.std.proofs.Common.{◌<◌, ◌≤◌, ◌+◌, ◌++◌, ◌∷◌, [], length, refl, sym, ap, ◌∙◌, arith, rules}
use Rattle.std.proofs.lemmas.List.{append_assoc, length-append}
use Rattle.wc_body.proofs.Drafts.Runs.IntegerFronts.{ends, going-on, long-found}
use Rattle.wc_body.proofs.runs.integers.behind_long_i64.Goals as goal

pub bytes-init : goal.bytes-init
bytes-init c =
    let byte : c.args.first < 256 = search rules in
    ([], refl, ends, refl, c.requires, byte)

pub returns-then-byte-lt128 : goal.returns-then-byte-lt128
returns-then-byte-lt128 c =
    let i = c.bytes.invariant in
    let front = ap (λ x. i.0 ++ c.bytes.last ∷ x) c.in_ok-byte.ensures.cases.0 in
    let few : length i.0 ≤ 7 = omega (arith, i.3, c.bytes-test.true) in
    long-found i.0 _ _ _ _ (i.1 ∙ front) i.2 few c.behind_last.result c.behind_last.ensures

pub bytes-preserved : goal.bytes-preserved
bytes-preserved c =
    let i = c.bytes.invariant in
    let byte : c.in_ok-byte.byte.now < 256 = search rules in
    let front = ap (λ x. i.0 ++ c.bytes.last ∷ x) c.in_ok-byte.ensures.cases.0 in
    let behind = c.in_ok-byte.byte.now ∷ c.in_ok-byte.behind.now in (
      i.0 ++ c.bytes.last ∷ [],
      i.1 ∙ front ∙ sym (append_assoc i.0 (c.bytes.last ∷ []) behind),
      going-on i.0 c.bytes.last i.2 i.4 i.5,
      length-append i.0 (c.bytes.last ∷ []) ∙ ap (λ n. n + 1) i.3,
      c.if-byte-lt128.false,
      byte,
    )
