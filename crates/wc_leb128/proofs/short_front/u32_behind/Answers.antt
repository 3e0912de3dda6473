use Rattle.std.proofs.Common.{◌<◌, refl, arith, rules}
use Rattle.wc_leb128.proofs.Reading.ShortFront.{last-front, next-front, only-front, empty-none, great-none, behind-none}
use Rattle.wc_leb128.proofs.Reading.ShortFront.{never}
use Rattle.wc_leb128.proofs.short_front.u32_behind.Goals as goal

-- ---- the bytes end, or the fifth is too great

pub returns-in_err-second : goal.returns-in_err-second
returns-in_err-second c =
    let none1 = empty-none 25 _ c.in_err-second.ensures.cases in
    rw c.from_residual.ensures (never 32 _ (behind-none 32 _ _ _ refl c.if-first-lt128.false none1))

pub returns-in_err-third : goal.returns-in_err-third
returns-in_err-third c =
    let none2 = empty-none 18 _ c.in_err-third.ensures.cases in
    let none1 = behind-none 25 _ _ _ c.in_ok-second.ensures.cases.0 c.if-second-lt128.false none2 in
    rw c.from_residual-in_err-third.ensures (never 32 _ (behind-none 32 _ _ _ refl c.if-first-lt128.false none1))

pub returns-in_err-fourth : goal.returns-in_err-fourth
returns-in_err-fourth c =
    let none3 = empty-none 11 _ c.in_err-fourth.ensures.cases in
    let none2 = behind-none 18 _ _ _ c.in_ok-third.ensures.cases.0 c.if-third-lt128.false none3 in
    let none1 = behind-none 25 _ _ _ c.in_ok-second.ensures.cases.0 c.if-second-lt128.false none2 in
    rw c.from_residual-in_err-fourth.ensures (never 32 _ (behind-none 32 _ _ _ refl c.if-first-lt128.false none1))

pub returns-in_err-fifth : goal.returns-in_err-fifth
returns-in_err-fifth c =
    let none4 = empty-none 4 _ c.in_err-fifth.ensures.cases in
    let none3 = behind-none 11 _ _ _ c.in_ok-fourth.ensures.cases.0 c.if-fourth-lt128.false none4 in
    let none2 = behind-none 18 _ _ _ c.in_ok-third.ensures.cases.0 c.if-third-lt128.false none3 in
    let none1 = behind-none 25 _ _ _ c.in_ok-second.ensures.cases.0 c.if-second-lt128.false none2 in
    rw c.from_residual-in_err-fifth.ensures (never 32 _ (behind-none 32 _ _ _ refl c.if-first-lt128.false none1))

pub returns-then-fifth-ge16 : goal.returns-then-fifth-ge16
returns-then-fifth-ge16 c =
    let great = c.if-fifth-ge16.true in
    let none4 = great-none 4 _ _ _ c.in_ok-fifth.ensures.cases.0 (omega arith) (omega (arith, great)) in
    let none3 = behind-none 11 _ _ _ c.in_ok-fourth.ensures.cases.0 c.if-fourth-lt128.false none4 in
    let none2 = behind-none 18 _ _ _ c.in_ok-third.ensures.cases.0 c.if-third-lt128.false none3 in
    let none1 = behind-none 25 _ _ _ c.in_ok-second.ensures.cases.0 c.if-second-lt128.false none2 in
    never 32 _ (behind-none 32 _ _ _ refl c.if-first-lt128.false none1)

-- ---- a byte below 128 ends it

pub returns-then-first-lt128 : goal.returns-then-first-lt128
returns-then-first-lt128 c =
    let lt = c.if-first-lt128.true in
    let front0 = last-front 32 _ _ _ refl lt (omega (arith, lt)) in
    only-front 32 _ _ _ _ front0 (omega (arith, c.from.ensures))

pub returns-then-second-lt128 : goal.returns-then-second-lt128
returns-then-second-lt128 c =
    let first : c.args.first < 256 = search rules in
    let lt = c.if-second-lt128.true in
    let front1 = last-front 25 _ _ _ c.in_ok-second.ensures.cases.0 lt (omega (arith, lt)) in
    let front0 = next-front 32 _ _ _ _ _ refl c.if-first-lt128.false first (omega arith) front1 in
    only-front 32 _ _ _ _ front0 (omega (arith, c.from-low.ensures, c.from-then-second-lt128.ensures))

pub returns-then-third-lt128 : goal.returns-then-third-lt128
returns-then-third-lt128 c =
    let first : c.args.first < 256 = search rules in
    let second : c.in_ok-second.second.now < 256 = search rules in
    let lt = c.if-third-lt128.true in
    let front2 = last-front 18 _ _ _ c.in_ok-third.ensures.cases.0 lt (omega (arith, lt)) in
    let front1 =
    next-front 25 _ _ _ _ _ c.in_ok-second.ensures.cases.0 c.if-second-lt128.false second (omega arith) front2 in
    let front0 = next-front 32 _ _ _ _ _ refl c.if-first-lt128.false first (omega arith) front1 in
    only-front 32 _ _ _ _ front0 (omega (arith, c.from-low.ensures, c.from-2.ensures, c.from-then-third-lt128.ensures))

pub returns-then-fourth-lt128 : goal.returns-then-fourth-lt128
returns-then-fourth-lt128 c =
    let first : c.args.first < 256 = search rules in
    let second : c.in_ok-second.second.now < 256 = search rules in
    let third : c.in_ok-third.third.now < 256 = search rules in
    let lt = c.if-fourth-lt128.true in
    let front3 = last-front 11 _ _ _ c.in_ok-fourth.ensures.cases.0 lt (omega (arith, lt)) in
    let front2 =
    next-front 18 _ _ _ _ _ c.in_ok-third.ensures.cases.0 c.if-third-lt128.false third (omega arith) front3 in
    let front1 =
    next-front 25 _ _ _ _ _ c.in_ok-second.ensures.cases.0 c.if-second-lt128.false second (omega arith) front2 in
    let front0 = next-front 32 _ _ _ _ _ refl c.if-first-lt128.false first (omega arith) front1 in
    only-front 32 _ _ _ _ front0 (omega (
      arith,
      c.from-low.ensures,
      c.from-2.ensures,
      c.from-3.ensures,
      c.from-then-fourth-lt128.ensures,
    ))

pub returns : goal.returns
returns c =
    let first : c.args.first < 256 = search rules in
    let second : c.in_ok-second.second.now < 256 = search rules in
    let third : c.in_ok-third.third.now < 256 = search rules in
    let fourth : c.in_ok-fourth.fourth.now < 256 = search rules in
    let few = c.if-fifth-ge16.false in
    let front4 = last-front 4 _ _ _ c.in_ok-fifth.ensures.cases.0 (omega (arith, few)) (omega (arith, few)) in
    let front3 =
    next-front 11 _ _ _ _ _ c.in_ok-fourth.ensures.cases.0 c.if-fourth-lt128.false fourth (omega arith) front4 in
    let front2 =
    next-front 18 _ _ _ _ _ c.in_ok-third.ensures.cases.0 c.if-third-lt128.false third (omega arith) front3 in
    let front1 =
    next-front 25 _ _ _ _ _ c.in_ok-second.ensures.cases.0 c.if-second-lt128.false second (omega arith) front2 in
    let front0 = next-front 32 _ _ _ _ _ refl c.if-first-lt128.false first (omega arith) front1 in
    only-front 32 _ _ _ _ front0 (omega (
      arith,
      c.from-low.ensures,
      c.from-2.ensures,
      c.from-3.ensures,
      c.from-4.ensures,
      c.from-5.ensures,
    ))
