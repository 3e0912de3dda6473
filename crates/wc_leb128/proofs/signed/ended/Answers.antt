use Rattle.std.proofs.Common.{rules, ◌^◌, ◌-◌, ◌*◌, arith, suc}
use Rattle.std.proofs.lemmas.Int.{ints}
use Rattle.wc_leb128.proofs.Reading.SignedEnd.{HasRoom, sum_fits, raised, next_fits, distance_is, ends_positive}
use Rattle.wc_leb128.proofs.Reading.SignedEnd.{ends_negative}
use Rattle.wc_leb128.proofs.signed.ended.Goals as goal

positive_room : (c : goal.Else-not-fits) → HasRoom c.args.low c.args.shift c.args.room c.args.b
positive_room c = record {
  low_bits = c.requires.low_bits;
  some_room = c.requires.some_room;
  fits_i64 = c.requires.fits_i64;
  fits = search rules;
}

pub overflow_add-result : goal.overflow_add-result
overflow_add-result c =
    let r = raised c.args.low c.args.shift c.args.room c.args.b (positive_room c) in
    let s = sum_fits c.args.low c.args.shift c.args.room c.args.b (positive_room c) in
    omega arith

pub overflow_cast-result-then-b-lt64-2 : goal.overflow_cast-result-then-b-lt64-2
overflow_cast-result-then-b-lt64-2 c =
    let r = raised c.args.low c.args.shift c.args.room c.args.b (positive_room c) in
    let s = sum_fits c.args.low c.args.shift c.args.room c.args.b (positive_room c) in
    omega (arith, ints)

pub returns-then-b-lt64 : goal.returns-then-b-lt64
returns-then-b-lt64 c =
    let r = raised c.args.low c.args.shift c.args.room c.args.b (positive_room c) in
    let s = sum_fits c.args.low c.args.shift c.args.room c.args.b (positive_room c) in
    ends_positive c.args.low c.args.shift c.args.room c.args.b _ (positive_room c) c.if-b-lt64.true
    (omega (arith, ints))

negative_room : (c : goal.Else-not-fits-2) → HasRoom c.args.low c.args.shift c.args.room (127 - c.args.b)
negative_room c = record {
  low_bits = c.requires.low_bits;
  some_room = c.requires.some_room;
  fits_i64 = c.requires.fits_i64;
  fits = search rules;
}

pub overflow_sub-distance-2 : goal.overflow_sub-distance-2
overflow_sub-distance-2 c =
    let d = distance_is c.args.low c.args.shift c.args.room c.args.b c.requires.last (negative_room c) in
    let f = next_fits c.args.low c.args.shift c.args.room (127 - c.args.b) (negative_room c) in
    rw d (omega arith)

pub overflow_sub-result : goal.overflow_sub-result
overflow_sub-result c =
    let d = distance_is c.args.low c.args.shift c.args.room c.args.b c.requires.last (negative_room c) in
    let f = next_fits c.args.low c.args.shift c.args.room (127 - c.args.b) (negative_room c) in
    rw d (omega arith)

pub overflow_cast-result-2 : goal.overflow_cast-result-2
overflow_cast-result-2 c =
    let d = distance_is c.args.low c.args.shift c.args.room c.args.b c.requires.last (negative_room c) in
    let f = next_fits c.args.low c.args.shift c.args.room (127 - c.args.b) (negative_room c) in
    rw d (omega (arith, ints))

pub returns : goal.returns
returns c =
    let d = distance_is c.args.low c.args.shift c.args.room c.args.b c.requires.last (negative_room c) in
    let f = next_fits c.args.low c.args.shift c.args.room (127 - c.args.b) (negative_room c) in
    ends_negative c.args.low c.args.shift c.args.room c.args.b
    (suc (127 - c.args.b) * 2 ^ c.args.shift - c.args.low - 1) _ (negative_room c)
    c.if-b-lt64.false c.requires.last (omega arith) (rw d (omega (arith, ints)))
