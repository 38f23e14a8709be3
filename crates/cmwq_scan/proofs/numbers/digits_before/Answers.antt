use Rattle.std.proofs.Common.{◌≤◌, ◌<◌, length, slice_index_or, arith}
use Rattle.cmwq_scan.proofs.NumberLemmas.{digits-more, front-small, high-no_digit, low-digit, low-value, value-more}
use Rattle.cmwq_scan.proofs.numbers.digits_before.Goals as goal

pub overflow_mul-value : goal.overflow_mul-value
overflow_mul-value c =
    let few : c.loop-place.place ≤ 10 = omega (arith, c.loop-place-test.true, c.requires.few) in
    omega (arith, c.loop-place.invariant.value, front-small c.args.bytes.now c.loop-place.place few c.loop-place.invariant.digits)

pub overflow_add-value : goal.overflow_add-value
overflow_add-value c =
    let few : c.loop-place.place ≤ 10 = omega (arith, c.loop-place-test.true, c.requires.few) in
    omega (arith, c.loop-place.invariant.value, c.if-digit-gt9.false, front-small c.args.bytes.now c.loop-place.place few c.loop-place.invariant.digits)

pub loop-place-preserved : goal.loop-place-preserved
loop-place-preserved c =
    let bytes = c.args.bytes.now in
    let k = c.loop-place.place in
    let inside : c.loop-place.place < length c.args.bytes.now = omega (arith, c.loop-place-test.true, c.requires.there) in
    let byte = slice_index_or c.args.bytes.now c.loop-place.place 0 in
    let is_byte : byte < 256 = omega (arith, c.type_inv.bytes k) in
    let few = rw c.from-digit.ensures at c.if-digit-gt9.false in
    let digit = low-digit byte is_byte few in
    record {
      digits = digits-more bytes k inside digit c.loop-place.invariant.digits;
      value = omega (arith, c.loop-place.invariant.value, c.from-digit.ensures, low-value byte is_byte few, value-more bytes k inside digit);
    }

pub returns-then-digit-gt9-clause-all : goal.returns-then-digit-gt9-clause-all
returns-then-digit-gt9-clause-all c inside =
    let is_byte : slice_index_or c.args.bytes.now c.loop-place.place 0 < 256 = omega (arith, c.type_inv.bytes c.loop-place.place) in
    high-no_digit (slice_index_or c.args.bytes.now c.loop-place.place 0) is_byte (rw c.from-digit.ensures at c.if-digit-gt9.true)
