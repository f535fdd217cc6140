use Rattle.std.proofs.Common.{◌+◌, ◌*◌, ◌<◌, ◌^◌, refl, arith}
use Rattle.std.proofs.lemmas.Int.Digits.{digits_more}
use Rattle.text_scan.proofs.NumberLaws.{digit_low, value_more, few_fit}
use Rattle.text_scan.proofs.number.value_of_few.Goals as goal

pub returns-in_default : goal.returns-in_default
returns-in_default c digits = omega (arith, digit_low _ _ c.loop-byte-test.true digits, c.in_default.ensures)

pub overflow_mul-value : goal.overflow_mul-value
overflow_mul-value c =
    let fits = few_fit _ _ _ _ c.loop-byte-test.true c.requires c.loop-byte.invariant.digits c.loop-byte.invariant.value c.in-Some.ensures.1 in
    omega (arith, fits)

pub overflow_add-value : goal.overflow_add-value
overflow_add-value c =
    let fits = few_fit _ _ _ _ c.loop-byte-test.true c.requires c.loop-byte.invariant.digits c.loop-byte.invariant.value c.in-Some.ensures.1 in
    omega (arith, fits)

pub loop-byte-preserved : goal.loop-byte-preserved
loop-byte-preserved c =
    record {
      digits = digits_more 10 _ _ c.loop-byte-test.true c.loop-byte.invariant.digits (rw (c.in-Some.ensures.0) (c.in-Some.ensures.1));
      value = value_more _ _ _ _ _ c.loop-byte-test.true c.loop-byte.invariant.value c.in-Some.ensures.0 refl;
    }
