use Rattle.std.proofs.Common.{arith}
use Rattle.std.proofs.lemmas.Int.Digits.{digits_more}
use Rattle.text_scan.proofs.NumberLaws.{digit_low, value_more, value_below}
use Rattle.text_scan.proofs.number.value_of.Goals as goal

pub returns-in_default : goal.returns-in_default
returns-in_default c digits = omega (arith, digit_low _ _ c.loop-byte-test.true digits, c.in_default.ensures)

pub returns-in_default-with_digit : goal.returns-in_default-with_digit
returns-in_default-with_digit c digits = value_below _ _ _ _ _ c.loop-byte-test.true c.loop-byte.invariant.value c.in-Some.ensures.0 c.in_default-with_digit.ensures

pub loop-byte-preserved : goal.loop-byte-preserved
loop-byte-preserved c =
    record {
      digits = digits_more 10 _ _ c.loop-byte-test.true c.loop-byte.invariant.digits (rw (c.in-Some.ensures.0) (c.in-Some.ensures.1));
      value = value_more _ _ _ _ _ c.loop-byte-test.true c.loop-byte.invariant.value c.in-Some.ensures.0 c.in-Some-with_digit.ensures;
    }
