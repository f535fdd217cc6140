use Rattle.cert_text.proofs.NumberLaws.{fails, empty_fails, digits_tell}
use Rattle.cert_text.proofs.number.is_number.Goals as goal

pub returns-then-is_empty : goal.returns-then-is_empty
returns-then-is_empty c = fails (empty_fails c.args.text.now c.if-is_empty.ensures)

pub returns-then-text-eq1 : goal.returns-then-text-eq1
returns-then-text-eq1 c = digits_tell c.args.text.now c.are_digits.result c.if-is_empty.ensures (λ zeros. c.if-text-eq1.true) c.are_digits.ensures

pub returns : goal.returns
returns c = digits_tell c.args.text.now c.are_digits-2.result c.if-is_empty.ensures (λ zeros. absurd (c.if-text-eq48.false zeros)) c.are_digits-2.ensures
