use Rattle.std.proofs.Common.{arith, ◌≡◌}
use Rattle.std.proofs.lemmas.Bool.{iff_false}
use Rattle.log_text.proofs.NumberLaws.{decimal_is, value_once, no_zero, written}
use Rattle.log_text.proofs.number.number_to.Goals as goal

pub returns-then-has_needless_zero : goal.returns-then-has_needless_zero
returns-then-has_needless_zero c n below e = no_zero n (omega (arith, below)) (rw e at (c.has_needless_zero.ensures.0 c.if-has_needless_zero.true))

pub returns-then-n-most : goal.returns-then-n-most
returns-then-n-most c n below e =
    let same : c.in-Some.n ≡ n = value_once c.args.text.now c.in-Some.n n (omega (arith, below)) c.in-Some.ensures e in
    omega (arith, same, below, c.if-n-most.true)

pub returns-in-None : goal.returns-in-None
returns-in-None c n below e = c.in-None.ensures n (rw e (decimal_is n (omega (arith, below))))

pub returns-else-n-most : goal.returns-else-n-most
returns-else-n-most c = (c.if-n-most.false, written c.args.text.now c.in-Some.n c.in-Some.ensures (iff_false c.has_needless_zero.ensures c.if-has_needless_zero.false))
