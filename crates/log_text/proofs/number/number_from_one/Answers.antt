use Rattle.std.proofs.Common.{arith, sym, ◌∙◌, ◌≡◌}
use Rattle.std.proofs.lemmas.Fmt.{decimal_injective}
use Rattle.log_text.proofs.number.number_from_one.Goals as goal

pub returns-then-n-eq0 : goal.returns-then-n-eq0
returns-then-n-eq0 c n is e =
    let same : c.in-Some.n ≡ n = decimal_injective c.in-Some.n n (omega arith) (omega (arith, is.1)) (sym c.in-Some.ensures.1 ∙ e) in
    omega (arith, same, is.0, c.if-n-eq0.true)
