use Rattle.std.proofs.Common.{◌+◌, ◌≡◌, arith}
use Rattle.std.proofs.lemmas.Bool.{iff_false}
use Rattle.cert_text.proofs.NumberLaws.{not_number, too_large, written_as}
use Rattle.cert_text.proofs.number.place_in.Goals as goal

pub returns-then-not-is_number : goal.returns-then-not-is_number
returns-then-not-is_number c i below = not_number c.args.text.now (i + 1) (omega (arith, below, c.requires)) (iff_false c.is_number.ensures c.if-not-is_number.true)

pub returns-then-n-eq0 : goal.returns-then-n-eq0
returns-then-n-eq0 c i below is =
    let same : c.in-Some.n ≡ i + 1 = written_as c.args.text.now c.in-Some.n (i + 1) (omega (arith, below, c.requires)) c.in-Some.ensures.0 is in
    omega (arith, same, c.if-n-eq0.true)

pub returns-then-n-last : goal.returns-then-n-last
returns-then-n-last c i below is =
    let same : c.in-Some.n ≡ i + 1 = written_as c.args.text.now c.in-Some.n (i + 1) (omega (arith, below, c.requires)) c.in-Some.ensures.0 is in
    omega (arith, same, below, c.if-n-last.true)

pub returns-in-None : goal.returns-in-None
returns-in-None c i below = too_large c.args.text.now (i + 1) (omega (arith, below, c.requires)) c.in-None.ensures
