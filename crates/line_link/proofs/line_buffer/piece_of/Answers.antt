use Rattle.std.proofs.Common.{arith, refl}
use Rattle.line_link.proofs.PieceLaws.{front_long, line_found, long_found, part_found}
use Rattle.line_link.proofs.line_buffer.piece_of.Goals as goal

pub returns-in-Some-clause-said : goal.returns-in-Some-clause-said
returns-in-Some-clause-said c =
    let found = line_found _ _ _ _ _ c.front_of-front.ensures c.in-Some.ensures c.without_cr_len.ensures.within c.without_cr_len.ensures.line in
    omega (arith, found.0, c.without_cr_len.ensures.within)

pub returns-in-Some-clause-taken : goal.returns-in-Some-clause-taken
returns-in-Some-clause-taken c = (line_found _ _ _ _ _ c.front_of-front.ensures c.in-Some.ensures c.without_cr_len.ensures.within c.without_cr_len.ensures.line).0

pub returns-in-Some-clause-found : goal.returns-in-Some-clause-found
returns-in-Some-clause-found c = (line_found _ _ _ _ _ c.front_of-front.ensures c.in-Some.ensures c.without_cr_len.ensures.within c.without_cr_len.ensures.line).1

pub returns-then-front-gt-MOST_HEARD_BYTES-clause-said : goal.returns-then-front-gt-MOST_HEARD_BYTES-clause-said
returns-then-front-gt-MOST_HEARD_BYTES-clause-said c = (front_long _ _ c.front_of-front.ensures).0

pub returns-then-front-gt-MOST_HEARD_BYTES-clause-found : goal.returns-then-front-gt-MOST_HEARD_BYTES-clause-found
returns-then-front-gt-MOST_HEARD_BYTES-clause-found c = (long_found _ _ c.front_of-front.ensures c.in_default.ensures c.if-front-gt-MOST_HEARD_BYTES.true, refl)

pub returns-else-front-gt-MOST_HEARD_BYTES-clause-said : goal.returns-else-front-gt-MOST_HEARD_BYTES-clause-said
returns-else-front-gt-MOST_HEARD_BYTES-clause-said c = (front_long _ _ c.front_of-front.ensures).0

pub returns-else-front-gt-MOST_HEARD_BYTES-clause-found : goal.returns-else-front-gt-MOST_HEARD_BYTES-clause-found
returns-else-front-gt-MOST_HEARD_BYTES-clause-found c = (part_found _ _ c.front_of-front.ensures c.in_default.ensures c.if-front-gt-MOST_HEARD_BYTES.false, refl)
