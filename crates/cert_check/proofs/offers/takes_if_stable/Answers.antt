use Rattle.std.proofs.Common.{refl}
use Rattle.cert_check.proofs.offers.takes_if_stable.Goals as goal

pub returns-then-has_move : goal.returns-then-has_move
returns-then-has_move c =
    let (q, has) = c.has_move.ensures.0 c.if-has_move.true in
    (λ t stable. absurd (stable q has), λ all. refl)
