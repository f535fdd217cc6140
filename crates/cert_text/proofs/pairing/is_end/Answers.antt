use Rattle.std.proofs.Common.{arith}
use Rattle.text_scan.proofs.LineLaws.{has_some}
use Rattle.cert_text.proofs.NumberLaws.{fails}
use Rattle.cert_text.proofs.PieceLaws.{one_piece, one_spelled, is_empty}
use Rattle.cert_text.proofs.pairing.is_end.Goals as goal

pub returns-then-not-is_empty : goal.returns-then-not-is_empty
returns-then-not-is_empty c = fails (λ is. has_some _ c.if-not-is_empty.ensures (one_piece _ _ _ c.args.count (omega arith) c.in-Some.ensures.piece is).1)

pub returns : goal.returns
returns c = (
  λ t. one_spelled _ _ _ _ c.in-Some.ensures.piece (is_empty _ c.if-not-is_empty.ensures) (c.is_count.ensures.0 t),
  λ is. c.is_count.ensures.1 (one_piece _ _ _ c.args.count (omega arith) c.in-Some.ensures.piece is).0,
)
