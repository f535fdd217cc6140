use Rattle.std.proofs.Common.{◌+◌, arith}
use Rattle.text_scan.proofs.LineLaws.{has_some}
use Rattle.cert_text.proofs.PieceLaws.{two_pieces, no_second}
use Rattle.cert_text.proofs.pairing.pair_in.Goals as goal

pub returns-in_default-next_piece : goal.returns-in_default-next_piece
returns-in_default-next_piece c i j under_i under_j is = no_second _ _ _ (i + 1) (j + 1) (omega (arith, under_i, c.requires.left)) c.in-Some.ensures.piece c.in_default-next_piece.ensures.piece is

pub returns-then-not-is_empty : goal.returns-then-not-is_empty
returns-then-not-is_empty c i j under_i under_j is =
    let pieces = two_pieces _ _ _ _ _ (i + 1) (j + 1) (omega (arith, under_i, c.requires.left)) (omega (arith, under_j, c.requires.right)) c.in-Some.ensures.piece c.in-Some-next_piece.ensures.piece is in
    has_some _ c.if-not-is_empty.ensures pieces.2

pub returns-in_default-place_in : goal.returns-in_default-place_in
returns-in_default-place_in c i j under_i under_j is =
    let pieces = two_pieces _ _ _ _ _ (i + 1) (j + 1) (omega (arith, under_i, c.requires.left)) (omega (arith, under_j, c.requires.right)) c.in-Some.ensures.piece c.in-Some-next_piece.ensures.piece is in
    c.in_default-place_in.ensures i under_i pieces.0

pub returns-in_default-place_in-2 : goal.returns-in_default-place_in-2
returns-in_default-place_in-2 c i j under_i under_j is =
    let pieces = two_pieces _ _ _ _ _ (i + 1) (j + 1) (omega (arith, under_i, c.requires.left)) (omega (arith, under_j, c.requires.right)) c.in-Some.ensures.piece c.in-Some-next_piece.ensures.piece is in
    c.in_default-place_in-2.ensures j under_j pieces.1
