use Rattle.std.proofs.Common.{ap, sym}
use Rattle.std.proofs.lemmas.List.{take_rest}
use Rattle.line_link.specs.AtHand.{AtHand}
use Rattle.line_link.proofs.PieceLaws.{after_window, found_along, window}
use Rattle.line_link.proofs.line_buffer.LineBuffer.take_line.Goals as goal

pub returns : goal.returns
returns c =
    let from = c.self.inside.from in
    let buffer = c.self.inside.buffer.items in
    let piece = c.piece_of-piece.result in
    let same = sym (ap (λ (a : AtHand). a.bytes) c.self.view_is) in
    found_along _ _ _ _ _ _ _ same (window buffer from piece.said) (after_window buffer from piece.taken) (rw (c.deref.ensures.value, take_rest) at c.piece_of-piece.ensures.found)
