use Rattle.std.proofs.Common.{◌≡◌, ◌++◌, None, Some, sym, subst, rules}
use Rattle.aut_text.specs.Pieces.{Fed, IsRead}
use Rattle.aut_text.proofs.PieceLaws.{read_none, or_more, open_read, stopped_more, stopped_shown}
use Rattle.aut_text.proofs.reader.AutReader.feed.Goals as goal

pub returns-in-Some-clause-read : goal.returns-in-Some-clause-read
returns-in-Some-clause-read c content read =
    let is : c.args.self.now.stopped ≡ Some c.in-Some.error = search rules in
    stopped_more content c.args.piece.now c.args.self.now c.in-Some.error is read

pub returns-in-Some-clause-told : goal.returns-in-Some-clause-told
returns-in-Some-clause-told c content read =
    let is : c.args.self.now.stopped ≡ Some c.in-Some.error = search rules in
    or_more content c.args.piece.now c.in-Some.error (stopped_shown content c.args.self.now c.in-Some.error is read)

pub returns-clause-told : goal.returns-clause-told
returns-clause-told c content read =
    let is : c.args.self.now.stopped ≡ None = search rules in
    let before : IsRead content c.self.inside.pieces = subst (λ (r : Fed). IsRead content r.pieces) (sym c.self.view_is) (open_read content c.args.self.now is read) in
    read_none (content ++ c.args.piece.now) c.take.new.self (c.in_default-take.ensures.read content before)
