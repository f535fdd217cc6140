use Rattle.std.proofs.Common.{◌≡◌, ◌++◌, false, Bool, sym, subst, rules}
use Rattle.aut_text.specs.Pieces.{IsRead}
use Rattle.aut_text.specs.Reading.{GoesOn}
use Rattle.aut_text.proofs.PieceLaws.{IsRead-long}
use Rattle.aut_text.proofs.pieces.Pieces.add.Goals as goal

pub returns-clause-read : goal.returns-clause-read
returns-clause-read c lacks content read =
    let goes : c.in_ok-add.field-0 ≡ false = search rules in
    rw (c.too_long.ensures)
    (IsRead-long content c.args.bytes.now (record { standing = c.self.inside.progress; kept = c.self.inside.line }) (subst (IsRead content) (sym c.self.view_is) read) lacks
    (λ line kept. subst (λ (b : Bool). GoesOn (line ++ c.args.bytes.now) c.add.new.self b) goes (c.in_ok-add.ensures line kept)))
