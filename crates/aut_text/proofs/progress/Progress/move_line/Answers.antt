use Rattle.std.proofs.Common.{◌∷◌, ◌++◌, []}
use Rattle.aut_text.proofs.ProgressLaws.{StandsAfter-move}
use Rattle.aut_text.proofs.progress.Progress.move_line.Goals as goal

pub invariant_of-self-2 : goal.invariant_of-self-2
invariant_of-self-2 c =
    let (lines, stands) = c.self.invariant in
    (lines ++ c.args.line.now ∷ [], StandsAfter-move lines c.args.line.now (record { head = c.self.inside.head; parts = c.self.inside.parts; number = c.self.inside.number }) c.args.header c.add_line.new.parts stands (rw (← c.self.view_is) at c.requires.head) c.in_ok-add_line.ensures.added)
