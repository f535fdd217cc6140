use Rattle.std.proofs.Common.{◌∷◌, ◌++◌, []}
use Rattle.aut_text.proofs.ProgressLaws.{StandsAfter-head}
use Rattle.aut_text.proofs.progress.Progress.head_line.Goals as goal

pub invariant_of-self : goal.invariant_of-self
invariant_of-self c =
    let (lines, stands) = c.self.invariant in
    (lines ++ c.args.line.now ∷ [], StandsAfter-head lines c.args.line.now (record { head = c.self.inside.head; parts = c.self.inside.parts; number = c.self.inside.number }) c.in_ok-self-inside.field-0 stands (rw (← c.self.view_is) at c.requires.none) c.in_ok-self-inside.ensures)
