use Rattle.cert_check.proofs.PresentLaws.{IsMarking}
use Rattle.cert_check.proofs.present.mark_labels.Given as goal

abbrev pub invariant-moves : goal.invariant-moves
invariant-moves l = IsMarking l.fn.present.items l.present.items l.moves l.m-index
