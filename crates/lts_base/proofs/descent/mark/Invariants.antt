use Rattle.std.proofs.Common.{take}
use Rattle.lts_base.specs.Descent.{AreMarked}
use Rattle.lts_base.proofs.descent.mark.Given as goal

abbrev pub invariant-states : goal.invariant-states
invariant-states l = AreMarked (take l.state-index l.states) l.initial.flags.items l.flags.items
