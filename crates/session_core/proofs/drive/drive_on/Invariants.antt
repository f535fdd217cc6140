use Rattle.std.proofs.Common.{◌≡◌, ◌≤◌}
use Rattle.edge_io.specs.Links.{KeepsLink}
use Rattle.session_core.specs.Fuel.{fuel}
use Rattle.session_core.specs.Driven.{HasPlayed}
use Rattle.session_core.specs.Stalls.{StallsIdle}
use Rattle.session_core.proofs.drive.drive_on.Given as goal

abbrev pub invariant-loop-verdict : goal.invariant-loop-verdict
invariant-loop-verdict g l =
    record {
      plays : HasPlayed g.C.Choose.answer g.K.Link.gives
          (record { seat = l.fn.session; chooser = l.fn.chooser; link = g.K.Link.state l.fn.link; acts = (g.K.Link.told l.fn.link).acts })
          (record { seat = l.session; chooser = l.chooser; link = g.K.Link.state l.link; acts = (g.K.Link.told l.link).acts });
      later : KeepsLink (g.K.Link.told l.fn.link) (g.K.Link.told l.link);
      stalled : StallsIdle l.fn.session.sitting.phase (g.K.Link.told l.fn.link) l.session.sitting.phase (g.K.Link.told l.link);
    }

abbrev pub decreases-loop-verdict : goal.decreases-loop-verdict
decreases-loop-verdict g l = fuel l.session.rules l.session.sitting
