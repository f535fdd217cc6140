use Rattle.lts_base.proofs.DescentSteps.{IsDescent-merge}
use Rattle.lts_base.proofs.DescentEnds.{IsDescent-missed}
use Rattle.lts_base.proofs.descent.meet.Goals as goal

pub returns-then-not-stands-clause-descent : goal.returns-then-not-stands-clause-descent
returns-then-not-stands-clause-descent c = IsDescent-missed _ _ _ _ _ _ _ _ c.requires.place (rw c.deref.ensures.value at (c.stands.ensures.no c.if-not-stands.true)) c.requires.descent

pub returns-clause-descent : goal.returns-clause-descent
returns-clause-descent c =
    let stands = rw c.deref.ensures.value at (c.stands.ensures.yes c.if-not-stands.false) in
    rw c.truncate.ensures.items (IsDescent-merge _ _ _ _ _ _ _ _ c.requires.source.0 _ c.requires.state
    (record { place = c.requires.place; below = stands.0; here = stands.1 }) c.requires.base c.requires.source.1 (rw c.deref-2.ensures.value at c.kept-count.ensures) c.requires.descent)
