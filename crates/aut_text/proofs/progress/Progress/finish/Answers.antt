use Rattle.std.proofs.Common.{sym, subst}
use Rattle.text_scan.specs.Lines.{lines_of}
use Rattle.aut_text.specs.Pieces.{StandsAfter}
use Rattle.aut_text.proofs.BuildLaws.{moves_within}
use Rattle.aut_text.proofs.ProgressLaws.{way_of, stands_ended}
use Rattle.aut_text.proofs.progress.Progress.finish.Goals as goal

pub finish-requires-clause-within : goal.finish-requires-clause-within
finish-requires-clause-within c =
    let (lines, stands) = c.self.invariant in
    let way = way_of lines (record { head = c.self.inside.head; parts = c.self.inside.parts; number = c.self.inside.number }) c.in-Some.header stands c.in-Some.is in
    moves_within c.in-Some.header.states way.others _ way.moves_are

pub returns-in-Some-clause-read : goal.returns-in-Some-clause-read
returns-in-Some-clause-read c content stands = stands_ended content (record { head = c.self.inside.head; parts = c.self.inside.parts; number = c.self.inside.number }) c.in-Some.header _ (subst (StandsAfter (lines_of content)) (sym c.self.view_is) stands) c.in-Some.is c.finish.ensures.built
