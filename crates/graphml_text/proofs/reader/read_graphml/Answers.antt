use Rattle.graphml_text.proofs.ReadOnce.{file_of, file_only, refuses_only, says_only}
use Rattle.graphml_text.proofs.DrawingLaws.{drawing_said}
use Rattle.graphml_text.proofs.reader.read_graphml.Goals as goal

pub returns-clause-read : goal.returns-clause-read
returns-clause-read c = file_of _ _ c.read_content.ensures.read c.read_content.ensures.sound

pub returns-clause-only : goal.returns-clause-only
returns-clause-only c r file = file_only _ r _ (returns-clause-read c) file

pub returns-clause-fault : goal.returns-clause-fault
returns-clause-fault c e why other = refuses_only _ e _ (returns-clause-read c) why other

pub returns-clause-drawn : goal.returns-clause-drawn
returns-clause-drawn c d drawing written = says_only _ d.system _ (drawing_said d _ drawing written) (returns-clause-read c)
