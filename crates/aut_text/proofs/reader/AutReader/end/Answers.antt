use Rattle.aut_text.proofs.FaultLaws.{refuses_only}
use Rattle.aut_text.proofs.RawOnce.{file_of, file_only, file_refused}
use Rattle.aut_text.proofs.reader.AutReader.end.Goals as goal

pub returns-clause-read : goal.returns-clause-read
returns-clause-read c content read = file_of content _ (c.settle.ensures.read content read) c.settle.ensures.sound

pub returns-clause-only : goal.returns-clause-only
returns-clause-only c content read r file = file_only content r _ (returns-clause-read c content read) file

pub returns-clause-fault : goal.returns-clause-fault
returns-clause-fault c content read e fault other = refuses_only content e _ (file_refused content _ (returns-clause-read c content read)) fault other
