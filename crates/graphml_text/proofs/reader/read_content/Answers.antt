use Rattle.std.proofs.Common.{◌∙◌}
use Rattle.graphml_text.proofs.TokenLaws.{refuses_same}
use Rattle.graphml_text.proofs.DocumentLaws.{refuses_graphml, document_cut, document_front, document_body}
use Rattle.graphml_text.proofs.reader.read_content.Goals as goal

pub returns-in-Some-clause-read : goal.returns-in-Some-clause-read
returns-in-Some-clause-read c = document_cut _ _ c.in-Some.ensures.0 c.in-Some.ensures.1

pub returns-in-Ok-read_body-clause-read : goal.returns-in-Ok-read_body-clause-read
returns-in-Ok-read_body-clause-read c = document_body _ _ c.in_default.ensures (rw c.unmarked.ensures.bytes at c.in-Ok.ensures.body) ∙ c.in-Ok-read_body.ensures.read

pub returns-in-Err-read_body-clause-read : goal.returns-in-Err-read_body-clause-read
returns-in-Err-read_body-clause-read c = refuses_graphml _ _ (refuses_same _ _ _ (document_body _ _ c.in_default.ensures (rw c.unmarked.ensures.bytes at c.in-Ok.ensures.body)) c.in-Err-read_body.ensures.read)

pub returns-in-Err-clause-read : goal.returns-in-Err-clause-read
returns-in-Err-clause-read c = document_front _ _ c.in_default.ensures (rw c.unmarked.ensures.bytes at c.in-Err.ensures.body)
