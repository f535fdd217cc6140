use Rattle.std.proofs.Common.{Some, None, refl}
use Rattle.std.specs.Char.{encode_utf8}
use Rattle.graphml_scan.specs.Token.{Text}
use Rattle.graphml_text.proofs.TokenLaws.{goes_on, stops, begins_none, reference_front}
use Rattle.graphml_text.proofs.reader.read_reference.Goals as goal

pub returns-in_default : goal.returns-in_default
returns-in_default c = begins_none _ _ _ _ (reference_front _ None c.requires.some c.requires.front c.in_default.ensures) (c.refusal.ensures _ _ refl c.requires.some)

pub returns-in-Ok : goal.returns-in-Ok
returns-in-Ok c = goes_on _ _ _ _ (Text (encode_utf8 c.in-Some.character)) _ (reference_front _ (Some (encode_utf8 c.in-Some.character, c.in-Some.rest.now)) c.requires.some c.requires.front c.in-Some.ensures) (rw (c.as_bytes.ensures.value, c.encode_utf8-text.ensures.value) at c.in-Ok.ensures)

pub returns-in-Err : goal.returns-in-Err
returns-in-Err c = stops _ _ _ (Text (encode_utf8 c.in-Some.character)) c.in-Some.rest.now _ (reference_front _ (Some (encode_utf8 c.in-Some.character, c.in-Some.rest.now)) c.requires.some c.requires.front c.in-Some.ensures) (rw (c.as_bytes.ensures.value, c.encode_utf8-text.ensures.value) at c.in-Err.ensures)
