use Rattle.std.proofs.Common.{Some, None, refl}
use Rattle.graphml_scan.specs.MarkupValues.{token_of}
use Rattle.graphml_text.proofs.TokenLaws.{goes_on, stops, begins_none, markup_front}
use Rattle.graphml_text.proofs.reader.read_mark.Goals as goal

pub returns-in_default : goal.returns-in_default
returns-in_default c = begins_none _ _ _ _ (markup_front _ None c.requires.some c.requires.front (rw c.in_default.is at c.in_ok-markup.ensures)) (c.refusal.ensures _ _ refl c.requires.some)

pub returns-in-Ok : goal.returns-in-Ok
returns-in-Ok c = goes_on _ _ _ _ (token_of c.in-Some.markup) _ (markup_front _ (Some (token_of c.in-Some.markup, c.in-Some.rest.now)) c.requires.some c.requires.front (rw c.in-Some.is at c.in_ok-markup.ensures)) c.in-Ok.ensures

pub returns-in-Err : goal.returns-in-Err
returns-in-Err c = stops _ _ _ (token_of c.in-Some.markup) c.in-Some.rest.now _ (markup_front _ (Some (token_of c.in-Some.markup, c.in-Some.rest.now)) c.requires.some c.requires.front (rw c.in-Some.is at c.in_ok-markup.ensures)) c.in-Err.ensures
