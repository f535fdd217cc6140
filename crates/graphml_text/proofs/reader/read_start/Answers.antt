use Rattle.std.proofs.Common.{Some, None, refl, arith}
use Rattle.graphml_scan.specs.Token.{Start}
use Rattle.graphml_scan.specs.TagValues.{tag_of}
use Rattle.graphml_text.proofs.TokenLaws.{goes_on, stops, begins_none, start_front}
use Rattle.graphml_text.proofs.reader.read_start.Goals as goal

pub returns-in_default : goal.returns-in_default
returns-in_default c = begins_none _ _ _ _ (start_front _ None c.requires.some c.requires.front c.requires.start (rw c.in_default.is at c.in_ok-tag.ensures)) (c.refusal.ensures _ _ refl (omega (arith, c.requires.some)))

pub returns-in-Ok : goal.returns-in-Ok
returns-in-Ok c = goes_on _ _ _ _ (Start (tag_of c.in-Some.tag)) _ (start_front _ (Some (tag_of c.in-Some.tag, c.in-Some.rest.now)) c.requires.some c.requires.front c.requires.start (rw c.in-Some.is at c.in_ok-tag.ensures)) c.in-Ok.ensures

pub returns-in-Err : goal.returns-in-Err
returns-in-Err c = stops _ _ _ (Start (tag_of c.in-Some.tag)) c.in-Some.rest.now _ (start_front _ (Some (tag_of c.in-Some.tag, c.in-Some.rest.now)) c.requires.some c.requires.front c.requires.start (rw c.in-Some.is at c.in_ok-tag.ensures)) c.in-Err.ensures
