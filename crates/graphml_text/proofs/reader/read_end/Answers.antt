use Rattle.std.proofs.Common.{Some, None, refl, arith}
use Rattle.graphml_scan.specs.Token.{End}
use Rattle.graphml_text.proofs.TokenLaws.{goes_on, stops, begins_none, end_front}
use Rattle.graphml_text.proofs.reader.read_end.Goals as goal

pub returns-in_default : goal.returns-in_default
returns-in_default c = begins_none _ _ _ _ (end_front _ None c.requires.some c.requires.front c.requires.slash (rw c.in_default.is at c.end_tag_at.ensures)) (c.refusal.ensures _ _ refl (omega (arith, c.requires.some)))

pub returns-in-Ok : goal.returns-in-Ok
returns-in-Ok c = goes_on _ _ _ _ (End c.in-Some.name.now) _ (end_front _ (Some (c.in-Some.name.now, c.in-Some.rest.now)) c.requires.some c.requires.front c.requires.slash (rw c.in-Some.is at c.end_tag_at.ensures)) c.in-Ok.ensures

pub returns-in-Err : goal.returns-in-Err
returns-in-Err c = stops _ _ _ (End c.in-Some.name.now) c.in-Some.rest.now _ (end_front _ (Some (c.in-Some.name.now, c.in-Some.rest.now)) c.requires.some c.requires.front c.requires.slash (rw c.in-Some.is at c.end_tag_at.ensures)) c.in-Err.ensures
