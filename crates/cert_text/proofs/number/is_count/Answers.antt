use Rattle.std.proofs.Common.{arith}
use Rattle.std.proofs.lemmas.Bool.{iff_false}
use Rattle.std.proofs.lemmas.Bool.Decides.{Decides-eqb}
use Rattle.cert_text.proofs.NumberLaws.{fails, not_number, too_large, written_as}
use Rattle.cert_text.proofs.number.is_count.Goals as goal

pub returns-then-not-is_number : goal.returns-then-not-is_number
returns-then-not-is_number c = fails (not_number c.args.text.now c.args.count (omega arith) (iff_false c.is_number.ensures c.if-not-is_number.true))

pub returns-in-None : goal.returns-in-None
returns-in-None c = fails (too_large c.args.text.now c.args.count (omega arith) c.in-None.ensures)

pub returns-in-Some : goal.returns-in-Some
returns-in-Some c = (
  λ t. rw (← (Decides-eqb c.in-Some.n c.args.count).0 t) c.in-Some.ensures.1,
  λ is. (Decides-eqb c.in-Some.n c.args.count).1 (written_as c.args.text.now c.in-Some.n c.args.count (omega arith) c.in-Some.ensures.0 is),
)
