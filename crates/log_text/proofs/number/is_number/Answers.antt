use Rattle.std.proofs.Common.{arith, sym, ◌∙◌}
use Rattle.std.proofs.lemmas.Bool.Decides.{Decides-eqb}
use Rattle.std.proofs.lemmas.Fmt.{decimal_injective}
use Rattle.log_text.proofs.number.is_number.Goals as goal

pub returns-in-Some : goal.returns-in-Some
returns-in-Some c = (
  λ t. rw (← (Decides-eqb c.in-Some.n c.args.number).0 t) c.in-Some.ensures.1,
  λ e. (Decides-eqb c.in-Some.n c.args.number).1 (decimal_injective c.in-Some.n c.args.number (omega (arith, c.in-Some.ensures.0, c.requires)) (omega (arith, c.requires)) (sym c.in-Some.ensures.1 ∙ e)),
)
