use Rattle.sim_core.proofs.GoLaws.{drawn_made}
use Rattle.sim_core.proofs.going.next_move.Goals as goal

pub returns-clause-made : goal.returns-clause-made
returns-clause-made g c = drawn_made g.R.NextWord.step _ _ _ _ _ _ _ c.moves_of.ensures.system c.moves_of.ensures.these c.draw.ensures.drawn
