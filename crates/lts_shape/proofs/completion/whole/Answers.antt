use Rattle.lts_shape.proofs.AngelicLaws.{IsAngelic-from_built, IsAngelic-enabled, within_limit}
use Rattle.lts_shape.proofs.completion.whole.Goals as goal

pub returns-in_ok-read_as-in-Ok-clause-ok : goal.returns-in_ok-read_as-in-Ok-clause-ok
returns-in_ok-read_as-in-Ok-clause-ok c =
    IsAngelic-from_built _ _ _ _ _ c.requires (rw (c.states-states.ensures.states, c.start-start.ensures.start) at c.in-Ok.ensures.ok) c.in_ok-moves.ensures.ok c.in-Ok.ensures.moves
    (rw c.divergence.ensures.divergence at c.in_ok-read_as-in-Ok.ensures)

pub returns-in_ok-read_as-in-Ok-clause-enabled : goal.returns-in_ok-read_as-in-Ok-clause-enabled
returns-in_ok-read_as-in-Ok-clause-enabled c = IsAngelic-enabled c.args.lts.now _ c.states-states.ensures.system (returns-in_ok-read_as-in-Ok-clause-ok c)

pub returns-in_ok-read_as-in-Ok-clause-within : goal.returns-in_ok-read_as-in-Ok-clause-within
returns-in_ok-read_as-in-Ok-clause-within c = within_limit _ _ _ c.in_ok-moves.ensures.ok.0 c.in-Ok.ensures.moves c.in_ok-read_as-in-Ok.ensures.moves
