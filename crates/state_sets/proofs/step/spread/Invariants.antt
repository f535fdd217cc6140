use Rattle.std.proofs.Common.{◌≡◌}
use Rattle.lts_base.specs.System.{HasMove}
use Rattle.state_sets.proofs.Reaching.{IsSpreading}
use Rattle.state_sets.proofs.step.spread.Given as goal

abbrev pub invariant-moves : goal.invariant-moves
invariant-moves l = record {
  states : l.search.states ≡ l.fn.lts.states;
  spreading : IsSpreading (HasMove l.fn.lts l.fn.state l.fn.act) l.fn.act l.fn.search.found l.search.found l.moves l.place;
}
