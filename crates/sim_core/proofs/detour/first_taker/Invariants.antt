use Rattle.std.proofs.Common.{◌≡◌, ◌-◌}
use Rattle.sim_core.specs.Search.{HasSearched}
use Rattle.sim_core.proofs.WayLaws.{NoneTakes}
use Rattle.sim_core.proofs.detour.first_taker.Given as goal

abbrev pub invariant-finds : goal.invariant-finds
invariant-finds l =
    record {
      states : l.finds.states ≡ l.lts.states;
      searched : HasSearched l.lts l.from l.finds.found l.at;
      none : NoneTakes l.lts l.input l.finds.found l.at;
    }

abbrev pub decreases-finds : goal.decreases-finds
decreases-finds l = l.lts.states - l.at
