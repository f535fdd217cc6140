use Rattle.std.proofs.Common.{◌≡◌, ℕ, List, ◌++◌, take}
use Rattle.sim_core.specs.Search.{HasSearched}
use Rattle.sim_core.proofs.WayLaws.{IsSearching}
use Rattle.sim_core.proofs.detour.add_targets.Given as goal

abbrev pub invariant-moves : goal.invariant-moves
invariant-moves l =
    record {
      states : l.finds.states ≡ l.lts.states;
      grows : (more : List ℕ) × (l.finds.found ≡ l.fn.finds.found ++ more);
      searched : (p : ℕ) → HasSearched l.lts p l.fn.finds.found l.at → IsSearching l.lts p l.finds.found l.at (take l.m-index l.moves);
    }
