use Rattle.std.proofs.Common.{◌≡◌, ◌<◌, List, ◌++◌, length}
use Rattle.std.specs.Prelude.{reverse}
use Rattle.lts_base.specs.declared.item.Item.{Item as TheItem}
use Rattle.lts_base.specs.Reached.{trace_at}
use Rattle.conf_decide.specs.Table.{AreEdges}
use Rattle.conf_decide.proofs.table.Table.trace_of.Given as goal

abbrev pub invariant-loop-at : goal.invariant-loop-at
invariant-loop-at l =
    record {
      within : l.at < length l.self;
      trace : (traces : List (List TheItem)) → AreEdges l.self traces → trace_at traces l.number ≡ trace_at traces l.at ++ reverse l.items.items;
    }

abbrev pub decreases-loop-at : goal.decreases-loop-at
decreases-loop-at l = l.at
