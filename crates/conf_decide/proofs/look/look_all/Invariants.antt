use Rattle.std.proofs.Common.{◌+◌, ◌-◌, ◌*◌, ◌≤◌, length}
use Rattle.walk_core.specs.Walked.{Grows}
use Rattle.conf_decide.specs.Progress.{IsSetting, IsRunOf, TookBoth}
use Rattle.conf_decide.proofs.look.look_all.Given as goal

abbrev pub invariant-items : goal.invariant-items
invariant-items g l =
    record {
      setting : IsSetting l.setting (g.A.Walk.walked l.imp) (g.B.Walk.walked l.spec);
      imp : Grows (g.A.Walk.walked l.fn.imp) (g.A.Walk.walked l.imp);
      spec : Grows (g.B.Walk.walked l.fn.spec) (g.B.Walk.walked l.spec);
      run : IsRunOf l.setting (g.A.Walk.walked l.imp) (g.B.Walk.walked l.spec) l.table l.at l.number;
      table : length l.fn.table ≤ length l.table;
      taken : TookBoth (g.A.Walk.taken l.fn.imp) (g.A.Walk.taken l.imp) (g.B.Walk.taken l.fn.spec) (g.B.Walk.taken l.spec) (2 * l.number);
      steps : l.steps ≤ l.fn.steps + 2 * l.number;
      number : l.number ≤ l.setting.inputs + l.setting.outputs + 1;
    }

abbrev pub decreases-items : goal.decreases-items
decreases-items g l = (l.setting.inputs + l.setting.outputs + 1) - l.number
