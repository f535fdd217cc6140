-- Private: what the pieces of `demo` answer.
use Rattle.std.specs.Prelude.{◌≡◌, ℕ, ◌^◌, ◌<◌, List, ◌++◌, All, length}
use Rattle.lts_base.specs.declared.raw.RawMove.{RawMove}
use Rattle.lts_base.specs.declared.sorting.Rule.TheVariants.{Prefix}
use Rattle.lts_base.specs.declared.sorting.SplitSystems.{SplitSystems}
use Rattle.lts_base.specs.Raw.{RawSystem, AreLabelsOf}
use Rattle.lts_base.specs.System.{IsSystem}
use Rattle.lts_base.specs.Sorting.{IsAlphabetOf, AreSystemsFor}
use Rattle.tool_base.specs.declared.report.Report.{Report}
use Rattle.tool_base.specs.declared.systems.TwoSystems.{TwoSystems}
use Rattle.cmd_check.specs.declared.outcome.CheckOutcome.{CheckOutcome}
use Rattle.cmd_demo.specs.declared.outcome.DemoOutcome.{DemoOutcome}
use Rattle.cmd_demo.specs.declared.outcome.DemoOutcome.TheVariants.{Decided}
use Rattle.cmd_demo.specs.Systems.{AreDemo, demo_labels}
use Rattle.cmd_demo.specs.Demo.{size_line}

-- these are the two systems of size n, the specification first
abbrev pub AreDemoOver : ℕ → TwoSystems → Type 0
AreDemoOver n both = AreDemo n both.labels both.first both.second

-- the moves carry the two labels, and a `u32` counts them
pub record AreDemoMoves (moves : List RawMove) : Type 0 where
  pub labels : AreLabelsOf moves demo_labels
  pub few : length moves < 2 ^ 32

-- these are the raw systems over their alphabet
pub record IsAlphabetWith (raws : List RawSystem) (made : SplitSystems) : Type 0 where
  pub alphabet : IsAlphabetOf Prefix raws made.labels
  pub over : AreSystemsFor made.labels raws made.systems
  pub sound : All IsSystem made.systems

-- the report on a decision, after a line with the size
pub record IsHeaded (n : ℕ) (decision : Report CheckOutcome) (report : Report DemoOutcome) : Type 0 where
  pub outcome_is : report.outcome ≡ Decided decision.outcome
  pub text_is : report.text ≡ size_line n ++ decision.text
