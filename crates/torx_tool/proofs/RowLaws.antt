-- Each row of the table answers one thing, or refuses for one cause.
use Rattle.std.proofs.Common.{◌≡◌, Bool, true, false}
use Rattle.std.proofs.lemmas.Bool.{false≢true}
use Rattle.tool_base.specs.Contents.{Contents, AreTold}
use Rattle.cmd_check.proofs.OnceLaws.{check_once}
use Rattle.cmd_verify.proofs.OnceLaws.{verify_once}
use Rattle.cmd_outs.proofs.OnceLaws.{outs_once}
use Rattle.cmd_angelic.proofs.OnceLaws.{angelic_once}
use Rattle.cmd_replay.proofs.OnceLaws.{replay_once, migrate_once}
use Rattle.cmd_demo.proofs.OnceLaws.{demo_once}
use Rattle.cmd_drive.specs.Dialled.{Dialled}
use Rattle.cmd_drive.proofs.OnceLaws.{drive_refused_once, rehearse_refused_once}
use Rattle.torx_tool.specs.declared.commands.Name.{Name}
use Rattle.torx_tool.specs.declared.commands.Name.TheVariants.{Check, Verify, Outs, Angelic, Replay, Migrate, Demo, Drive, Rehearse}
use Rattle.torx_tool.specs.Commands.{row}
use Rattle.tool_base.specs.Once.{IsOnce, IsRefusedOnce}
use Rattle.tool_base.specs.Pages.{Page}

-- the page refuses once; and where the contents decide its outcome, it answers once
pub record IsOnceBy {O : Type 0} (page : Page O) (decided : Bool) : Type 0 where
  pub refuses : IsRefusedOnce page
  pub answers : decided ≡ true → IsOnce page

-- what is so once is refused once
refused_once : {O : Type 0} (page : Page O) → IsOnce page → IsRefusedOnce page
refused_once page once = record { refused = once.refused; apart = once.apart }

-- the contents decide the outcome
decided_once : {O : Type 0} (page : Page O) → IsOnce page → IsOnceBy page true
decided_once page once = record { refuses = refused_once page once; answers = λ is. once }

-- a link, or generators, decide it as well
open_once : {O : Type 0} (page : Page O) → IsRefusedOnce page → IsOnceBy page false
open_once page once = record { refuses = once; answers = λ is. absurd (false≢true is) }

-- each command answers one thing for what it is asked for and the contents of its files, or refuses it for one cause
pub row_once : (run : Dialled) (name : Name) (contents : Contents) (x : (row run name).Asked) → AreTold contents ((row run name).command.page contents x).names → IsOnceBy ((row run name).command.page contents x) (row run name).decided
row_once run Check contents x told = decided_once _ (check_once contents x told)
row_once run Verify contents x told = decided_once _ (verify_once contents x told)
row_once run Outs contents x told = decided_once _ (outs_once contents x told)
row_once run Angelic contents x told = decided_once _ (angelic_once contents x told)
row_once run Replay contents x told = decided_once _ (replay_once contents x told)
row_once run Migrate contents x told = decided_once _ (migrate_once contents x told)
row_once run Demo contents x told = decided_once _ (demo_once contents x)
row_once run Drive contents x told = open_once _ (drive_refused_once run contents x told)
row_once run Rehearse contents x told = open_once _ (rehearse_refused_once contents x told)
