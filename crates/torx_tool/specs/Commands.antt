-- Promise: the table of commands: their names, the answer that tells each outcome, with its exit status, and for each name its row.
use Rattle.std.specs.Prelude.{ℕ, nat_lt, Bool, true, false, List, codes, if◌then◌else◌, Option, Some, None}
use Rattle.std.specs.Str.{bytes_eq}
use Rattle.tool_base.specs.Pages.{Command}
use Rattle.cmd_check.specs.Check.{check_command}
use Rattle.cmd_verify.specs.Verify.{verify_command}
use Rattle.cmd_outs.specs.Outs.{outs_command}
use Rattle.cmd_angelic.specs.Angelic.{angelic_command}
use Rattle.cmd_replay.specs.Replay.{replay_command}
use Rattle.cmd_replay.specs.Migrate.{migrate_command}
use Rattle.cmd_demo.specs.Demo.{demo_command}
use Rattle.cmd_drive.specs.Dialled.{Dialled}
use Rattle.cmd_drive.specs.Drive.{drive_command}
use Rattle.cmd_drive.specs.Rehearse.{rehearse_command}
use Rattle.cmd_check.specs.declared.outcome.CheckOutcome.{CheckOutcome}
use Rattle.cmd_check.specs.declared.outcome.CheckOutcome.TheVariants.{Conforms as Conforming, Violates as Violating, Undecided as Cut, NotEnabled as Lacking}
use Rattle.cmd_demo.specs.declared.outcome.DemoOutcome.{DemoOutcome}
use Rattle.cmd_demo.specs.declared.outcome.DemoOutcome.TheVariants.{NoSize, Decided}
use Rattle.cmd_verify.specs.declared.outcome.VerifyOutcome.{VerifyOutcome}
use Rattle.cmd_verify.specs.declared.outcome.VerifyOutcome.TheVariants.{Accepted as Verified, Rejected as Unverified}
use Rattle.cmd_outs.specs.declared.outcome.OutsOutcome.{OutsOutcome}
use Rattle.cmd_outs.specs.declared.outcome.OutsOutcome.TheVariants.{Printed as Offered, Absent as AbsentAt}
use Rattle.cmd_angelic.specs.declared.outcome.AngelicOutcome.{AngelicOutcome}
use Rattle.cmd_angelic.specs.declared.outcome.AngelicOutcome.TheVariants.{Printed as Completed, TooManyMoves}
use Rattle.log_report.specs.declared.replayed.ReplayOutcome.{ReplayOutcome}
use Rattle.log_report.specs.declared.migrated.MigrateOutcome.{MigrateOutcome}
use Rattle.log_report.specs.declared.migrated.MigrateOutcome.TheVariants.{Printed as Migrated, NotOf as NotMigrated}
use Rattle.torx_words.specs.declared.kind.UsageKind.TheVariants.{Value}
use Rattle.session_core.specs.declared.verdict.Verdict.{Verdict}
use Rattle.session_core.specs.declared.verdict.Verdict.TheVariants.{Pass, Fail}
use Rattle.cmd_drive.specs.declared.outcome.DriveOutcome.{DriveOutcome}
use Rattle.cmd_drive.specs.declared.outcome.DriveOutcome.TheVariants.{Ended as Driven, Full as DrivenFull, Broken as DrivenBroken}
use Rattle.cmd_drive.specs.declared.rehearse_outcome.RehearseOutcome.{RehearseOutcome}
use Rattle.cmd_drive.specs.declared.rehearse_outcome.RehearseOutcome.TheVariants.{NotEnabled as NotRehearsed, Went}
use Rattle.torx_tool.specs.declared.commands.Name.{Name}
use Rattle.torx_tool.specs.declared.commands.Name.TheVariants.{Check, Verify, Outs, Angelic, Replay, Migrate, Demo, Drive, Rehearse}
use Rattle.torx_tool.specs.declared.status.Status.{Status}
use Rattle.torx_tool.specs.declared.status.LimitWhat.TheVariants.{Moves}
use Rattle.torx_tool.specs.declared.status.Status.TheVariants.{Conforms, Violates, Undecided, Accepted, Rejected, Printed, Absent, Replayed, NotOf, Ended, SessionFull, LinkFault, Limit, Usage, TooLong, BadFile, BadLabels, Divergent, NotEnabled, FileFault, OutFault, Memory}

-- the command of this name
abbrev pub named : List ℕ → Option Name
named word =
    if bytes_eq word (codes "check") then Some Check else
    if bytes_eq word (codes "verify") then Some Verify else
    if bytes_eq word (codes "outs") then Some Outs else
    if bytes_eq word (codes "angelic") then Some Angelic else
    if bytes_eq word (codes "replay") then Some Replay else
    if bytes_eq word (codes "migrate") then Some Migrate else
    if bytes_eq word (codes "demo") then Some Demo else
    if bytes_eq word (codes "drive") then Some Drive else
    if bytes_eq word (codes "rehearse") then Some Rehearse else None

-- the exit status of a replay: some log fails, or else some log is off
abbrev pub replayed_code : ℕ → ℕ → ℕ
replayed_code fails offs = if nat_lt 0 fails then 1 else (if nat_lt 0 offs then 2 else 0)

-- the exit status of a session: it passed, it failed, or it ended in another way
abbrev pub ended_code : Verdict → ℕ
ended_code Pass = 0
ended_code (Fail place) = 1
ended_code other = 2

-- the exit status of each answer
abbrev pub code_of : Status → ℕ
code_of (Conforms pairs) = 0
code_of (Violates trace shown) = 1
code_of (Undecided what reached depth) = 2
code_of Accepted = 0
code_of (Rejected why) = 1
code_of Printed = 0
code_of (Absent place) = 1
code_of (Replayed fails offs) = replayed_code fails offs
code_of (NotOf log) = 1
code_of (Ended verdict) = ended_code verdict
code_of (SessionFull reached) = 2
code_of (LinkFault session) = 7
code_of (Limit what reached) = 2
code_of (Usage kind) = 3
code_of (TooLong name) = 4
code_of (BadFile name error) = 4
code_of (BadLabels error) = 4
code_of (Divergent name cycle) = 4
code_of (NotEnabled name state input) = 4
code_of (FileFault name) = 5
code_of OutFault = 6
code_of Memory = 8

abbrev pub check_status : CheckOutcome → Status
check_status (Conforming pairs) = Conforms pairs
check_status (Violating trace shown) = Violates trace shown
check_status (Cut what reached depth) = Undecided what reached depth
check_status (Lacking name state input) = NotEnabled name state input

abbrev pub verify_status : VerifyOutcome → Status
verify_status Verified = Accepted
verify_status (Unverified why) = Rejected why

abbrev pub outs_status : OutsOutcome → Status
outs_status Offered = Printed
outs_status (AbsentAt place) = Absent place

abbrev pub replay_status : ReplayOutcome → Status
replay_status outcome = Replayed outcome.fails outcome.offs

abbrev pub migrate_status : MigrateOutcome → Status
migrate_status Migrated = Printed
migrate_status (NotMigrated log) = NotOf log

-- a drive has one session, which is number 1
abbrev pub drive_status : DriveOutcome → Status
drive_status (Driven verdict) = Ended verdict
drive_status (DrivenFull reached) = SessionFull reached
drive_status DrivenBroken = LinkFault 1

abbrev pub rehearse_status : RehearseOutcome → Status
rehearse_status (NotRehearsed name state input) = NotEnabled name state input
rehearse_status (Went outcome) = drive_status outcome

abbrev pub angelic_status : AngelicOutcome → Status
angelic_status Completed = Printed
angelic_status (TooManyMoves reached) = Limit Moves reached

abbrev pub demo_status : DemoOutcome → Status
demo_status NoSize = Usage Value
demo_status (Decided decision) = check_status decision

-- a row of the table: a command, the status of each of its outcomes, and whether the contents of its files decide the outcome;
-- that of a session is decided by what its link answers as well, or its generators
pub record Row : Type 1 where
  pub Asked : Type 0
  pub Outcome : Type 0
  pub command : Command Asked Outcome
  pub status : Outcome → Status
  pub decided : Bool

abbrev pub row_of : {A O : Type 0} → Command A O → (O → Status) → Bool → Row
row_of {A} {O} command status decided = record { Asked = A; Outcome = O; command = command; status = status; decided = decided }

-- the table, for a dialer that was so before and after
abbrev pub row : Dialled → Name → Row
row run Check = row_of check_command check_status true
row run Verify = row_of verify_command verify_status true
row run Outs = row_of outs_command outs_status true
row run Angelic = row_of angelic_command angelic_status true
row run Replay = row_of replay_command replay_status true
row run Migrate = row_of migrate_command migrate_status true
row run Demo = row_of demo_command demo_status true
row run Drive = row_of (drive_command run) drive_status false
row run Rehearse = row_of rehearse_command rehearse_status false
