-- Promise: what the program does with its arguments.
use Rattle.std.specs.Prelude.{List, [], ◌∷◌, map, Result, Ok, Err, String, Vec, string_bytes}
use Rattle.edge_io.specs.Outside.{ToldFiles, ToldSink}
use Rattle.torx_words.specs.declared.kind.WordsError.{WordsError}
use Rattle.tool_base.specs.declared.report.Report.{Report}
use Rattle.tool_base.specs.Pages.{stop_of}
use Rattle.cmd_drive.specs.Dialled.{Dialled}
use Rattle.torx_tool.specs.declared.status.Status.{Status}
use Rattle.torx_tool.specs.Run.{stop_report, IsReport, IsWritten, IsRun}

-- the arguments after the program's own name
abbrev pub after_name : {X : Type 0} → List X → List X
after_name [] = []
after_name (name ∷ words) = words

-- the arguments couldn't be had, which is answered
pub record IsRefusedRun (error : WordsError) (before after : ToldSink) (status : Status) : Type 0 where
  pub report : Report Status
  pub reported : IsReport (stop_report (stop_of error)) report
  pub written : IsWritten report before after status

-- what is answered and printed, with a dialer and files that were so before and after
abbrev pub IsRunOn : {Z : Type 0} → Dialled → Result (Vec (String Z) Z) WordsError → ToldFiles → ToldFiles → ToldSink → ToldSink → Status → Type 0
IsRunOn run (Ok all) old new before after status = IsRun run (map string_bytes (after_name all.items)) old new before after status
IsRunOn run (Err error) old new before after status = IsRefusedRun error before after status
