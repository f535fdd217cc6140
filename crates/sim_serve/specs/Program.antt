-- Promise: what the program does with its arguments.
use Rattle.std.specs.Prelude.{List, [], ◌∷◌, map, Result, Ok, Err, String, Vec, string_bytes}
use Rattle.edge_io.specs.Outside.{ToldFiles}
use Rattle.torx_words.specs.declared.kind.WordsError.{WordsError}
use Rattle.tool_base.specs.Pages.{stop_of}
use Rattle.sim_serve.specs.declared.status.SimStatus.{SimStatus}
use Rattle.sim_serve.specs.Report.{IsOrNoMemory, stop_report}
use Rattle.sim_serve.specs.Serve.{IsServed, IsTurnedDown, Scene}

-- the arguments after the program's own name
abbrev pub after_name : {X : Type 0} → List X → List X
after_name [] = []
after_name (name ∷ words) = words

-- the words after the program's name are served; where the arguments couldn't be had, that is answered
abbrev pub IsRunOn : {Z : Type 0} → Result (Vec (String Z) Z) WordsError → ToldFiles → ToldFiles → Scene → SimStatus → Type 0
IsRunOn (Ok all) old new x status = IsServed (map string_bytes (after_name all.items)) old new x status
IsRunOn (Err error) old new x status = IsTurnedDown (IsOrNoMemory (stop_report (stop_of error))) x status
