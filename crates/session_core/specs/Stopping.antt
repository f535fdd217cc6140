-- Promise: how the refusal of a walk stops a drive.
use Rattle.std.specs.Prelude.{ℕ}
use Rattle.walk_core.specs.declared.walk.WalkError.{WalkError}
use Rattle.walk_core.specs.declared.walk.WalkError.TheVariants.{Full as WalkFull, Memory as WalkMemory}
use Rattle.session_core.specs.declared.turn.DriveError.{DriveError}
use Rattle.session_core.specs.declared.turn.DriveError.TheVariants.{Full, Memory}

-- the same refusal
abbrev pub drive_error : WalkError → DriveError
drive_error (WalkFull reached) = Full reached
drive_error WalkMemory = Memory
