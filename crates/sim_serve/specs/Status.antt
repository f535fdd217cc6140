-- Promise: the answers of the simulated implementation, and their exit statuses.
use Rattle.std.specs.Prelude.{ℕ}
use Rattle.tool_base.specs.declared.refusal.Refusal.{Refusal}
use Rattle.tool_base.specs.declared.refusal.Refusal.TheVariants.{TooLong as LongFile, BadFile as FaultyFile, BadLabels as FaultyLabels, Divergent as Diverging, FileFault as UnreadFile}
use Rattle.sim_serve.specs.declared.status.SimStatus.{SimStatus}
use Rattle.sim_serve.specs.declared.status.SimStatus.TheVariants.{Served, Usage, TooLong, BadFile, BadLabels, Divergent, NotEnabled, FileFault, OutFault, DoorFault, Memory}

-- the exit status of each answer
abbrev pub code_of : SimStatus → ℕ
code_of Served = 0
code_of (Usage kind) = 3
code_of (TooLong name) = 4
code_of (BadFile name error) = 4
code_of (BadLabels error) = 4
code_of (Divergent name cycle) = 4
code_of (NotEnabled name state input) = 4
code_of (FileFault name) = 5
code_of OutFault = 6
code_of DoorFault = 7
code_of Memory = 8

-- the answer where the file is refused
abbrev pub refusal_status : Refusal → SimStatus
refusal_status (LongFile name) = TooLong name
refusal_status (FaultyFile name error) = BadFile name error
refusal_status (FaultyLabels error) = BadLabels error
refusal_status (Diverging name cycle) = Divergent name cycle
refusal_status (UnreadFile name) = FileFault name
