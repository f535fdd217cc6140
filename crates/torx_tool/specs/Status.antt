-- Promise: the answers of the program to a refusal, and those that are failures.
use Rattle.tool_base.specs.declared.refusal.Refusal.{Refusal}
use Rattle.tool_base.specs.declared.refusal.Refusal.TheVariants.{TooLong as LongFile, BadFile as FaultyFile, BadLabels as FaultyLabels, Divergent as Diverging, FileFault as UnreadFile}
use Rattle.torx_tool.specs.declared.status.Status.{Status}
use Rattle.torx_tool.specs.declared.status.Status.TheVariants.{TooLong, BadFile, BadLabels, Divergent, FileFault, OutFault, Memory}

abbrev pub refusal_status : Refusal → Status
refusal_status (LongFile name) = TooLong name
refusal_status (FaultyFile name error) = BadFile name error
refusal_status (FaultyLabels error) = BadLabels error
refusal_status (Diverging name cycle) = Divergent name cycle
refusal_status (UnreadFile name) = FileFault name

-- memory ran out, the output failed, or a file couldn't be read: the only answers that the contents of the files don't decide
abbrev pub IsFailure : Status → Type 0
IsFailure Memory = Unit {0}
IsFailure OutFault = Unit {0}
IsFailure (FileFault name) = Unit {0}
IsFailure other = ⊥
