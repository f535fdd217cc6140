-- Promise: what a run asks of its dialer.
use Rattle.std.specs.Prelude.{◌≡◌, ℕ, List, [], ◌∷◌, Option, Some, Ok, ◌⊎◌}
use Rattle.edge_io.specs.declared.dialer.DialError.{DialError}
use Rattle.edge_io.specs.Dials.{ToldDialer, KeepsDialer, AreOpen}
use Rattle.edge_io.specs.Outside.{Grew}
use Rattle.torx_words.specs.Accepted.{asked}
use Rattle.cmd_drive.specs.Asked.{AskedDrive, drive_shape, drive_of}
use Rattle.cmd_drive.specs.Dialled.{dial_of}
use Rattle.torx_tool.specs.declared.commands.Name.{Name}
use Rattle.torx_tool.specs.declared.commands.Name.TheVariants.{Drive}
use Rattle.torx_tool.specs.declared.status.Status.{Status}
use Rattle.torx_tool.specs.declared.status.Status.TheVariants.{Ended, SessionFull, LinkFault, OutFault, Memory}
use Rattle.torx_tool.specs.Commands.{named}

-- the answer is one of a session, or there was no output for it, or no memory
abbrev pub IsOfSession : Status → Type 0
IsOfSession (Ended verdict) = Unit {0}
IsOfSession (SessionFull reached) = Unit {0}
IsOfSession (LinkFault session) = Unit {0}
IsOfSession OutFault = Unit {0}
IsOfSession Memory = Unit {0}
IsOfSession other = ⊥

-- the command is `drive`, and the dialer was asked for one link, to the address that the words ask for and with their tick
pub record AsksFor (name : Option Name) (words : List (List ℕ)) (old new : ToldDialer) (status : Status) : Type 0 where
  pub drives : name ≡ Some Drive
  pub q : AskedDrive
  pub asks : asked drive_shape drive_of words ≡ Ok q
  pub refused : Option DialError
  pub dial : Grew old.asked new.asked (dial_of q refused)
  pub of_session : IsOfSession status

-- as many links were hung up as were dialled; and the dialer is as before, or it was asked for one link
pub record IsServedBy (name : Option Name) (words : List (List ℕ)) (old new : ToldDialer) (status : Status) : Type 0 where
  pub hung_up : AreOpen 0 old new
  pub keeps : KeepsDialer old new
  pub dials : (new ≡ old) ⊎ AsksFor name words old new status

-- without words the dialer is as before
abbrev pub IsServed : List (List ℕ) → ToldDialer → ToldDialer → Status → Type 0
IsServed [] old new status = new ≡ old
IsServed (first ∷ others) old new status = IsServedBy (named first) others old new status
