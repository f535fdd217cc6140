-- Promise: the log of a session.
use Rattle.std.specs.Prelude.{◌≡◌, ℕ, List, [], ◌∷◌, ◌++◌, map, Option, None, Some}
use Rattle.lts_base.specs.declared.item.Item.{Item}
use Rattle.lts_base.specs.declared.item.Item.TheVariants.{Input, Output, Delta}
use Rattle.lts_base.specs.Alphabet.{text_at}
use Rattle.log_text.specs.declared.log.Entry.{Entry}
use Rattle.log_text.specs.declared.log.Entry.TheVariants.{Sent, Heard, Quiet}
use Rattle.log_text.specs.declared.log.Ending.{Ending}
use Rattle.log_text.specs.declared.log.Ending.TheVariants.{Pass as EndPass, Fail as EndFail, Ended as EndEnded, Stalled as EndStalled, Long as EndLong}
use Rattle.log_text.specs.declared.log.Log.{Log}
use Rattle.session_core.specs.declared.phase.Phase.{Phase}
use Rattle.session_core.specs.declared.phase.Phase.TheVariants.{Ask, Look, Send, Hear, Done}
use Rattle.session_core.specs.declared.verdict.Verdict.TheVariants.{Pass, Fail, Ended, Stalled, Long}
use Rattle.session_core.specs.Table.{Rules, Sitting}

-- an input was sent, an output was heard, and `delta` is quiescence
abbrev pub entry_of : List (List ℕ) → Item → Entry
entry_of texts (Input a) = Sent (text_at texts a)
entry_of texts (Output a) = Heard (text_at texts a)
entry_of texts Delta = Quiet

-- a line that is no output was heard last
abbrev pub strange_entries : Option (List ℕ) → List Entry
strange_entries None = []
strange_entries (Some text) = Heard text ∷ []

-- the ending is the verdict's where there is one
abbrev pub ending_of : Phase → Ending → Ending
ending_of Ask otherwise = otherwise
ending_of (Look a) otherwise = otherwise
ending_of (Send a) otherwise = otherwise
ending_of Hear otherwise = otherwise
ending_of (Done Pass) otherwise = EndPass
ending_of (Done (Fail k)) otherwise = EndFail
ending_of (Done Ended) otherwise = EndEnded
ending_of (Done Stalled) otherwise = EndStalled
ending_of (Done Long) otherwise = EndLong

abbrev pub log_of : Rules → Sitting → Ending → Log
log_of r s otherwise = record {
  mode = r.mode;
  patience = r.patience;
  steps = r.steps;
  entries = map (entry_of r.texts) s.items ++ strange_entries s.strange;
  left = s.left;
  ending = ending_of s.phase otherwise;
}
