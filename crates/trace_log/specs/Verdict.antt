-- Promise: what a log says in the terms of an alphabet, and the verdict on it.
use Rattle.std.specs.Prelude.{◌≡◌, ℕ, ◌+◌, ◌<◌, ◌≤◌, List, [], ◌∷◌, ◌++◌, length, map}
use Rattle.lts_base.specs.declared.item.Item.{Item}
use Rattle.lts_base.specs.declared.item.Item.TheVariants.{Input, Output, Delta}
use Rattle.lts_base.specs.declared.item.Mode.{Mode}
use Rattle.lts_base.specs.System.{System, IsItemOf}
use Rattle.lts_base.specs.Conformance.{IsAllowed}
use Rattle.lts_base.specs.Alphabet.{Alphabet, text_at}
use Rattle.log_text.specs.declared.log.Entry.{Entry}
use Rattle.log_text.specs.declared.log.Entry.TheVariants.{Sent, Heard, Quiet}
use Rattle.trace_log.specs.declared.seen.Seen.{Seen}
use Rattle.trace_log.specs.declared.seen.Seen.TheVariants.{Known, StrangeSent, StrangeHeard}
use Rattle.trace_log.specs.declared.judge.LogVerdict.{LogVerdict}
use Rattle.trace_log.specs.declared.judge.LogVerdict.TheVariants.{Pass, Fail, Off}

-- the text is that of the input k
abbrev pub IsInputText : Alphabet → List ℕ → ℕ → Type 0
IsInputText a text k = (k < a.inputs) × (text ≡ text_at a.texts k)

-- the text is that of the output k
abbrev pub IsOutputText : Alphabet → List ℕ → ℕ → Type 0
IsOutputText a text k = (a.inputs ≤ k) × (k < length a.texts) × (text ≡ text_at a.texts k)

-- what an entry says in the terms of the alphabet: a text that was sent is an input or strange, one that was heard is an
-- output or strange
abbrev pub IsSeenAs : Alphabet → Entry → Seen → Type 0
IsSeenAs a (Sent text) (Known (Input k)) = IsInputText a text k
IsSeenAs a (Sent text) (Known (Output k)) = ⊥
IsSeenAs a (Sent text) (Known Delta) = ⊥
IsSeenAs a (Sent text) StrangeSent = (k : ℕ) → ¬ IsInputText a text k
IsSeenAs a (Sent text) StrangeHeard = ⊥
IsSeenAs a (Heard text) (Known (Input k)) = ⊥
IsSeenAs a (Heard text) (Known (Output k)) = IsOutputText a text k
IsSeenAs a (Heard text) (Known Delta) = ⊥
IsSeenAs a (Heard text) StrangeSent = ⊥
IsSeenAs a (Heard text) StrangeHeard = (k : ℕ) → ¬ IsOutputText a text k
IsSeenAs a Quiet (Known (Input k)) = ⊥
IsSeenAs a Quiet (Known (Output k)) = ⊥
IsSeenAs a Quiet (Known Delta) = Unit {0}
IsSeenAs a Quiet StrangeSent = ⊥
IsSeenAs a Quiet StrangeHeard = ⊥

-- what is known is an item of the system's alphabet
abbrev pub IsSeenOf : System → Seen → Type 0
IsSeenOf s (Known x) = IsItemOf s x
IsSeenOf s StrangeSent = Unit {0}
IsSeenOf s StrangeHeard = Unit {0}

-- it was heard: an output, `delta`, or a text that is no output
abbrev pub IsHeard : Seen → Type 0
IsHeard (Known (Input k)) = ⊥
IsHeard (Known (Output k)) = Unit {0}
IsHeard (Known Delta) = Unit {0}
IsHeard StrangeSent = ⊥
IsHeard StrangeHeard = Unit {0}

-- what was seen is the trace, which the specification allows
abbrev pub IsFollowed : Mode → System → List Seen → List Item → Type 0
IsFollowed mode s seen σ = (seen ≡ map Known σ) × IsAllowed mode s σ

-- place k, counted from 1, is the first whose entry isn't an item that makes what was seen up to it an allowed trace
pub record IsFirstStop (mode : Mode) (s : System) (seen : List Seen) (k : ℕ) (entry : Seen) : Type 0 where
  pub trace : List Item
  pub others : List Seen
  pub whole : seen ≡ map Known trace ++ entry ∷ others
  pub allowed : IsAllowed mode s trace
  pub stops : (x : Item) → entry ≡ Known x → ¬ IsAllowed mode s (trace ++ x ∷ [])
  pub place : k ≡ length trace + 1

-- the verdict at a place whose entry can't follow: it fails where it was heard, and is off where it was sent
abbrev pub IsStop : Seen → ℕ → LogVerdict → Type 0
IsStop entry place Pass = ⊥
IsStop entry place (Fail k) = (k ≡ place) × IsHeard entry
IsStop entry place (Off k) = (k ≡ place) × ¬ IsHeard entry

-- the verdict on what was seen
abbrev pub IsVerdict : Mode → System → List Seen → LogVerdict → Type 0
IsVerdict mode s seen Pass = (σ : List Item) × IsFollowed mode s seen σ
IsVerdict mode s seen (Fail k) = (entry : Seen) × IsFirstStop mode s seen k entry × IsHeard entry
IsVerdict mode s seen (Off k) = (entry : Seen) × IsFirstStop mode s seen k entry × ¬ IsHeard entry
