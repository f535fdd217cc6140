-- Private: what a line adds to a log that is begun.
use Rattle.std.specs.Prelude.{◌≡◌, ℕ, ◌<◌, ◌≤◌, List, [], ◌∷◌, ◌++◌, length, map, Result, MatchResult, All, ◌⊎◌}
use Rattle.hex.specs.Hex.{encode_lower}
use Rattle.lts_base.specs.declared.divergence.Divergence.{Divergence}
use Rattle.lts_base.specs.declared.item.Mode.{Mode}
use Rattle.log_text.specs.declared.error.LogError.{LogError}
use Rattle.log_text.specs.declared.error.LogError.TheVariants.{Version, Line, Cut, Memory}
use Rattle.log_text.specs.declared.limits.TheConstants.{MOST_STEPS, MOST_PATIENCE, MOST_LEFT_BYTES}
use Rattle.log_text.specs.declared.log.Digest.{Digest}
use Rattle.log_text.specs.declared.log.Ending.{Ending}
use Rattle.log_text.specs.declared.log.Entry.{Entry}
use Rattle.log_text.specs.declared.log.Head.TheVariants.{One, Two}
use Rattle.log_text.specs.declared.log.Named.{Named}
use Rattle.log_text.specs.declared.stage.Setting.{Setting}
use Rattle.log_text.specs.declared.stage.Stage.{Stage}
use Rattle.log_text.specs.declared.stage.Stage.TheVariants.{Opening, TitledOne, TitledTwo, Moded, Divided, Headed, Patient, Listing, Leaving}
use Rattle.log_text.specs.declared.stage.Step.{Step}
use Rattle.log_text.specs.declared.stage.Step.TheVariants.{Goes, Ends}
use Rattle.log_text.specs.Printed.{title_one, title_two, mode_line, divergence_line, spec_line, head_lines, patience_line, steps_line, entry_line, left_line, end_line}
use Rattle.log_text.specs.Logs.{IsDigest, IsText, IsEntry, IsOneTo, IsHead}

-- the log of a setting, its entries, the bytes that are left and its ending
abbrev pub log_of : Setting → List Entry → List ℕ → Ending → Named
log_of s entries left ending = record {
  head = s.head;
  log = record { mode = s.mode; patience = s.patience; steps = s.steps; entries = entries; left = left; ending = ending };
}

-- the lines up to the steps
abbrev pub setting_lines : Setting → List (List ℕ)
setting_lines s = head_lines s.mode s.head ++ (patience_line s.patience ∷ steps_line s.steps ∷ [])

-- the lines of a log that is begun
abbrev pub lines_at : Stage → List (List ℕ)
lines_at Opening = []
lines_at TitledOne = title_one ∷ []
lines_at TitledTwo = title_two ∷ []
lines_at (Moded mode) = title_two ∷ mode_line mode ∷ []
lines_at (Divided mode divergence) = title_two ∷ mode_line mode ∷ divergence_line divergence ∷ []
lines_at (Headed head mode) = head_lines mode head
lines_at (Patient head mode patience) = head_lines mode head ++ patience_line patience ∷ []
lines_at (Listing s entries) = setting_lines s ++ map entry_line entries
lines_at (Leaving s entries left) = setting_lines s ++ (map entry_line entries ++ left_line left ∷ [])

-- an entry more
abbrev pub AddsEntry : Setting → List Entry → List ℕ → Step → Type 0
AddsEntry s entries line next =
    (e : Entry) × (length entries < s.steps) × IsEntry e × (line ≡ entry_line e) × (next ≡ Goes (Listing s (entries ++ e ∷ [])))

-- the bytes that are left
abbrev pub AddsLeft : Setting → List Entry → List ℕ → Step → Type 0
AddsLeft s entries line next =
    (left : List ℕ) × (0 < length left) × IsText MOST_LEFT_BYTES left × (line ≡ left_line left) × (next ≡ Goes (Leaving s entries left))

-- the end
abbrev pub AddsEnd : Setting → List Entry → List ℕ → List ℕ → Step → Type 0
AddsEnd s entries left line next = (e : Ending) × (line ≡ end_line (length entries) e) × (next ≡ Ends (log_of s entries left e))

-- the line leads from the stage to the next one, or ends the log
abbrev pub Adds : Stage → List ℕ → Step → Type 0
Adds Opening line next = ((line ≡ title_one) × (next ≡ Goes TitledOne)) ⊎ ((line ≡ title_two) × (next ≡ Goes TitledTwo))
Adds TitledOne line next = (mode : Mode) × (line ≡ mode_line mode) × (next ≡ Goes (Headed One mode))
Adds TitledTwo line next = (mode : Mode) × (line ≡ mode_line mode) × (next ≡ Goes (Moded mode))
Adds (Moded mode) line next = (v : Divergence) × (line ≡ divergence_line v) × (next ≡ Goes (Divided mode v))
Adds (Divided mode v) line next = (d : Digest) × IsDigest d × (line ≡ spec_line d) × (next ≡ Goes (Headed (Two v d) mode))
Adds (Headed head mode) line next = (n : ℕ) × IsOneTo MOST_PATIENCE n × (line ≡ patience_line n) × (next ≡ Goes (Patient head mode n))
Adds (Patient head mode patience) line next =
    (n : ℕ) × IsOneTo MOST_STEPS n × (line ≡ steps_line n) ×
    (next ≡ Goes (Listing (record { head = head; mode = mode; patience = patience; steps = n }) []))
Adds (Listing s entries) line next = AddsEntry s entries line next ⊎ (AddsLeft s entries line next ⊎ AddsEnd s entries [] line next)
Adds (Leaving s entries left) line next = AddsEnd s entries left line next

-- what the lines before the entries say is in its form
pub record IsSetting (s : Setting) : Type 0 where
  pub head : IsHead s.head
  pub patience : IsOneTo MOST_PATIENCE s.patience
  pub steps : IsOneTo MOST_STEPS s.steps

-- the entries fit in the setting
pub record AreEntries (s : Setting) (es : List Entry) : Type 0 where
  pub setting : IsSetting s
  pub few : length es ≤ s.steps
  pub entries : All IsEntry es

-- the beginning of a log
abbrev pub IsStage : Stage → Type 0
IsStage Opening = Unit {0}
IsStage TitledOne = Unit {0}
IsStage TitledTwo = Unit {0}
IsStage (Moded mode) = Unit {0}
IsStage (Divided mode v) = Unit {0}
IsStage (Headed head mode) = IsHead head
IsStage (Patient head mode patience) = IsHead head × IsOneTo MOST_PATIENCE patience
IsStage (Listing s entries) = AreEntries s entries
IsStage (Leaving s entries left) = AreEntries s entries × (0 < length left) × IsText MOST_LEFT_BYTES left

-- the text is the digits of the digest
abbrev pub AreDigitsOf : List ℕ → Digest → Type 0
AreDigitsOf text d = IsDigest d × (text ≡ encode_lower d.0)

-- the text is the digits of no digest
abbrev pub AreNoDigits : List ℕ → Type 0
AreNoDigits text = (d : Digest) → IsDigest d → ¬ (text ≡ encode_lower d.0)

-- the line tells these bytes as what is left
abbrev pub TellsLeft : List ℕ → List ℕ → Type 0
TellsLeft line left = (0 < length left) × IsText MOST_LEFT_BYTES left × (line ≡ left_line left)

-- the line tells no bytes as what is left
abbrev pub TellsNoLeft : List ℕ → Type 0
TellsNoLeft line = (left : List ℕ) → 0 < length left → IsText MOST_LEFT_BYTES left → ¬ (line ≡ left_line left)

-- line n may be the first line only where no line was read
abbrev pub IsLater : Stage → ℕ → Type 0
IsLater Opening n = ¬ (n ≡ 1)
IsLater TitledOne n = Unit {0}
IsLater TitledTwo n = Unit {0}
IsLater (Moded mode) n = Unit {0}
IsLater (Divided mode v) n = Unit {0}
IsLater (Headed head mode) n = Unit {0}
IsLater (Patient head mode patience) n = Unit {0}
IsLater (Listing s entries) n = Unit {0}
IsLater (Leaving s entries left) n = Unit {0}

-- the line leads on from the stage nowhere
abbrev pub AddsNothing : Stage → List ℕ → Type 0
AddsNothing stage line = (next : Step) → ¬ Adds stage line next

-- what is wrong with line n, which comes after the stage
abbrev pub IsLineFault : Stage → List ℕ → ℕ → LogError → Type 0
IsLineFault stage line n Version = (stage ≡ Opening) × (n ≡ 1) × AddsNothing stage line
IsLineFault stage line n (Line k) = (k ≡ n) × IsLater stage n × AddsNothing stage line
IsLineFault stage line n Cut = ⊥
IsLineFault stage line n Memory = Unit {0}

-- what is read of line n, which comes after the stage
abbrev pub Reads : Stage → List ℕ → ℕ → Result Step LogError → Type 0
Reads stage line n result = MatchResult result (Adds stage line) (IsLineFault stage line n)

-- logs that are read, and how far the next one is
pub record Progress : Type 0 where
  pub done : List Named
  pub stage : Stage

-- the logs, with one more where it is ended
abbrev pub settled : List Named → Step → Progress
settled done (Goes stage) = record { done = done; stage = stage }
settled done (Ends log) = record { done = done ++ log ∷ []; stage = Opening }

-- all is read, and there is a log
pub record IsWhole (done : List Named) (stage : Stage) (rest : List ℕ) : Type 0 where
  pub some : 0 < length done
  pub opening : stage ≡ Opening
  pub nothing : rest ≡ []

-- what the rest without a whole line gives: the logs, or that they are cut short
abbrev pub Finishes : List Named → Stage → List ℕ → Result (List Named) LogError → Type 0
Finishes done stage rest result = MatchResult result (λ logs. (logs ≡ done) × IsWhole done stage rest) (λ e. (e ≡ Cut) × ¬ IsWhole done stage rest)
