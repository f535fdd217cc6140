-- Promise: what a log is, and which content is the text of logs.
use Rattle.std.specs.Prelude.{◌≡◌, ℕ, ◌<◌, ◌≤◌, List, length, All}
use Rattle.text_scan.specs.Cut.{Lacks}
use Rattle.log_text.specs.declared.limits.TheConstants.{MOST_STEPS, MOST_PATIENCE, MOST_TEXT_BYTES, MOST_LEFT_BYTES}
use Rattle.log_text.specs.declared.log.Digest.{Digest}
use Rattle.log_text.specs.declared.log.Entry.{Entry}
use Rattle.log_text.specs.declared.log.Entry.TheVariants.{Sent, Heard, Quiet}
use Rattle.log_text.specs.declared.log.Head.{Head}
use Rattle.log_text.specs.declared.log.Head.TheVariants.{One, Two}
use Rattle.log_text.specs.declared.log.Log.{Log}
use Rattle.log_text.specs.declared.log.Named.{Named}
use Rattle.log_text.specs.Printed.{all_lines, with_ends}

-- the bytes of a digest: 32 of them
pub record IsDigest (digest : Digest) : Type 0 where
  pub long : length digest.0 ≡ 32
  pub bytes : All (λ b. b < 256) digest.0

-- the text has at most so many bytes, and no LF
pub record IsText (most : ℕ) (text : List ℕ) : Type 0 where
  pub short : length text ≤ most
  pub lacks : Lacks 10 text

-- a text that is sent has a byte at least, and one that is heard may have none
abbrev pub IsEntry : Entry → Type 0
IsEntry (Sent text) = (0 < length text) × IsText MOST_TEXT_BYTES text
IsEntry (Heard text) = IsText MOST_TEXT_BYTES text
IsEntry Quiet = Unit {0}

-- the number is one of those from 1 to the most
abbrev pub IsOneTo : ℕ → ℕ → Type 0
IsOneTo most n = (1 ≤ n) × (n ≤ most)

-- a log as a session makes it
pub record IsLog (log : Log) : Type 0 where
  pub patience : IsOneTo MOST_PATIENCE log.patience
  pub steps : IsOneTo MOST_STEPS log.steps
  pub few : length log.entries ≤ log.steps
  pub entries : All IsEntry log.entries
  pub left : IsText MOST_LEFT_BYTES log.left

-- what the head tells is in its form
abbrev pub IsHead : Head → Type 0
IsHead One = Unit {0}
IsHead (Two divergence spec) = IsDigest spec

-- a log with its head
pub record IsNamed (n : Named) : Type 0 where
  pub head : IsHead n.head
  pub log : IsLog n.log

-- the content is the text of these logs, one after another, of which there is at least one
pub record AreLogsOf (content : List ℕ) (logs : List Named) : Type 0 where
  pub some : 0 < length logs
  pub sound : All IsNamed logs
  pub text : content ≡ with_ends (all_lines logs)
