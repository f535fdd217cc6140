-- Promise: why a content is no text of logs.
use Rattle.std.specs.Prelude.{◌≡◌, ℕ, ◌+◌, ◌<◌, List, [], ◌∷◌, ◌++◌, length, All, Result, MatchResult, ◌⊎◌}
use Rattle.text_scan.specs.Cut.{Lacks, IsCut}
use Rattle.log_text.specs.declared.error.LogError.{LogError}
use Rattle.log_text.specs.declared.error.LogError.TheVariants.{Version, Line, Cut, Memory}
use Rattle.log_text.specs.declared.log.Named.{Named}
use Rattle.log_text.specs.Printed.{title_one, title_two, all_lines, with_ends}
use Rattle.log_text.specs.Logs.{IsNamed, AreLogsOf}

-- the lines are the beginning of the lines of some logs
pub record IsBeginning (lines : List (List ℕ)) : Type 0 where
  pub logs : List Named
  pub more : List (List ℕ)
  pub sound : All IsNamed logs
  pub begins : all_lines logs ≡ lines ++ more

-- the content has a whole line, and its first one is the title of neither version
pub record LacksTitle (content : List ℕ) : Type 0 where
  pub line : List ℕ
  pub after : List ℕ
  pub cut : IsCut 10 content line after
  pub not_one : ¬ (line ≡ title_one)
  pub not_two : ¬ (line ≡ title_two)

-- line n of the content, counted from 1 and whole, is the first that can't stand in the form: the lines before it begin logs,
-- and with it they don't
pub record IsFirstFault (content : List ℕ) (n : ℕ) : Type 0 where
  pub before : List (List ℕ)
  pub line : List ℕ
  pub after : List ℕ
  pub begun : IsBeginning before
  pub whole : content ≡ with_ends before ++ (line ++ 10 ∷ after)
  pub lacks : Lacks 10 line
  pub faulty : ¬ IsBeginning (before ++ line ∷ [])
  pub number : n ≡ length before + 1

-- no whole line of the content is at fault, and yet it isn't the text of logs
pub record IsCutShort (content : List ℕ) : Type 0 where
  pub lines : List (List ℕ)
  pub rest : List ℕ
  pub begun : IsBeginning lines
  pub whole : content ≡ with_ends lines ++ rest
  pub lacks : Lacks 10 rest
  pub unended : (logs : List Named) → ¬ AreLogsOf content logs

-- why the content is no text of logs: it has no title; or a line after the first is the first at fault; or it is cut short; or
-- memory ran out
abbrev pub RefusesLogs : List ℕ → LogError → Type 0
RefusesLogs content Version = LacksTitle content
RefusesLogs content (Line n) = (1 < n) × IsFirstFault content n
RefusesLogs content Cut = IsCutShort content
RefusesLogs content Memory = Unit {0}

-- what is read of the text of these logs, where memory suffices
abbrev pub IsRead : List Named → Result (List Named) LogError → Type 0
IsRead logs result = MatchResult result (λ l. l ≡ logs) (λ e. e ≡ Memory)

-- what is read where a fault is met: this fault, where memory suffices
abbrev pub IsRefused : LogError → Result (List Named) LogError → Type 0
IsRefused e result = MatchResult result (λ _. ⊥) (λ f. (f ≡ e) ⊎ (f ≡ Memory))
