-- Promise: the texts of logs, line by line.
use Rattle.std.specs.Prelude.{ℕ, List, [], ◌∷◌, ◌++◌, length, map, codes, decimal}
use Rattle.std.specs.List.{flat_map}
use Rattle.hex.specs.Hex.{encode_lower}
use Rattle.lts_base.specs.declared.divergence.Divergence.{Divergence}
use Rattle.lts_base.specs.declared.divergence.Divergence.TheVariants.{Refuse, Quiet as Silent}
use Rattle.lts_base.specs.declared.item.Mode.{Mode}
use Rattle.lts_base.specs.declared.item.Mode.TheVariants.{Ioco, Uioco}
use Rattle.log_text.specs.declared.log.Digest.{Digest}
use Rattle.log_text.specs.declared.log.Ending.{Ending}
use Rattle.log_text.specs.declared.log.Ending.TheVariants.{Pass, Fail, Ended, Stalled, Long, Full, Broken}
use Rattle.log_text.specs.declared.log.Entry.{Entry}
use Rattle.log_text.specs.declared.log.Entry.TheVariants.{Sent, Heard, Quiet}
use Rattle.log_text.specs.declared.log.Head.{Head}
use Rattle.log_text.specs.declared.log.Head.TheVariants.{One, Two}
use Rattle.log_text.specs.declared.log.Log.{Log}
use Rattle.log_text.specs.declared.log.Named.{Named}

-- the first line of version 1
abbrev pub title_one : List ℕ
title_one = codes "torx log 1"

-- the first line of version 2
abbrev pub title_two : List ℕ
title_two = codes "torx log 2"

-- the mode
abbrev pub mode_line : Mode → List ℕ
mode_line Ioco = codes "mode ioco"
mode_line Uioco = codes "mode uioco"

-- how divergence was read
abbrev pub divergence_line : Divergence → List ℕ
divergence_line Refuse = codes "divergence refuse"
divergence_line Silent = codes "divergence quiet"

-- the digest of the specification's file, in lower-case hexadecimal digits
abbrev pub spec_line : Digest → List ℕ
spec_line digest = codes "spec " ++ encode_lower digest.0

-- the lines up to the mode, and in version 2 up to the digest
abbrev pub head_lines : Mode → Head → List (List ℕ)
head_lines mode One = title_one ∷ mode_line mode ∷ []
head_lines mode (Two divergence spec) = title_two ∷ mode_line mode ∷ divergence_line divergence ∷ spec_line spec ∷ []

-- the patience
abbrev pub patience_line : ℕ → List ℕ
patience_line n = codes "patience " ++ decimal n

-- the most steps
abbrev pub steps_line : ℕ → List ℕ
steps_line n = codes "steps " ++ decimal n

-- an entry
abbrev pub entry_line : Entry → List ℕ
entry_line (Sent text) = codes "sent " ++ text
entry_line (Heard text) = codes "heard " ++ text
entry_line Quiet = codes "delta"

-- the bytes that are left
abbrev pub left_line : List ℕ → List ℕ
left_line bytes = codes "left " ++ bytes

-- the line of the bytes that are left, where there are any
abbrev pub left_lines : List ℕ → List (List ℕ)
left_lines [] = []
left_lines (b ∷ bytes) = left_line (b ∷ bytes) ∷ []

-- the word for an ending
abbrev pub ending_word : Ending → List ℕ
ending_word Pass = codes "pass"
ending_word Fail = codes "fail"
ending_word Ended = codes "ended"
ending_word Stalled = codes "stalled"
ending_word Long = codes "long"
ending_word Full = codes "full"
ending_word Broken = codes "broken"

-- the last line, with the number of entries
abbrev pub end_line : ℕ → Ending → List ℕ
end_line n ending = codes "end " ++ (decimal n ++ 32 ∷ ending_word ending)

-- the lines after the steps: the entries, what is left, and the end
abbrev pub body_lines : Log → List (List ℕ)
body_lines log = map entry_line log.entries ++ (left_lines log.left ++ end_line (length log.entries) log.ending ∷ [])

-- all lines of a log
abbrev pub log_lines : Named → List (List ℕ)
log_lines n =
    head_lines n.log.mode n.head ++ (patience_line n.log.patience ∷ steps_line n.log.steps ∷ body_lines n.log)

-- the lines of logs, one after another
abbrev pub all_lines : List Named → List (List ℕ)
all_lines logs = flat_map log_lines logs

-- the bytes of lines, each with its LF
abbrev pub with_ends : List (List ℕ) → List ℕ
with_ends lines = flat_map (λ (line : List ℕ). line ++ 10 ∷ []) lines

-- the text of a log
abbrev pub printed : Named → List ℕ
printed n = with_ends (log_lines n)
