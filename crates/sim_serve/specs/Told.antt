-- Promise: what the simulated implementation prints of its sessions.
use Rattle.std.specs.Prelude.{ℕ, ◌+◌, List, [], ◌∷◌, ◌++◌, codes, decimal}
use Rattle.sim_core.specs.declared.serving.Served.{Served}
use Rattle.sim_core.specs.declared.serving.ServedEnd.{ServedEnd}
use Rattle.sim_core.specs.declared.serving.ServedEnd.TheVariants.{End, BadInput, Long, Fault, Spent}
use Rattle.trace_text.specs.Lines.{line}

-- testers can come in
abbrev pub listening_text : List ℕ
listening_text = line (codes "listening") []

abbrev pub end_text : ServedEnd → List ℕ
end_text End = codes "end"
end_text BadInput = codes "bad-input"
end_text Long = codes "long"
end_text Fault = codes "fault"
end_text Spent = codes "spent"

-- the line of the session of this number, counted from 1
abbrev pub session_line : ℕ → Served → List ℕ
session_line number served = codes "session " ++ (decimal number ++ (codes " inputs=" ++ (decimal served.inputs ++
    (codes " outputs=" ++ (decimal served.outputs ++ line (codes " ") (end_text served.end))))))

-- the lines of sessions, the first of which has this number
abbrev pub session_lines : ℕ → List Served → List ℕ
session_lines number [] = []
session_lines number (served ∷ others) = session_line number served ++ session_lines (number + 1) others

-- the whole text of sessions that were served
abbrev pub served_text : List Served → List ℕ
served_text all = listening_text ++ session_lines 1 all
