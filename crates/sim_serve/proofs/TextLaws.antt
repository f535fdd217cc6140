-- The text of sessions, with one session more.
use Rattle.std.proofs.Common.{arith, ◌≡◌, ◌∙◌, ℕ, ◌+◌, List, [], ◌∷◌, ◌++◌, length, sym, ap, append_assoc, append-nil}
use Rattle.std.proofs.lemmas.List.{length-map, map_push}
use Rattle.sim_core.specs.declared.serving.Served.{Served}
use Rattle.sim_serve.specs.Sessions.{Session, all_served}
use Rattle.sim_serve.specs.Told.{listening_text, served_text, session_line, session_lines}

-- one session more has one line more
lines_push : (first : ℕ) (all : List Served) (last : Served) → session_lines first (all ++ last ∷ []) ≡ session_lines first all ++ session_line (first + length all) last
lines_push first [] last =
    let same : first + 0 ≡ first = omega arith in
    rw same (append-nil (session_line first last))
lines_push first (x ∷ all) last =
    let same : first + 1 + length all ≡ first + length (x ∷ all) = omega arith in
    ap (λ rest. session_line first x ++ rest) (lines_push (first + 1) all last) ∙
    sym (append_assoc (session_line first x) (session_lines (first + 1) all) (session_line (first + 1 + length all) last)) ∙
    ap (λ (n : ℕ). (session_line first x ++ session_lines (first + 1) all) ++ session_line n last) same

-- the whole text, with one session more
pub text_push : (sessions : List Session) (last : Session) →
    served_text (all_served (sessions ++ last ∷ [])) ≡ served_text (all_served sessions) ++ session_line (length sessions + 1) last.served
text_push sessions last =
    let all : all_served (sessions ++ last ∷ []) ≡ all_served sessions ++ last.served ∷ [] = map_push _ sessions last in
    let count : 1 + length (all_served sessions) ≡ length sessions + 1 = rw (length-map sessions (λ (x : Session). x.served)) (omega arith) in
    ap served_text all ∙ ap (λ rest. listening_text ++ rest) (lines_push 1 (all_served sessions) last.served) ∙
    sym (append_assoc listening_text (session_lines 1 (all_served sessions)) (session_line (1 + length (all_served sessions)) last.served)) ∙
    ap (λ (n : ℕ). served_text (all_served sessions) ++ session_line n last.served) count
