-- A content is the text of one list of logs, or it has one first fault.
use Rattle.std.proofs.Common.{◌≡◌, ◌∙◌, ◌⊎◌, ℕ, ◌+◌, ◌<◌, ◌≤◌, List, [], ◌∷◌, ◌++◌, length, map, All, inl, inr, refl, sym, ap, arith, Result, Ok, Err, MatchResult}
use Rattle.std.specs.Prelude.{IfOk}
use Rattle.std.specs.List.{AllByRecursion}
use Rattle.std.proofs.lemmas.List.{append-nil, append_assoc, length_push, length-append, same_from_push}
use Rattle.std.proofs.lemmas.Grind.{flat_map-append}
use Rattle.lts_base.proofs.ListLaws.{snoc_cases}
use Rattle.text_scan.specs.Cut.{Lacks}
use Rattle.text_scan.proofs.CutLaws.{cut_once, no_cut}
use Rattle.log_text.specs.declared.error.LogError.{LogError}
use Rattle.log_text.specs.declared.error.LogError.TheVariants.{Version, Line, Cut, Memory}
use Rattle.log_text.specs.declared.log.Head.{Head}
use Rattle.log_text.specs.declared.log.Head.TheVariants.{One, Two}
use Rattle.log_text.specs.declared.log.Named.{Named}
use Rattle.log_text.specs.declared.stage.Stage.TheVariants.{Opening}
use Rattle.log_text.specs.Printed.{title_one, title_two, head_lines, patience_line, steps_line, entry_line, left_lines, end_line, log_lines, all_lines, with_ends}
use Rattle.log_text.specs.Logs.{IsNamed, AreLogsOf}
use Rattle.log_text.specs.Faults.{IsBeginning, LacksTitle, IsFirstFault, IsCutShort, RefusesLogs}
use Rattle.log_text.specs.Adding.{Progress}
use Rattle.log_text.proofs.RunLaws.{at_stage, nothing, Runs, Runs-once, Runs-lacks, Runs-all, nothing_sound, IsBeginning-front}
use Rattle.log_text.proofs.ReadLaws.{line_first, parted, text_parted}

-- one error, or one of the two is want of memory
abbrev pub AreSame : LogError → LogError → Type 0
AreSame e f = (e ≡ f) ⊎ ((e ≡ Memory) ⊎ (f ≡ Memory))

-- what all lines lack the first of them lack
front_lacks : (xs ys : List (List ℕ)) → AllByRecursion (Lacks 10) (xs ++ ys) → AllByRecursion (Lacks 10) xs
front_lacks [] ys lacks = tt
front_lacks (x ∷ xs) ys lacks = (lacks.0, front_lacks xs ys lacks.1)

push_lacks : (xs : List (List ℕ)) (y : List ℕ) → AllByRecursion (Lacks 10) xs → Lacks 10 y → AllByRecursion (Lacks 10) (xs ++ y ∷ [])
push_lacks [] y lacks last = (last, tt)
push_lacks (x ∷ xs) y lacks last = (lacks.0, push_lacks xs y lacks.1 last)

-- the lines of a beginning have no LF
begun_lacks : (lines : List (List ℕ)) → IsBeginning lines → AllByRecursion (Lacks 10) lines
begun_lacks lines is = front_lacks lines is.more (rw (is.begins) at (Runs-lacks nothing (at_stage is.logs Opening) (all_lines is.logs) nothing_sound (Runs-all is.logs is.sound)))

-- the first line of a beginning is a title
begun_title : (line : List ℕ) (lines : List (List ℕ)) → IsBeginning (line ∷ lines) → (line ≡ title_one) ⊎ (line ≡ title_two)
begun_title line lines is =
    let runs : Runs nothing (line ∷ (lines ++ is.more)) (at_stage is.logs Opening) = rw (is.begins) at (Runs-all is.logs is.sound) in
    let (t, adds, to) = runs.1 in
    elim adds [
      | inl (e, one) ↦ inl e
      | inr (e, two) ↦ inr e
    ]

-- a content that begins with lines of a beginning has a title
title_first : (content : List ℕ) (lines : List (List ℕ)) (rest : List ℕ) → LacksTitle content → content ≡ with_ends lines ++ rest → IsBeginning lines → 0 < length lines → ⊥
title_first content [] rest lack whole is some = omega (arith, some)
title_first content (x ∷ lines) rest lack whole is some =
    let (same, back) = cut_once 10 lack.line lack.after x (with_ends lines ++ rest) lack.cut.first (begun_lacks (x ∷ lines) is).0 (sym lack.cut.whole ∙ whole ∙ line_first x lines rest) in
    elim (begun_title x lines is) [
      | inl one ↦ lack.not_one (same ∙ one)
      | inr two ↦ lack.not_two (same ∙ two)
    ]

-- all lines of logs are a beginning
all_begin : (logs : List Named) → All IsNamed logs → IsBeginning (all_lines logs)
all_begin logs all = record { logs = logs; more = []; sound = all; begins = sym (append-nil (all_lines logs)) }

-- there are lines where there are logs
some_lines : (logs : List Named) (content : List ℕ) → LacksTitle content → AreLogsOf content logs → 0 < length (all_lines logs)
some_lines logs content lack are = go (all_lines logs) are.text
  where
    no_line : (line after : List ℕ) → [] ≡ line ++ 10 ∷ after → ⊥
    no_line [] after e = cc
    no_line (b ∷ line) after e = cc

    go : (lines : List (List ℕ)) → content ≡ with_ends lines → 0 < length lines
    go [] e = absurd (no_line lack.line lack.after (sym e ∙ lack.cut.whole))
    go (x ∷ lines) e = omega arith

-- the line at fault and those before it, as lines of the content
fault_whole : (content : List ℕ) (n : ℕ) → (fault : IsFirstFault content n) → content ≡ with_ends (fault.before ++ fault.line ∷ []) ++ fault.after
fault_whole content n fault = fault.whole ∙ go fault.before
  where
    go : (ls : List (List ℕ)) → with_ends ls ++ (fault.line ++ 10 ∷ fault.after) ≡ with_ends (ls ++ fault.line ∷ []) ++ fault.after
    go ls = simp (flat_map-append, append_assoc, append-nil)

fault_lacks : (content : List ℕ) (n : ℕ) → (fault : IsFirstFault content n) → AllByRecursion (Lacks 10) (fault.before ++ fault.line ∷ [])
fault_lacks content n fault = push_lacks fault.before fault.line (begun_lacks fault.before fault.begun) fault.lacks

-- the text of logs has no first line at fault
logs_fine : (content : List ℕ) (logs : List Named) (n : ℕ) → AreLogsOf content logs → IsFirstFault content n → ⊥
logs_fine content logs n are fault =
    elim (text_parted logs (fault.before ++ fault.line ∷ []) fault.after content are (fault_lacks content n fault) (fault_whole content n fault)) [
      | inl (same, none) ↦ fault.faulty (rw same at (all_begin logs are.sound))
      | inr (line, more, after, longer, cut) ↦ fault.faulty (IsBeginning-front (fault.before ++ fault.line ∷ []) (line ∷ more) (rw longer at (all_begin logs are.sound)))
    ]

-- the text of logs has no fault
pub logs_exclude : (content : List ℕ) (logs : List Named) (e : LogError) → AreLogsOf content logs → RefusesLogs content e → e ≡ Memory
logs_exclude content logs Version are lack = absurd (title_first content (all_lines logs) [] lack (are.text ∙ sym (append-nil (with_ends (all_lines logs)))) (all_begin logs are.sound) (some_lines logs content lack are))
logs_exclude content logs (Line n) are fault = absurd (logs_fine content logs n are fault.1)
logs_exclude content logs Cut are short = absurd (short.unended logs are)
logs_exclude content logs Memory are fault = refl

-- a content is the text of one list of logs
pub logs_once : (content : List ℕ) (logs others : List Named) → AreLogsOf content logs → AreLogsOf content others → logs ≡ others
logs_once content logs others one two =
    elim (text_parted logs (all_lines others) [] content one (begun_lacks (all_lines others) (all_begin others two.sound)) (two.text ∙ sym (append-nil (with_ends (all_lines others))))) [
      | inr (line, more, after, longer, cut) ↦ absurd (no_cut 10 [] line after tt cut)
      | inl (same, none) ↦
          let place : at_stage logs Opening ≡ at_stage others Opening = Runs-once nothing (at_stage logs Opening) (at_stage others Opening) (all_lines others) nothing_sound (rw same at (Runs-all logs one.sound)) (Runs-all others two.sound) in
          ap {A = Progress} {B = List Named} (λ p. p.done) place
    ]

-- a first line at fault isn't among the lines of a beginning
not_before : (content : List ℕ) (n : ℕ) (lines more : List (List ℕ)) (line : List ℕ) → (fault : IsFirstFault content n) → lines ≡ (fault.before ++ fault.line ∷ []) ++ line ∷ more → IsBeginning lines → ⊥
not_before content n lines more line fault longer is = fault.faulty (IsBeginning-front (fault.before ++ fault.line ∷ []) (line ∷ more) (rw longer at is))

-- the first line at fault comes at one place
line_after : (content : List ℕ) (n m : ℕ) (line : List ℕ) (more : List (List ℕ)) → (one : IsFirstFault content n) (two : IsFirstFault content m) → two.before ++ two.line ∷ [] ≡ (one.before ++ one.line ∷ []) ++ line ∷ more → ⊥
line_after content n m line more one two longer = elim (snoc_cases more) [
  | inl none ↦
      let longer' : two.before ++ two.line ∷ [] ≡ (one.before ++ one.line ∷ []) ++ line ∷ [] = rw none at longer in
      let same : two.before ≡ one.before ++ one.line ∷ [] = (same_from_push two.before (one.before ++ one.line ∷ []) two.line line longer').0 in
      one.faulty (rw same at two.begun)
  | inr (front, last, some) ↦
      let longer' : two.before ++ two.line ∷ [] ≡ ((one.before ++ one.line ∷ []) ++ line ∷ front) ++ last ∷ [] = rw some at longer ∙ sym (append_assoc (one.before ++ one.line ∷ []) (line ∷ front) (last ∷ [])) in
      let same : two.before ≡ (one.before ++ one.line ∷ []) ++ line ∷ front = (same_from_push two.before ((one.before ++ one.line ∷ []) ++ line ∷ front) two.line last longer').0 in
      one.faulty (IsBeginning-front (one.before ++ one.line ∷ []) (line ∷ front) (rw same at two.begun))
]

line_once : (content : List ℕ) (n m : ℕ) → IsFirstFault content n → IsFirstFault content m → n ≡ m
line_once content n m one two =
    elim (parted (one.before ++ one.line ∷ []) (two.before ++ two.line ∷ []) one.after two.after (fault_lacks content n one) (fault_lacks content m two) (sym (fault_whole content n one) ∙ fault_whole content m two)) [
      | inl (same, rest) ↦
          let first = length_push one.before one.line in
          let second = length_push two.before two.line in
          let long : length (one.before ++ one.line ∷ []) ≡ length (two.before ++ two.line ∷ []) = ap length same in
          let a = one.number in
          let b = two.number in
          omega (arith, first, second, long, a, b)
      | inr (inl (line, more, after, longer, cut)) ↦ absurd (line_after content n m line more one two longer)
      | inr (inr (line, more, after, longer, cut)) ↦ absurd (line_after content m n line more two one longer)
    ]

-- where a line is at fault the content isn't cut short
line_or_cut : (content : List ℕ) (n : ℕ) → IsFirstFault content n → IsCutShort content → ⊥
line_or_cut content n fault short =
    elim (parted (fault.before ++ fault.line ∷ []) short.lines fault.after short.rest (fault_lacks content n fault) (begun_lacks short.lines short.begun) (sym (fault_whole content n fault) ∙ short.whole)) [
      | inl (same, rest) ↦ fault.faulty (rw (sym same) at short.begun)
      | inr (inl (line, more, after, longer, cut)) ↦ not_before content n short.lines more line fault longer short.begun
      | inr (inr (line, more, after, longer, cut)) ↦ no_cut 10 short.rest line after short.lacks cut
    ]

-- without a title no later line is at fault
title_or_line : (content : List ℕ) (n : ℕ) → LacksTitle content → 1 < n → IsFirstFault content n → ⊥
title_or_line content n lack later fault = title_first content fault.before (fault.line ++ 10 ∷ fault.after) lack fault.whole fault.begun (let number = fault.number in omega (arith, number, later))

-- without a title the content isn't cut short
title_or_cut : (content : List ℕ) → LacksTitle content → IsCutShort content → ⊥
title_or_cut content lack short = go short.lines short.whole short.begun
  where
    go : (lines : List (List ℕ)) → content ≡ with_ends lines ++ short.rest → IsBeginning lines → ⊥
    go [] whole is = no_cut 10 short.rest lack.line lack.after short.lacks (rw whole at lack.cut)
    go (x ∷ lines) whole is = title_first content (x ∷ lines) short.rest lack whole is (omega arith)

-- a content has one fault
pub fault_once : (content : List ℕ) (e f : LogError) → RefusesLogs content e → RefusesLogs content f → AreSame e f
fault_once content Version Version one two = inl refl
fault_once content Version (Line m) one two = absurd (title_or_line content m one two.0 two.1)
fault_once content Version Cut one two = absurd (title_or_cut content one two)
fault_once content (Line n) Version one two = absurd (title_or_line content n two one.0 one.1)
fault_once content (Line n) (Line m) one two = inl (ap {A = ℕ} {B = LogError} Line (line_once content n m one.1 two.1))
fault_once content (Line n) Cut one two = absurd (line_or_cut content n one.1 two)
fault_once content Cut Version one two = absurd (title_or_cut content two one)
fault_once content Cut (Line m) one two = absurd (line_or_cut content m two.1 one)
fault_once content Cut Cut one two = inl refl
fault_once content e Memory one two = inr (inr refl)
fault_once content Memory f one two = inr (inl refl)

-- what is read of a content is what it is the text of
pub logs_only : (content : List ℕ) (logs : List Named) (result : Result (List Named) LogError) → MatchResult result (AreLogsOf content) (RefusesLogs content) → AreLogsOf content logs → MatchResult result (λ l. l ≡ logs) (λ e. e ≡ Memory)
logs_only content logs (Ok others) is are = logs_once content others logs is are
logs_only content logs (Err e) why are = logs_exclude content logs e are why

-- what is answered where a fault is met
pub refuses_only : (content : List ℕ) (e : LogError) (result : Result (List Named) LogError) → MatchResult result (AreLogsOf content) (RefusesLogs content) → RefusesLogs content e → (e ≡ Memory → ⊥) → MatchResult result (λ _. ⊥) (λ f. (f ≡ e) ⊎ (f ≡ Memory))
refuses_only content e (Ok logs) are fault other = other (logs_exclude content logs e are fault)
refuses_only content e (Err f) why fault other = elim (fault_once content e f fault why) [
  | inl same ↦ inl (sym same)
  | inr (inl memory) ↦ absurd (other memory)
  | inr (inr memory) ↦ inr memory
]

-- a log has a byte at least
log_some : (n : Named) (rest : List (List ℕ)) → 1 ≤ length (with_ends (log_lines n ++ rest))
log_some n rest = go n.head (patience_line n.log.patience ∷ steps_line n.log.steps ∷ (map entry_line n.log.entries ++ (left_lines n.log.left ++ end_line (length n.log.entries) n.log.ending ∷ [])))
  where
    go : (head : Head) (lines : List (List ℕ)) → 1 ≤ length (with_ends ((head_lines n.log.mode head ++ lines) ++ rest))
    go One lines = omega arith
    go (Two v d) lines = omega arith

-- there are no more logs than bytes
few_bytes : (logs : List Named) → length logs ≤ length (with_ends (all_lines logs))
few_bytes [] = omega arith
few_bytes (n ∷ logs) =
    let first : 1 ≤ length (with_ends (log_lines n ++ [])) = log_some n [] in
    let same : with_ends (log_lines n ++ []) ≡ with_ends (log_lines n) = ap with_ends (append-nil (log_lines n)) in
    let count : length (with_ends (log_lines n ++ [])) ≡ length (with_ends (log_lines n)) = ap length same in
    let parts : with_ends (log_lines n ++ all_lines logs) ≡ with_ends (log_lines n) ++ with_ends (all_lines logs) = flat_map-append (λ (line : List ℕ). line ++ 10 ∷ []) (log_lines n) (all_lines logs) in
    let long : length (with_ends (log_lines n ++ all_lines logs)) ≡ length (with_ends (log_lines n)) + length (with_ends (all_lines logs)) = ap length parts ∙ length-append (with_ends (log_lines n)) (with_ends (all_lines logs)) in
    omega (arith, first, count, long, few_bytes logs)

-- there are no more logs than the content has bytes
pub few_logs : (content : List ℕ) (result : Result (List Named) LogError) → MatchResult result (AreLogsOf content) (RefusesLogs content) → IfOk result (λ logs. length logs ≤ length content)
few_logs content (Ok logs) are = rw (are.text) (few_bytes logs)
few_logs content (Err e) why = tt
