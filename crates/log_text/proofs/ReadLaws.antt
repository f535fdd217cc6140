-- How far logs have been read, and what is known where they end.
use Rattle.std.proofs.Common.{◌≡◌, ◌∙◌, ◌⊎◌, ℕ, ◌+◌, ◌<◌, ◌≤◌, List, [], ◌∷◌, ◌++◌, length, map, inl, inr, refl, sym, ap, subst, arith, Result, Ok, Err, MatchResult}
use Rattle.std.specs.List.{AllByRecursion}
use Rattle.std.proofs.lemmas.List.{append-nil, append_assoc, length-append, length_push}
use Rattle.std.proofs.lemmas.Bool.{cases_eq}
use Rattle.std.proofs.lemmas.Grind.{flat_map-append}
use Rattle.text_scan.specs.Cut.{Lacks, IsCut}
use Rattle.text_scan.specs.Lines.{lines_of}
use Rattle.text_scan.proofs.CutLaws.{cut_once, no_cut}
use Rattle.text_scan.proofs.LineLaws.{lines_of-cut}
use Rattle.log_text.specs.declared.error.LogError.{LogError}
use Rattle.log_text.specs.declared.error.LogError.TheVariants.{Version, Line, Cut, Memory}
use Rattle.log_text.specs.declared.log.Head.TheVariants.{One, Two}
use Rattle.log_text.specs.declared.log.Named.{Named}
use Rattle.log_text.specs.declared.stage.Stage.{Stage}
use Rattle.log_text.specs.declared.stage.Stage.TheVariants.{Opening, TitledOne, TitledTwo, Moded, Divided, Headed, Patient, Listing, Leaving}
use Rattle.log_text.specs.declared.stage.Step.{Step}
use Rattle.log_text.specs.declared.stage.Step.TheVariants.{Goes}
use Rattle.log_text.specs.Printed.{title_one, title_two, all_lines, with_ends, head_lines, patience_line, steps_line, entry_line, left_line}
use Rattle.log_text.specs.Logs.{AreLogsOf}
use Rattle.log_text.specs.Faults.{IsBeginning, RefusesLogs}
use Rattle.log_text.specs.Adding.{Adds, AddsNothing, IsLater, IsLineFault, Progress, settled, IsWhole, Finishes, lines_at, setting_lines}
use Rattle.log_text.proofs.RunLaws.{at_stage, nothing, IsProgress, so_far, Steps, Runs, Steps-sound, Steps-far, Runs-once, Runs-append, Runs-split, Runs-lacks, Runs-all, nothing_sound, begun}

-- the bytes of a line and of others, with a rest
pub line_first : (x : List ℕ) (xs : List (List ℕ)) (rest : List ℕ) → with_ends (x ∷ xs) ++ rest ≡ x ++ 10 ∷ (with_ends xs ++ rest)
line_first x xs rest = append_assoc (x ++ 10 ∷ []) (with_ends xs) rest ∙ append_assoc x (10 ∷ []) (with_ends xs ++ rest)

-- lines and a rest: one has a line more where the other has its rest
abbrev pub Parted : List (List ℕ) → List ℕ → List (List ℕ) → Type 0
Parted xs r ys = (line : List ℕ) × (more : List (List ℕ)) × (after : List ℕ) × (ys ≡ xs ++ line ∷ more) × IsCut 10 r line after

-- two ways to begin one text are the same, or one goes on
pub parted : (xs ys : List (List ℕ)) (r s : List ℕ) → AllByRecursion (Lacks 10) xs → AllByRecursion (Lacks 10) ys → with_ends xs ++ r ≡ with_ends ys ++ s → ((xs ≡ ys) × (r ≡ s)) ⊎ (Parted xs r ys ⊎ Parted ys s xs)
parted [] [] r s one two e = inl (refl, e)
parted [] (y ∷ ys) r s one two e = inr (inl (y, ys, with_ends ys ++ s, refl, record { whole = e ∙ line_first y ys s; first = two.0 }))
parted (x ∷ xs) [] r s one two e = inr (inr (x, xs, with_ends xs ++ r, refl, record { whole = sym e ∙ line_first x xs r; first = one.0 }))
parted (x ∷ xs) (y ∷ ys) r s one two e =
    let whole : x ++ 10 ∷ (with_ends xs ++ r) ≡ y ++ 10 ∷ (with_ends ys ++ s) = sym (line_first x xs r) ∙ e ∙ line_first y ys s in
    let (first, rest) = cut_once 10 x (with_ends xs ++ r) y (with_ends ys ++ s) one.0 two.0 whole in
    elim (parted xs ys r s one.1 two.1 rest) [
      | inl (same, back) ↦ inl (cc, back)
      | inr (inl (line, more, after, longer, cut)) ↦ inr (inl (line, more, after, cc, cut))
      | inr (inr (line, more, after, longer, cut)) ↦ inr (inr (line, more, after, cc, cut))
    ]

-- an empty text has no line with an LF
no_line : (line after : List ℕ) → [] ≡ line ++ 10 ∷ after → ⊥
no_line [] after e = cc
no_line (b ∷ line) after e = cc

-- the lines of logs that are a text, and other lines of it: the same, or the other ones begin them
pub text_parted : (logs : List Named) (ys : List (List ℕ)) (s content : List ℕ) → AreLogsOf content logs → AllByRecursion (Lacks 10) ys → content ≡ with_ends ys ++ s → ((all_lines logs ≡ ys) × (s ≡ [])) ⊎ ((line : List ℕ) × (more : List (List ℕ)) × (after : List ℕ) × (all_lines logs ≡ ys ++ line ∷ more) × IsCut 10 s line after)
text_parted logs ys s content are lacks whole =
    let runs = Runs-all logs are.sound in
    elim (parted (all_lines logs) ys [] s (Runs-lacks nothing (at_stage logs Opening) (all_lines logs) nothing_sound runs) lacks (append-nil (with_ends (all_lines logs)) ∙ sym are.text ∙ whole)) [
      | inl (same, none) ↦ inl (same, sym none)
      | inr (inl (line, more, after, longer, cut)) ↦ absurd (no_line line after cut.whole)
      | inr (inr parts) ↦ inr parts
    ]

-- the lines before the rest, of which there are so many, lead to this place
pub record IsReading (content : List ℕ) (done : List Named) (stage : Stage) (rest : List ℕ) (number : ℕ) : Type 0 where
  pub sound : IsProgress (at_stage done stage)
  pub runs : Runs nothing (so_far (at_stage done stage)) (at_stage done stage)
  pub whole : content ≡ with_ends (so_far (at_stage done stage)) ++ rest
  pub count : number ≡ length (so_far (at_stage done stage))
  pub lines : lines_of content ≡ so_far (at_stage done stage) ++ lines_of rest

pub IsReading-none : (content : List ℕ) → IsReading content [] Opening content 0
IsReading-none content = record { sound = nothing_sound; runs = refl; whole = refl; count = refl; lines = refl }

-- there is room for the number of the next line
pub IsReading-room : (content : List ℕ) (done : List Named) (stage : Stage) (rest line after : List ℕ) (number : ℕ) → IsReading content done stage rest number → IsCut 10 rest line after → number + 1 ≤ length (lines_of content)
IsReading-room content done stage rest line after number reading cut =
    let long : length (lines_of content) ≡ length (so_far (at_stage done stage)) + length (lines_of rest) = ap length reading.lines ∙ length-append (so_far (at_stage done stage)) (lines_of rest) in
    let more : length (lines_of rest) ≡ length (line ∷ lines_of after) = ap length (lines_of-cut rest line after cut) in
    let count = reading.count in
    omega (arith, long, more, count)

-- one line more
pub IsReading-step : (content : List ℕ) (done next_done : List Named) (stage next : Stage) (rest line after : List ℕ) (number : ℕ) (t : Step) → IsReading content done stage rest number → IsCut 10 rest line after → Adds stage line t →
    at_stage next_done next ≡ settled done t → IsReading content next_done next after (number + 1)
IsReading-step content done next_done stage next rest line after number t reading cut adds is = record {
  sound = Steps-sound (at_stage done stage) line (at_stage next_done next) reading.sound step;
  runs = rw grows (Runs-append nothing (at_stage done stage) (at_stage next_done next) (so_far (at_stage done stage)) (line ∷ []) reading.runs (at_stage next_done next, step, refl));
  whole = reading.whole ∙ ap {A = List ℕ} {B = List ℕ} (λ x. with_ends (so_far (at_stage done stage)) ++ x) cut.whole ∙ rw grows (joined (so_far (at_stage done stage)));
  count = rw (grows, length_push (so_far (at_stage done stage)) line) (ap {A = ℕ} {B = ℕ} (λ n. n + 1) reading.count);
  lines = reading.lines ∙ ap {A = List (List ℕ)} {B = List (List ℕ)} (λ x. so_far (at_stage done stage) ++ x) (lines_of-cut rest line after cut) ∙ rw grows (sym (append_assoc (so_far (at_stage done stage)) (line ∷ []) (lines_of after)));
}
  where
    step : Steps (at_stage done stage) line (at_stage next_done next)
    step = (t, adds, is)

    grows : so_far (at_stage next_done next) ≡ so_far (at_stage done stage) ++ line ∷ []
    grows = Steps-far (at_stage done stage) line (at_stage next_done next) reading.sound step

    joined : (ls : List (List ℕ)) → with_ends ls ++ (line ++ 10 ∷ after) ≡ with_ends (ls ++ line ∷ []) ++ after
    joined ls = simp (flat_map-append, append_assoc, append-nil)

-- where the lines and one more begin logs, the line leads on
pub goes_on : (p : Progress) (line : List ℕ) → IsProgress p → Runs nothing (so_far p) p → IsBeginning (so_far p ++ line ∷ []) → (t : Step) × Adds p.stage line t
goes_on p line sound runs is =
    let longer : all_lines is.logs ≡ so_far p ++ line ∷ is.more = is.begins ∙ append_assoc (so_far p) (line ∷ []) is.more in
    let (m, n, before, (t, adds, to)) = Runs-split nothing (at_stage is.logs Opening) (so_far p) line is.more (rw longer at (Runs-all is.logs is.sound)) in
    let same : m ≡ p = Runs-once nothing m p (so_far p) nothing_sound before runs in
    (t, rw same at adds)

-- a log that is begun has lines
lines_some : (stage : Stage) → IsLater stage 1 → 0 < length (lines_at stage)
lines_some Opening later = absurd (later refl)
lines_some TitledOne later = omega arith
lines_some TitledTwo later = omega arith
lines_some (Moded mode) later = omega arith
lines_some (Divided mode v) later = omega arith
lines_some (Headed One mode) later = omega arith
lines_some (Headed (Two v d) mode) later = omega arith
lines_some (Patient head mode n) later = let long = length-append (head_lines mode head) (patience_line n ∷ []) in omega (arith, long)
lines_some (Listing s es) later =
    let front = length-append (head_lines s.mode s.head) (patience_line s.patience ∷ steps_line s.steps ∷ []) in
    let long = length-append (setting_lines s) (map entry_line es) in
    omega (arith, front, long)
lines_some (Leaving s es left) later =
    let front = length-append (head_lines s.mode s.head) (patience_line s.patience ∷ steps_line s.steps ∷ []) in
    let long = length-append (setting_lines s) (map entry_line es ++ left_line left ∷ []) in
    omega (arith, front, long)

-- a line that isn't the first one has a number above 1
later_line : (done : List Named) (stage : Stage) (number : ℕ) → IsLater stage (number + 1) → number ≡ length (so_far (at_stage done stage)) → 1 < number + 1
later_line done stage number later count = elim (cases_eq number 0) [
  | inl none ↦
      let some : 0 < length (lines_at stage) = lines_some stage (rw none at later) in
      let long = length-append (all_lines done) (lines_at stage) in
      absurd (omega (arith, none, count, some, long))
  | inr some ↦ omega (arith, some)
]

-- nothing but a title may stand first
no_title : (line : List ℕ) → AddsNothing Opening line → (line ≡ title_one → ⊥) × (line ≡ title_two → ⊥)
no_title line nothing = ((λ e. nothing (Goes TitledOne) (inl (e, refl))), (λ e. nothing (Goes TitledTwo) (inr (e, refl))))

-- without lines the whole content is left
first_rest : (done : List Named) (content rest : List ℕ) (number : ℕ) → IsReading content done Opening rest number → number + 1 ≡ 1 → content ≡ rest
first_rest done content rest number reading first = go (so_far (at_stage done Opening)) reading.whole (let count = reading.count in omega (arith, first, count))
  where
    go : (ls : List (List ℕ)) → content ≡ with_ends ls ++ rest → length ls ≡ 0 → content ≡ rest
    go [] e none = e
    go (x ∷ ls) e none = absurd (omega (arith, none))

-- the first line at fault
pub IsReading-fault : (content : List ℕ) (done : List Named) (stage : Stage) (rest line after : List ℕ) (number : ℕ) (e : LogError) → IsReading content done stage rest number → IsCut 10 rest line after → IsLineFault stage line (number + 1) e → RefusesLogs content e
IsReading-fault content done stage rest line after number Version reading cut (opening, first, adds) =
    let at_opening : IsReading content done Opening rest number = subst (λ (s : Stage). IsReading content done s rest number) opening reading in
    let none = no_title line (rw opening at adds) in
    record { line = line; after = after; cut = rw (first_rest done content rest number at_opening first) cut; not_one = none.0; not_two = none.1 }
IsReading-fault content done stage rest line after number (Line k) reading cut (is, later, adds) = rw is (
  later_line done stage number later reading.count,
  record {
    before = so_far (at_stage done stage);
    line = line;
    after = after;
    begun = begun done stage reading.sound;
    whole = reading.whole ∙ ap {A = List ℕ} {B = List ℕ} (λ x. with_ends (so_far (at_stage done stage)) ++ x) cut.whole;
    lacks = cut.first;
    faulty = λ begins. let (t, leads) = goes_on (at_stage done stage) line reading.sound reading.runs begins in adds t leads;
    number = ap {A = ℕ} {B = ℕ} (λ n. n + 1) reading.count;
  },
)
IsReading-fault content done stage rest line after number Cut reading cut fault = absurd fault
IsReading-fault content done stage rest line after number Memory reading cut fault = tt

-- where the content is the text of logs, all is read
whole_read : (content : List ℕ) (done : List Named) (stage : Stage) (rest : List ℕ) (number : ℕ) (logs : List Named) → IsReading content done stage rest number → Lacks 10 rest → AreLogsOf content logs → IsWhole done stage rest
whole_read content done stage rest number logs reading lacks are =
    elim (text_parted logs (so_far (at_stage done stage)) rest content are (Runs-lacks nothing (at_stage done stage) (so_far (at_stage done stage)) nothing_sound reading.runs) reading.whole) [
      | inr (line, more, after, longer, cut) ↦ absurd (no_cut 10 rest line after lacks cut)
      | inl (same, none) ↦
          let place : at_stage logs Opening ≡ at_stage done stage = Runs-once nothing (at_stage logs Opening) (at_stage done stage) (so_far (at_stage done stage)) nothing_sound (rw same at (Runs-all logs are.sound)) reading.runs in
          let dones : logs ≡ done = ap {A = Progress} {B = List Named} (λ p. p.done) place in
          let stages : Opening ≡ stage = ap {A = Progress} {B = Stage} (λ p. p.stage) place in
          record { some = subst (λ (l : List Named). 0 < length l) dones are.some; opening = sym stages; nothing = none }
    ]

-- all is read of the text of the logs
read_whole : (content : List ℕ) (done : List Named) (stage : Stage) (rest : List ℕ) (number : ℕ) → IsReading content done stage rest number → IsWhole done stage rest → AreLogsOf content done
read_whole content done stage rest number reading is = record {
  some = is.some;
  sound = reading.sound.done;
  text = reading.whole ∙ rw (is.opening, is.nothing, append-nil (all_lines done), append-nil (with_ends (all_lines done))) refl;
}

-- what is known where no whole line is left
pub IsReading-end : (content : List ℕ) (done : List Named) (stage : Stage) (rest : List ℕ) (number : ℕ) (result : Result (List Named) LogError) → IsReading content done stage rest number → Lacks 10 rest → Finishes done stage rest result →
    MatchResult result (AreLogsOf content) (RefusesLogs content)
IsReading-end content done stage rest number (Ok logs) reading lacks (same, is) = rw same (read_whole content done stage rest number reading is)
IsReading-end content done stage rest number (Err e) reading lacks (cut, not) = rw cut (record {
  lines = so_far (at_stage done stage);
  rest = rest;
  begun = begun done stage reading.sound;
  whole = reading.whole;
  lacks = lacks;
  unended = λ logs are. not (whole_read content done stage rest number logs reading lacks are);
})
