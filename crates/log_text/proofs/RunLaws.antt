-- The lines of logs lead to them, one by one.
use Rattle.std.proofs.Common.{◌≡◌, ◌∙◌, ℕ, zero, suc, ◌+◌, ◌<◌, ◌≤◌, List, [], ◌∷◌, ◌++◌, length, map, All, inl, inr, refl, sym, ap, subst, arith, true, nat_lt}
use Rattle.std.specs.List.{AllByRecursion, list_all}
use Rattle.std.proofs.lemmas.Bool.{cases_Bool, false≢true}
use Rattle.std.proofs.lemmas.Bool.Decides.{Decides-ltb}
use Rattle.std.proofs.lemmas.List.{append-nil, append_assoc, length_push}
use Rattle.std.proofs.lemmas.List.Elements.{All-nil, All-cons, All-push}
use Rattle.std.proofs.lemmas.Grind.{flat_map-append}
use Rattle.lts_base.specs.declared.divergence.Divergence.{Divergence}
use Rattle.lts_base.specs.declared.divergence.Divergence.TheVariants.{Refuse}
use Rattle.lts_base.specs.declared.item.Mode.{Mode}
use Rattle.lts_base.specs.declared.item.Mode.TheVariants.{Ioco}
use Rattle.text_scan.specs.Cut.{Lacks}
use Rattle.log_text.specs.declared.limits.TheConstants.{MOST_LEFT_BYTES}
use Rattle.log_text.specs.declared.log.Digest.{Digest}
use Rattle.log_text.specs.declared.log.Ending.{Ending}
use Rattle.log_text.specs.declared.log.Ending.TheVariants.{Pass}
use Rattle.log_text.specs.declared.log.Entry.{Entry}
use Rattle.log_text.specs.declared.log.Head.{Head}
use Rattle.log_text.specs.declared.log.Head.TheVariants.{One, Two}
use Rattle.log_text.specs.declared.log.Named.{Named}
use Rattle.log_text.specs.declared.stage.Setting.{Setting}
use Rattle.log_text.specs.declared.stage.Stage.{Stage}
use Rattle.log_text.specs.declared.stage.Stage.TheVariants.{Opening, TitledOne, TitledTwo, Moded, Divided, Headed, Patient, Listing, Leaving}
use Rattle.log_text.specs.declared.stage.Step.{Step}
use Rattle.log_text.specs.declared.stage.Step.TheVariants.{Goes, Ends}
use Rattle.log_text.specs.Printed.{mode_line, divergence_line, spec_line, head_lines, patience_line, steps_line, entry_line, left_lines, end_line, log_lines, all_lines}
use Rattle.log_text.specs.Logs.{IsDigest, IsText, IsEntry, IsHead, IsNamed}
use Rattle.log_text.specs.Faults.{IsBeginning}
use Rattle.log_text.specs.Adding.{log_of, lines_at, Adds, IsStage, Progress, settled}
use Rattle.log_text.proofs.AddLaws.{IsStep, step_lines, Adds-once, Adds-grows, Adds-sound, Adds-lacks}

-- these logs, and the next one so far
abbrev pub at_stage : List Named → Stage → Progress
at_stage done stage = record { done = done; stage = stage }

-- nothing is read
abbrev pub nothing : Progress
nothing = at_stage [] Opening

-- the logs and the beginning of the next one are in their forms
pub record IsProgress (p : Progress) : Type 0 where
  pub done : All IsNamed p.done
  pub stage : IsStage p.stage

-- the lines so far
abbrev pub so_far : Progress → List (List ℕ)
so_far p = all_lines p.done ++ lines_at p.stage

-- a line leads on
abbrev pub Steps : Progress → List ℕ → Progress → Type 0
Steps p line q = (t : Step) × Adds p.stage line t × (q ≡ settled p.done t)

-- lines lead on
abbrev pub Runs : Progress → List (List ℕ) → Progress → Type 0
Runs p [] q = p ≡ q
Runs p (line ∷ lines) q = (m : Progress) × Steps p line m × Runs m lines q

settled_sound : (done : List Named) (t : Step) → All IsNamed done → IsStep t → IsProgress (settled done t)
settled_sound done (Goes stage) all is = record { done = all; stage = is }
settled_sound done (Ends log) all is = record { done = All-push IsNamed done log all is; stage = tt }

pub Steps-sound : (p : Progress) (line : List ℕ) (q : Progress) → IsProgress p → Steps p line q → IsProgress q
Steps-sound p line q is (t, adds, to) = rw to (settled_sound p.done t is.done (Adds-sound p.stage line t is.stage adds))

settled_far : (done : List Named) (t : Step) → so_far (settled done t) ≡ all_lines done ++ step_lines t
settled_far done (Goes stage) = refl
settled_far done (Ends log) = append-nil (all_lines (done ++ log ∷ [])) ∙ flat_map-append log_lines done (log ∷ []) ∙ ap {A = List (List ℕ)} {B = List (List ℕ)} (λ x. all_lines done ++ x) (append-nil (log_lines log))

-- a line more
pub Steps-far : (p : Progress) (line : List ℕ) (q : Progress) → IsProgress p → Steps p line q → so_far q ≡ so_far p ++ line ∷ []
Steps-far p line q is (t, adds, to) =
    ap so_far to ∙ settled_far p.done t ∙ ap {A = List (List ℕ)} {B = List (List ℕ)} (λ x. all_lines p.done ++ x) (Adds-grows p.stage line t is.stage adds) ∙ sym (append_assoc (all_lines p.done) (lines_at p.stage) (line ∷ []))

Steps-once : (p : Progress) (line : List ℕ) (q r : Progress) → IsProgress p → Steps p line q → Steps p line r → q ≡ r
Steps-once p line q r is (t, one, to) (u, two, up) = to ∙ ap (settled p.done) (Adds-once p.stage line t u is.stage one two) ∙ sym up

-- lines lead to one place
pub Runs-once : (p q r : Progress) (lines : List (List ℕ)) → IsProgress p → Runs p lines q → Runs p lines r → q ≡ r
Runs-once p q r [] is one two = sym one ∙ two
Runs-once p q r (line ∷ lines) is one two =
    let same : two.0 ≡ one.0 = Steps-once p line two.0 one.0 is two.1 one.1 in
    Runs-once one.0 q r lines (Steps-sound p line one.0 is one.1) one.2 (subst (λ (m : Progress). Runs m lines r) same two.2)

-- lines that lead on after lines
pub Runs-append : (p m q : Progress) (xs ys : List (List ℕ)) → Runs p xs m → Runs m ys q → Runs p (xs ++ ys) q
Runs-append p m q [] ys one two = subst (λ (u : Progress). Runs u ys q) (sym one) two
Runs-append p m q (x ∷ xs) ys one two = (one.0, one.1, Runs-append one.0 m q xs ys one.2 two)

-- where lines lead on, a part of them leads to a place in between
pub Runs-split : (p q : Progress) (xs : List (List ℕ)) (line : List ℕ) (ys : List (List ℕ)) → Runs p (xs ++ line ∷ ys) q → (m : Progress) × (n : Progress) × Runs p xs m × Steps m line n
Runs-split p q [] line ys runs = (p, runs.0, refl, runs.1)
Runs-split p q (x ∷ xs) line ys runs =
    let (m, n, before, steps) = Runs-split runs.0 q xs line ys runs.2 in
    (m, n, (runs.0, runs.1, before), steps)

-- no line that leads on has an LF
pub Runs-lacks : (p q : Progress) (lines : List (List ℕ)) → IsProgress p → Runs p lines q → AllByRecursion (Lacks 10) lines
Runs-lacks p q [] is runs = tt
Runs-lacks p q (line ∷ lines) is (m, (t, adds, to), rest) =
    (Adds-lacks p.stage line t is.stage adds, Runs-lacks m q lines (Steps-sound p line m is (t, adds, to)) rest)

-- the lines of a head
Runs-head : (done : List Named) (mode : Mode) (head : Head) (lines : List (List ℕ)) (q : Progress) → IsHead head → Runs (at_stage done (Headed head mode)) lines q → Runs (at_stage done Opening) (head_lines mode head ++ lines) q
Runs-head done mode One lines q is rest = (at_stage done TitledOne, (Goes TitledOne, inl (refl, refl), refl), (at_stage done (Headed One mode), (Goes (Headed One mode), (mode, refl, refl), refl), rest))
Runs-head done mode (Two v d) lines q is rest = (
  at_stage done TitledTwo,
  (Goes TitledTwo, inr (refl, refl), refl),
  (
    at_stage done (Moded mode),
    (Goes (Moded mode), (mode, refl, refl), refl),
    (
      at_stage done (Divided mode v),
      (Goes (Divided mode v), (v, refl, refl), refl),
      (at_stage done (Headed (Two v d) mode), (Goes (Headed (Two v d) mode), (d, is, refl, refl), refl), rest),
    ),
  ),
)

-- the lines of entries
Runs-entries : (done : List Named) (s : Setting) (es xs : List Entry) (lines : List (List ℕ)) (q : Progress) → All IsEntry xs → length es + length xs ≤ s.steps →
    Runs (at_stage done (Listing s (es ++ xs))) lines q → Runs (at_stage done (Listing s es)) (map entry_line xs ++ lines) q
Runs-entries done s es [] lines q all few rest = subst (λ (zs : List Entry). Runs (at_stage done (Listing s zs)) lines q) (append-nil es) rest
Runs-entries done s es (x ∷ xs) lines q all few rest = (
  at_stage done (Listing s (es ++ x ∷ [])),
  (Goes (Listing s (es ++ x ∷ [])), inl (x, omega (arith, few), all zero x (omega arith), refl, refl), refl),
  Runs-entries done s (es ++ x ∷ []) xs lines q (λ k d below. all (suc k) d (omega (arith, below))) (rw (length_push es x) (omega (arith, few)))
      (subst (λ (zs : List Entry). Runs (at_stage done (Listing s zs)) lines q) (sym (append_assoc es (x ∷ []) xs)) rest),
)

-- the lines after the entries
Runs-end : (done : List Named) (s : Setting) (es : List Entry) (left : List ℕ) (e : Ending) (lines : List (List ℕ)) (q : Progress) → IsText MOST_LEFT_BYTES left →
    Runs (at_stage (done ++ log_of s es left e ∷ []) Opening) lines q → Runs (at_stage done (Listing s es)) (left_lines left ++ (end_line (length es) e ∷ lines)) q
Runs-end done s es [] e lines q short rest = (at_stage (done ++ log_of s es [] e ∷ []) Opening, (Ends (log_of s es [] e), inr (inr (e, refl, refl)), refl), rest)
Runs-end done s es (b ∷ left) e lines q short rest = (
  at_stage done (Leaving s es (b ∷ left)),
  (Goes (Leaving s es (b ∷ left)), inr (inl (b ∷ left, omega arith, short, refl, refl)), refl),
  (at_stage (done ++ log_of s es (b ∷ left) e ∷ []) Opening, (Ends (log_of s es (b ∷ left) e), (e, refl, refl), refl), rest),
)

-- the lines of a log and more
log_then : (n : Named) (lines : List (List ℕ)) → log_lines n ++ lines ≡ head_lines n.log.mode n.head ++ (patience_line n.log.patience ∷ steps_line n.log.steps ∷ (map entry_line n.log.entries ++ (left_lines n.log.left ++ (end_line (length n.log.entries) n.log.ending ∷ lines))))
log_then n lines = go (head_lines n.log.mode n.head) (map entry_line n.log.entries) (left_lines n.log.left)
  where
    go : (xs ys zs : List (List ℕ)) → (xs ++ (patience_line n.log.patience ∷ steps_line n.log.steps ∷ (ys ++ (zs ++ end_line (length n.log.entries) n.log.ending ∷ [])))) ++ lines
        ≡ xs ++ (patience_line n.log.patience ∷ steps_line n.log.steps ∷ (ys ++ (zs ++ (end_line (length n.log.entries) n.log.ending ∷ lines))))
    go xs ys zs = simp (append_assoc)

-- the setting of a log
abbrev setting_of : Named → Setting
setting_of n = record { head = n.head; mode = n.log.mode; patience = n.log.patience; steps = n.log.steps }

-- the lines of a log lead to it
Runs-log : (done : List Named) (n : Named) (lines : List (List ℕ)) (q : Progress) → IsNamed n → Runs (at_stage (done ++ n ∷ []) Opening) lines q → Runs (at_stage done Opening) (log_lines n ++ lines) q
Runs-log done n lines q is rest = subst (λ (ls : List (List ℕ)). Runs (at_stage done Opening) ls q) (sym (log_then n lines))
    (Runs-head done n.log.mode n.head _ q is.head (
      at_stage done (Patient n.head n.log.mode n.log.patience),
      (Goes (Patient n.head n.log.mode n.log.patience), (n.log.patience, is.log.patience, refl, refl), refl),
      (
        at_stage done (Listing (setting_of n) []),
        (Goes (Listing (setting_of n) []), (n.log.steps, is.log.steps, refl, refl), refl),
        Runs-entries done (setting_of n) [] n.log.entries _ q is.log.entries (let few = is.log.few in omega (arith, few))
            (Runs-end done (setting_of n) n.log.entries n.log.left n.log.ending lines q is.log.left rest),
      ),
    ))

-- the lines of logs lead to them
Runs-logs : (done logs : List Named) → All IsNamed logs → Runs (at_stage done Opening) (all_lines logs) (at_stage (done ++ logs) Opening)
Runs-logs done [] all = ap (λ (l : List Named). at_stage l Opening) (sym (append-nil done))
Runs-logs done (n ∷ logs) all = Runs-log done n (all_lines logs) (at_stage (done ++ n ∷ logs) Opening) (all zero n (omega arith))
    (subst (λ (l : List Named). Runs (at_stage (done ++ n ∷ []) Opening) (all_lines logs) (at_stage l Opening)) (append_assoc done (n ∷ []) logs)
    (Runs-logs (done ++ n ∷ []) logs (λ k d below. all (suc k) d (omega (arith, below)))))

pub Runs-all : (logs : List Named) → All IsNamed logs → Runs nothing (all_lines logs) (at_stage logs Opening)
Runs-all logs all = Runs-logs [] logs all

-- nothing is in its form
pub nothing_sound : IsProgress nothing
nothing_sound = record { done = All-nil IsNamed; stage = tt }

-- a beginning of a beginning
pub IsBeginning-front : (xs ys : List (List ℕ)) → IsBeginning (xs ++ ys) → IsBeginning xs
IsBeginning-front xs ys is = record { logs = is.logs; more = ys ++ is.more; sound = is.sound; begins = is.begins ∙ append_assoc xs ys is.more }

-- where a step leads to a beginning there is one before it
step_begins : (p : Progress) (line : List ℕ) (q : Progress) → IsProgress p → Steps p line q → IsBeginning (so_far q) → IsBeginning (so_far p)
step_begins p line q is steps begun = IsBeginning-front (so_far p) (line ∷ []) (rw (← Steps-far p line q is steps) begun)

-- a step to a stage
goes : (done : List Named) (s t : Stage) (line : List ℕ) → Adds s line (Goes t) → Steps (at_stage done s) line (at_stage done t)
goes done s t line adds = (Goes t, adds, refl)

-- whole logs are a beginning
whole_begins : (logs : List Named) → All IsNamed logs → IsBeginning (so_far (at_stage logs Opening))
whole_begins logs all = record { logs = logs; more = []; sound = all; begins = sym (append-nil (all_lines logs ++ []) ∙ append-nil (all_lines logs)) }

-- a digest
abbrev zeros : Digest
zeros = record { 0 = 0 ∷ 0 ∷ 0 ∷ 0 ∷ 0 ∷ 0 ∷ 0 ∷ 0 ∷ 0 ∷ 0 ∷ 0 ∷ 0 ∷ 0 ∷ 0 ∷ 0 ∷ 0 ∷ 0 ∷ 0 ∷ 0 ∷ 0 ∷ 0 ∷ 0 ∷ 0 ∷ 0 ∷ 0 ∷ 0 ∷ 0 ∷ 0 ∷ 0 ∷ 0 ∷ 0 ∷ 0 ∷ [] }

-- the digest of zeros
zeros_digest : IsDigest zeros
zeros_digest = record { long = refl; bytes = go zeros.0 refl }
  where
    go : (xs : List ℕ) → list_all (λ b. nat_lt b 256) xs ≡ true → All (λ b. b < 256) xs
    go [] t = All-nil (λ b. b < 256)
    go (x ∷ xs) t = elim (cases_Bool (nat_lt x 256)) [
      | inl low ↦ All-cons (λ b. b < 256) x xs ((Decides-ltb x 256).0 low) (go xs (rw low at t))
      | inr high ↦ absurd (false≢true (rw high at t))
    ]

-- a step to a stage from which there is a beginning
goes_begun : (done : List Named) (s t : Stage) (line : List ℕ) → IsProgress (at_stage done s) → Adds s line (Goes t) → (IsProgress (at_stage done t) → IsBeginning (so_far (at_stage done t))) → IsBeginning (so_far (at_stage done s))
goes_begun done s t line is adds next = step_begins (at_stage done s) line (at_stage done t) is (goes done s t line adds) (next (Steps-sound (at_stage done s) line (at_stage done t) is (goes done s t line adds)))

-- a step that ends a log
ends_begun : (done : List Named) (s : Stage) (log : Named) (line : List ℕ) → IsProgress (at_stage done s) → Adds s line (Ends log) → IsBeginning (so_far (at_stage done s))
ends_begun done s log line is adds =
    step_begins (at_stage done s) line (at_stage (done ++ log ∷ []) Opening) is (Ends log, adds, refl)
    (whole_begins (done ++ log ∷ []) (Steps-sound (at_stage done s) line (at_stage (done ++ log ∷ []) Opening) is (Ends log, adds, refl)).done)

-- a log that is begun goes on to some end
begun_leaving : (done : List Named) (s : Setting) (es : List Entry) (left : List ℕ) → IsProgress (at_stage done (Leaving s es left)) → IsBeginning (so_far (at_stage done (Leaving s es left)))
begun_leaving done s es left is = ends_begun done (Leaving s es left) (log_of s es left Pass) (end_line (length es) Pass) is (Pass, refl, refl)

begun_listing : (done : List Named) (s : Setting) (es : List Entry) → IsProgress (at_stage done (Listing s es)) → IsBeginning (so_far (at_stage done (Listing s es)))
begun_listing done s es is = ends_begun done (Listing s es) (log_of s es [] Pass) (end_line (length es) Pass) is (inr (inr (Pass, refl, refl)))

begun_patient : (done : List Named) (head : Head) (mode : Mode) (n : ℕ) → IsProgress (at_stage done (Patient head mode n)) → IsBeginning (so_far (at_stage done (Patient head mode n)))
begun_patient done head mode n is =
    goes_begun done (Patient head mode n) (Listing (record { head = head; mode = mode; patience = n; steps = 1 }) []) (steps_line 1) is (1, (omega arith, omega arith), refl, refl)
    (begun_listing done (record { head = head; mode = mode; patience = n; steps = 1 }) [])

begun_headed : (done : List Named) (head : Head) (mode : Mode) → IsProgress (at_stage done (Headed head mode)) → IsBeginning (so_far (at_stage done (Headed head mode)))
begun_headed done head mode is = goes_begun done (Headed head mode) (Patient head mode 1) (patience_line 1) is (1, (omega arith, omega arith), refl, refl) (begun_patient done head mode 1)

begun_divided : (done : List Named) (mode : Mode) (v : Divergence) → IsProgress (at_stage done (Divided mode v)) → IsBeginning (so_far (at_stage done (Divided mode v)))
begun_divided done mode v is = goes_begun done (Divided mode v) (Headed (Two v zeros) mode) (spec_line zeros) is (zeros, zeros_digest, refl, refl) (begun_headed done (Two v zeros) mode)

begun_moded : (done : List Named) (mode : Mode) → IsProgress (at_stage done (Moded mode)) → IsBeginning (so_far (at_stage done (Moded mode)))
begun_moded done mode is = goes_begun done (Moded mode) (Divided mode Refuse) (divergence_line Refuse) is (Refuse, refl, refl) (begun_divided done mode Refuse)

pub begun : (done : List Named) (s : Stage) → IsProgress (at_stage done s) → IsBeginning (so_far (at_stage done s))
begun done Opening is = whole_begins done is.done
begun done TitledOne is = goes_begun done TitledOne (Headed One Ioco) (mode_line Ioco) is (Ioco, refl, refl) (begun_headed done One Ioco)
begun done TitledTwo is = goes_begun done TitledTwo (Moded Ioco) (mode_line Ioco) is (Ioco, refl, refl) (begun_moded done Ioco)
begun done (Moded mode) is = begun_moded done mode is
begun done (Divided mode v) is = begun_divided done mode v is
begun done (Headed head mode) is = begun_headed done head mode is
begun done (Patient head mode n) is = begun_patient done head mode n is
begun done (Listing s es) is = begun_listing done s es is
begun done (Leaving s es left) is = begun_leaving done s es left is
