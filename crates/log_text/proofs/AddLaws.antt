-- What a line adds is one thing, it is one line more, and it has no LF.
use Rattle.std.proofs.Common.{◌≡◌, ◌∙◌, ℕ, ◌^◌, ◌<◌, List, [], ◌∷◌, ◌++◌, length, map, inl, inr, refl, sym, ap, arith, decimal, codes}
use Rattle.std.proofs.lemmas.Fmt.{decimal_injective}
use Rattle.std.proofs.lemmas.List.{append-nil, append_assoc, append_cancel_left, map-append, length_push}
use Rattle.std.proofs.lemmas.List.Elements.{All-nil, All-push}
use Rattle.hex.specs.Hex.{encode_lower}
use Rattle.lts_base.specs.declared.divergence.Divergence.{Divergence}
use Rattle.lts_base.specs.declared.item.Mode.{Mode}
use Rattle.text_scan.specs.Cut.{Lacks}
use Rattle.log_text.specs.declared.limits.TheConstants.{MOST_LEFT_BYTES}
use Rattle.log_text.specs.declared.log.Digest.{Digest}
use Rattle.log_text.specs.declared.log.Ending.{Ending}
use Rattle.log_text.specs.declared.log.Entry.{Entry}
use Rattle.log_text.specs.declared.log.Head.TheVariants.{One, Two}
use Rattle.log_text.specs.declared.stage.Setting.{Setting}
use Rattle.log_text.specs.declared.stage.Stage.{Stage}
use Rattle.log_text.specs.declared.stage.Stage.TheVariants.{Opening, TitledOne, TitledTwo, Moded, Divided, Headed, Patient, Listing, Leaving}
use Rattle.log_text.specs.declared.stage.Step.{Step}
use Rattle.log_text.specs.declared.stage.Step.TheVariants.{Goes, Ends}
use Rattle.log_text.specs.Printed.{title_one, title_two, head_lines, patience_line, steps_line, entry_line, left_line, end_line, log_lines}
use Rattle.log_text.specs.Logs.{IsText, IsEntry, IsNamed}
use Rattle.log_text.specs.Adding.{log_of, setting_lines, lines_at, AddsEnd, Adds, AreEntries, IsStage}
use Rattle.log_text.proofs.NumberLaws.{Lacks-decimal}
use Rattle.log_text.proofs.LineLaws.{lacks_tested, Lacks-append, titles_apart, mode_once, divergence_once, digits_once, hex_lacks, entry_once, entry_starts, left_once, left_no_end, end_once, entry_lacks, mode_lacks, divergence_lacks, end_lacks}

-- what a step leads to is in its form
abbrev pub IsStep : Step → Type 0
IsStep (Goes stage) = IsStage stage
IsStep (Ends log) = IsNamed log

-- the lines after a step
abbrev pub step_lines : Step → List (List ℕ)
step_lines (Goes stage) = lines_at stage
step_lines (Ends log) = log_lines log

-- there are fewer entries than 2^32
few_entries : (s : Setting) (es : List Entry) → AreEntries s es → length es < 2 ^ 32
few_entries s es is = let most = is.setting.steps.1 in omega (arith, most, is.few)

-- a log has one end
AddsEnd-once : (s : Setting) (es : List Entry) (left line : List ℕ) (t u : Step) → AreEntries s es → AddsEnd s es left line t → AddsEnd s es left line u → t ≡ u
AddsEnd-once s es left line t u is (e, one, to) (f, two, up) =
    let same : e ≡ f = end_once (length es) e f (few_entries s es is) (sym one ∙ two) in
    to ∙ ap (λ (x : Ending). Ends (log_of s es left x)) same ∙ sym up

-- a line leads to one step
pub Adds-once : (stage : Stage) (line : List ℕ) (t u : Step) → IsStage stage → Adds stage line t → Adds stage line u → t ≡ u
Adds-once Opening line t u is (inl (e, to)) (inl (f, up)) = to ∙ sym up
Adds-once Opening line t u is (inl (e, to)) (inr (f, up)) = absurd (titles_apart (sym e ∙ f))
Adds-once Opening line t u is (inr (e, to)) (inl (f, up)) = absurd (titles_apart (sym f ∙ e))
Adds-once Opening line t u is (inr (e, to)) (inr (f, up)) = to ∙ sym up
Adds-once TitledOne line t u is (m, e, to) (n, f, up) = to ∙ ap (λ (x : Mode). Goes (Headed One x)) (mode_once m n (sym e ∙ f)) ∙ sym up
Adds-once TitledTwo line t u is (m, e, to) (n, f, up) = to ∙ ap (λ (x : Mode). Goes (Moded x)) (mode_once m n (sym e ∙ f)) ∙ sym up
Adds-once (Moded mode) line t u is (v, e, to) (w, f, up) = to ∙ ap (λ (x : Divergence). Goes (Divided mode x)) (divergence_once v w (sym e ∙ f)) ∙ sym up
Adds-once (Divided mode v) line t u is (d, one, e, to) (g, two, f, up) =
    let same : encode_lower d.0 ≡ encode_lower g.0 = append_cancel_left (codes "spec ") (encode_lower d.0) (encode_lower g.0) (sym e ∙ f) in
    to ∙ ap (λ (x : Digest). Goes (Headed (Two v x) mode)) (digits_once d g one two same) ∙ sym up
Adds-once (Headed head mode) line t u is (m, one, e, to) (n, two, f, up) =
    let same : decimal m ≡ decimal n = append_cancel_left (codes "patience ") (decimal m) (decimal n) (sym e ∙ f) in
    to ∙ ap {A = ℕ} {B = Step} (λ x. Goes (Patient head mode x)) (decimal_injective m n (omega (arith, one.1)) (omega (arith, two.1)) same) ∙ sym up
Adds-once (Patient head mode patience) line t u is (m, one, e, to) (n, two, f, up) =
    let same : decimal m ≡ decimal n = append_cancel_left (codes "steps ") (decimal m) (decimal n) (sym e ∙ f) in
    to ∙ ap {A = ℕ} {B = Step} (λ x. Goes (Listing (record { head = head; mode = mode; patience = patience; steps = x }) [])) (decimal_injective m n (omega (arith, one.1)) (omega (arith, two.1)) same) ∙ sym up
Adds-once (Listing s es) line t u is (inl (e, room, one, x, to)) (inl (f, space, two, y, up)) = to ∙ ap (λ (z : Entry). Goes (Listing s (es ++ z ∷ []))) (entry_once e f (sym x ∙ y)) ∙ sym up
Adds-once (Listing s es) line t u is (inl (e, room, one, x, to)) (inr (inl (left, some, short, y, up))) = absurd (entry_starts e 108 _ (inl refl) (sym x ∙ y))
Adds-once (Listing s es) line t u is (inl (e, room, one, x, to)) (inr (inr (f, y, up))) = absurd (entry_starts e 101 _ (inr refl) (sym x ∙ y))
Adds-once (Listing s es) line t u is (inr (inl (left, some, short, x, to))) (inl (f, space, two, y, up)) = absurd (entry_starts f 108 _ (inl refl) (sym y ∙ x))
Adds-once (Listing s es) line t u is (inr (inl (left, some, short, x, to))) (inr (inl (other, more, low, y, up))) =
    to ∙ ap {A = List ℕ} {B = Step} (λ z. Goes (Leaving s es z)) (left_once left other (sym x ∙ y)) ∙ sym up
Adds-once (Listing s es) line t u is (inr (inl (left, some, short, x, to))) (inr (inr (f, y, up))) = absurd (left_no_end left (length es) f (sym x ∙ y))
Adds-once (Listing s es) line t u is (inr (inr (e, x, to))) (inl (f, space, two, y, up)) = absurd (entry_starts f 101 _ (inr refl) (sym y ∙ x))
Adds-once (Listing s es) line t u is (inr (inr (e, x, to))) (inr (inl (left, some, short, y, up))) = absurd (left_no_end left (length es) e (sym y ∙ x))
Adds-once (Listing s es) line t u is (inr (inr one)) (inr (inr two)) = AddsEnd-once s es [] line t u is one two
Adds-once (Leaving s es left) line t u is one two = AddsEnd-once s es left line t u is.0 one two

-- what a line adds is one line more
pub Adds-grows : (stage : Stage) (line : List ℕ) (t : Step) → IsStage stage → Adds stage line t → step_lines t ≡ lines_at stage ++ line ∷ []
Adds-grows Opening line t is (inl (e, to)) = rw (to, e) refl
Adds-grows Opening line t is (inr (e, to)) = rw (to, e) refl
Adds-grows TitledOne line t is (m, e, to) = rw (to, e) refl
Adds-grows TitledTwo line t is (m, e, to) = rw (to, e) refl
Adds-grows (Moded mode) line t is (v, e, to) = rw (to, e) refl
Adds-grows (Divided mode v) line t is (d, one, e, to) = rw (to, e) refl
Adds-grows (Headed head mode) line t is (n, one, e, to) = rw (to, e) refl
Adds-grows (Patient head mode patience) line t is (n, one, e, to) = rw (to, e) (go (head_lines mode head))
  where
    go : (front : List (List ℕ)) → (front ++ (patience_line patience ∷ steps_line n ∷ [])) ++ [] ≡ (front ++ patience_line patience ∷ []) ++ steps_line n ∷ []
    go front = append-nil (front ++ (patience_line patience ∷ steps_line n ∷ [])) ∙ sym (append_assoc front (patience_line patience ∷ []) (steps_line n ∷ []))
Adds-grows (Listing s es) line t is (inl (e, room, one, x, to)) = rw (to, x, map-append entry_line es (e ∷ [])) (sym (append_assoc (setting_lines s) (map entry_line es) (entry_line e ∷ [])))
Adds-grows (Listing s es) line t is (inr (inl (left, some, short, x, to))) = rw (to, x) (sym (append_assoc (setting_lines s) (map entry_line es) (left_line left ∷ [])))
Adds-grows (Listing s es) line t is (inr (inr (e, x, to))) = rw (to, x) (go (head_lines s.mode s.head) (map entry_line es))
  where
    go : (front entries : List (List ℕ)) → front ++ (patience_line s.patience ∷ steps_line s.steps ∷ (entries ++ end_line (length es) e ∷ [])) ≡ ((front ++ (patience_line s.patience ∷ steps_line s.steps ∷ [])) ++ entries) ++ end_line (length es) e ∷ []
    go front entries = rw (append_assoc (front ++ (patience_line s.patience ∷ steps_line s.steps ∷ [])) entries (end_line (length es) e ∷ [])) (sym (append_assoc front (patience_line s.patience ∷ steps_line s.steps ∷ []) (entries ++ end_line (length es) e ∷ [])))
Adds-grows (Leaving s es []) line t is adds = absurd (let some = is.1 in omega (arith, some))
Adds-grows (Leaving s es (b ∷ left)) line t is (e, x, to) = rw (to, x) (go (head_lines s.mode s.head) (map entry_line es))
  where
    go : (front entries : List (List ℕ)) → front ++ (patience_line s.patience ∷ steps_line s.steps ∷ (entries ++ (left_line (b ∷ left) ∷ end_line (length es) e ∷ []))) ≡ ((front ++ (patience_line s.patience ∷ steps_line s.steps ∷ [])) ++ (entries ++ left_line (b ∷ left) ∷ [])) ++ end_line (length es) e ∷ []
    go front entries =
        rw (append_assoc (front ++ (patience_line s.patience ∷ steps_line s.steps ∷ [])) (entries ++ left_line (b ∷ left) ∷ []) (end_line (length es) e ∷ []), append_assoc entries (left_line (b ∷ left) ∷ []) (end_line (length es) e ∷ []))
        (sym (append_assoc front (patience_line s.patience ∷ steps_line s.steps ∷ []) (entries ++ (left_line (b ∷ left) ∷ end_line (length es) e ∷ []))))

-- no text is left
no_left : IsText MOST_LEFT_BYTES []
no_left = record { short = omega arith; lacks = tt }

-- the log that an end makes is in its form
AddsEnd-sound : (s : Setting) (es : List Entry) (left line : List ℕ) (t : Step) → AreEntries s es → IsText MOST_LEFT_BYTES left → AddsEnd s es left line t → IsStep t
AddsEnd-sound s es left line t is short (e, x, to) = rw to (record {
  head = is.setting.head;
  log = record { patience = is.setting.patience; steps = is.setting.steps; few = is.few; entries = is.entries; left = short };
})

-- what a line adds to the beginning of a log is in its form
pub Adds-sound : (stage : Stage) (line : List ℕ) (t : Step) → IsStage stage → Adds stage line t → IsStep t
Adds-sound Opening line t is (inl (e, to)) = rw to tt
Adds-sound Opening line t is (inr (e, to)) = rw to tt
Adds-sound TitledOne line t is (m, e, to) = rw to tt
Adds-sound TitledTwo line t is (m, e, to) = rw to tt
Adds-sound (Moded mode) line t is (v, e, to) = rw to tt
Adds-sound (Divided mode v) line t is (d, one, e, to) = rw to one
Adds-sound (Headed head mode) line t is (n, one, e, to) = rw to (is, one)
Adds-sound (Patient head mode patience) line t is (n, one, e, to) = rw to (record { setting = record { head = is.0; patience = is.1; steps = one }; few = omega arith; entries = All-nil IsEntry })
Adds-sound (Listing s es) line t is (inl (e, room, one, x, to)) = rw to (record { setting = is.setting; few = rw (length_push es e) (omega (arith, room)); entries = All-push IsEntry es e is.entries one })
Adds-sound (Listing s es) line t is (inr (inl (left, some, short, x, to))) = rw to (is, some, short)
Adds-sound (Listing s es) line t is (inr (inr end)) = AddsEnd-sound s es [] line t is no_left end
Adds-sound (Leaving s es left) line t is end = AddsEnd-sound s es left line t is.0 is.2 end

-- a line that is added has no LF
pub Adds-lacks : (stage : Stage) (line : List ℕ) (t : Step) → IsStage stage → Adds stage line t → Lacks 10 line
Adds-lacks Opening line t is (inl (e, to)) = rw e (lacks_tested title_one refl)
Adds-lacks Opening line t is (inr (e, to)) = rw e (lacks_tested title_two refl)
Adds-lacks TitledOne line t is (m, e, to) = rw e (mode_lacks m)
Adds-lacks TitledTwo line t is (m, e, to) = rw e (mode_lacks m)
Adds-lacks (Moded mode) line t is (v, e, to) = rw e (divergence_lacks v)
Adds-lacks (Divided mode v) line t is (d, one, e, to) = rw e (Lacks-append 10 (codes "spec ") (encode_lower d.0) (lacks_tested (codes "spec ") refl) (hex_lacks d.0))
Adds-lacks (Headed head mode) line t is (n, one, e, to) = rw e (Lacks-append 10 (codes "patience ") (decimal n) (lacks_tested (codes "patience ") refl) (Lacks-decimal 10 n (omega arith) (omega (arith, one.1))))
Adds-lacks (Patient head mode patience) line t is (n, one, e, to) = rw e (Lacks-append 10 (codes "steps ") (decimal n) (lacks_tested (codes "steps ") refl) (Lacks-decimal 10 n (omega arith) (omega (arith, one.1))))
Adds-lacks (Listing s es) line t is (inl (e, room, one, x, to)) = rw x (entry_lacks e one)
Adds-lacks (Listing s es) line t is (inr (inl (left, some, short, x, to))) = rw x (Lacks-append 10 (codes "left ") left (lacks_tested (codes "left ") refl) short.lacks)
Adds-lacks (Listing s es) line t is (inr (inr (e, x, to))) = rw x (end_lacks (length es) e (few_entries s es is))
Adds-lacks (Leaving s es left) line t is (e, x, to) = rw x (end_lacks (length es) e (few_entries s es is.0))
