-- The verdict of a session is that on its log.
use Rattle.std.proofs.Common.{◌≡◌, ℕ, ◌+◌, ◌<◌, List, [], ◌∷◌, ◌++◌, length, map, None, Some, inl, inr, refl, sym, ◌∙◌, arith}
use Rattle.std.specs.List.{AllZip}
use Rattle.std.proofs.lemmas.List.{append_assoc, append-nil, map-append, same_from_push}
use Rattle.lts_base.specs.declared.item.Item.{Item}
use Rattle.lts_base.specs.declared.item.Item.TheVariants.{Input, Output, Delta}
use Rattle.lts_base.specs.declared.item.Mode.{Mode}
use Rattle.lts_base.specs.declared.item.Mode.TheVariants.{Ioco, Uioco}
use Rattle.lts_base.specs.System.{System, IsItemOf, label_count}
use Rattle.lts_base.specs.Path.{Has}
use Rattle.lts_base.specs.After.{ShowsAfter}
use Rattle.lts_base.specs.Conformance.{IsAllowed, IsUtraceAlong}
use Rattle.lts_base.proofs.ListLaws.{snoc_cases, snoc_induction}
use Rattle.lts_base.proofs.Leads.{Ends-push}
use Rattle.lts_base.proofs.SetLaws.{Has-item, Ends-last, Gives-from_output, Gives-from_delta, Gives-seen}
use Rattle.lts_base.proofs.AllowedLaws.{IsAllowed-nil, IsAllowed-has, IsAllowed-front}
use Rattle.log_text.specs.declared.log.Log.{Log}
use Rattle.log_text.specs.declared.log.Entry.TheVariants.{Heard as HeardText}
use Rattle.log_text.specs.declared.log.Ending.{Ending}
use Rattle.trace_log.specs.declared.seen.Seen.{Seen}
use Rattle.trace_log.specs.declared.seen.Seen.TheVariants.{Known, StrangeHeard}
use Rattle.trace_log.specs.declared.judge.LogVerdict.{LogVerdict}
use Rattle.trace_log.specs.declared.judge.LogVerdict.TheVariants.{Pass as LogPass, Fail as LogFail}
use Rattle.trace_log.specs.Verdict.{IsSeenAs, IsVerdict, IsHeard}
use Rattle.trace_log.proofs.VerdictLaws.{zip_push, all_seen_once, verdict_once}
use Rattle.session_core.specs.declared.phase.Phase.{Phase}
use Rattle.session_core.specs.declared.phase.Phase.TheVariants.{Ask, Look, Send, Hear, Done}
use Rattle.session_core.specs.declared.verdict.Verdict.TheVariants.{Pass, Fail, Ended, Stalled, Long}
use Rattle.session_core.specs.Told.{Told}
use Rattle.session_core.specs.Table.{Rules, Sitting, Offered, Shown, IsTextOf, IsStrange, Heard, Quiet, IsLogged, IsFailed}
use Rattle.session_core.specs.Reading.{Round, Went, Crossed, Came, Rested, given_by, FitsAt, GoOn, IsReadIn, IsReading}
use Rattle.session_core.specs.Sound.{IsSeen}
use Rattle.session_core.specs.Logged.{entry_of, log_of}
use Rattle.session_core.specs.Judged.{alphabet_of, AreLabelled, verdict_of, IsJudged}

-- along a trace with an item more that is no input
along_push : (s : System) (σ : List Item) (x : Item) → ((a : ℕ) → x ≡ Input a → ⊥) → IsUtraceAlong s σ → IsUtraceAlong s (σ ++ x ∷ [])
along_push s σ x other along τ ρ a e q ends stable = elim (snoc_cases ρ) [
  | inl none ↦
      let e' : σ ++ x ∷ [] ≡ τ ++ Input a ∷ [] = rw none at e in
      absurd (other a (same_from_push σ τ x (Input a) e').1)
  | inr (front, y, some) ↦
      let e' : σ ++ x ∷ [] ≡ τ ++ Input a ∷ (front ++ y ∷ []) = rw some at e in
      let e'' : σ ++ x ∷ [] ≡ (τ ++ Input a ∷ front) ++ y ∷ [] = e' ∙ sym (append_assoc τ (Input a ∷ front) (y ∷ [])) in
      along τ front a (same_from_push σ (τ ++ Input a ∷ front) x y e'').0 q ends stable
]

-- what is shown makes a longer trace
shown_has : (s : System) (σ : List Item) (x : Item) → IsItemOf s x → ShowsAfter s σ x → Has s (σ ++ x ∷ [])
shown_has s σ x item (q, ends, gives) =
    let (r, seen) = Gives-seen s q x item gives in
    (r, Ends-push s σ q x r ends seen)

-- what is shown after an allowed trace is allowed
shown_allowed : (mode : Mode) (s : System) (σ : List Item) (x : Item) → IsItemOf s x → IsSeen x → IsAllowed mode s σ → ShowsAfter s σ x → IsAllowed mode s (σ ++ x ∷ [])
shown_allowed mode s σ (Input a) item seen allowed shown = absurd seen
shown_allowed Ioco s σ (Output a) item seen allowed shown = shown_has s σ (Output a) item shown
shown_allowed Uioco s σ (Output a) item seen allowed shown = (shown_has s σ (Output a) item shown, along_push s σ (Output a) (λ b e. cc) allowed.1)
shown_allowed Ioco s σ Delta item seen allowed shown = shown_has s σ Delta item shown
shown_allowed Uioco s σ Delta item seen allowed shown = (shown_has s σ Delta item shown, along_push s σ Delta (λ b e. cc) allowed.1)

-- what isn't shown isn't allowed
unshown_not : (mode : Mode) (s : System) (σ : List Item) (x : Item) → IsSeen x → (¬ ShowsAfter s σ x) → ¬ IsAllowed mode s (σ ++ x ∷ [])
unshown_not mode s σ (Input a) seen unshown allowed = absurd seen
unshown_not mode s σ (Output a) seen unshown allowed =
    let (q, ends) = IsAllowed-has mode s (σ ++ Output a ∷ []) allowed in
    let (p, r, before, step, silent) = Ends-last s σ (Output a) q ends in
    unshown (p, before, Gives-from_output s p a r step)
unshown_not mode s σ Delta seen unshown allowed =
    let (q, ends) = IsAllowed-has mode s (σ ++ Delta ∷ []) allowed in
    let (p, r, before, step, silent) = Ends-last s σ Delta q ends in
    unshown (p, before, Gives-from_delta s p r step)

-- the words of the table, opened
shown_in : (r : Rules) (σ : List Item) (x : Item) → Shown r σ x → ShowsAfter r.system σ x
unfolding Shown
shown_in r σ x shown = shown

in_shown : (r : Rules) (σ : List Item) (x : Item) → ShowsAfter r.system σ x → Shown r σ x
unfolding Shown
in_shown r σ x shown = shown

offered_in : (r : Rules) (σ : List Item) (a : ℕ) → Offered r σ a → IsAllowed r.mode r.system (σ ++ Input a ∷ [])
unfolding Offered
offered_in r σ a offered = offered

text_in : (r : Rules) (text : List ℕ) (x : Item) → AreLabelled r → IsTextOf r text x → IsItemOf r.system x × IsSeen x
unfolding IsTextOf
text_in r text x labelled (k, low, high, same, is) =
    let below : k < label_count r.system = omega (arith, high, labelled.over.inputs, labelled.over.outputs, labelled.alphabet.inputs) in
    rw is ((low, below), tt)

strange_in : (r : Rules) (text : List ℕ) → IsStrange r text → IsSeenAs (alphabet_of r) (HeardText text) StrangeHeard
unfolding IsStrange
strange_in r text strange k (low, high, is) = strange k low high (sym is)

-- what is logged makes an allowed trace longer
heard_allowed : (r : Rules) (σ : List Item) (text : List ℕ) (x : Item) → AreLabelled r → IsAllowed r.mode r.system σ → IsLogged r σ (Heard text) x → IsAllowed r.mode r.system (σ ++ x ∷ [])
heard_allowed r σ text x labelled allowed (is_text, shown) =
    let (item, seen) = text_in r text x labelled is_text in
    shown_allowed r.mode r.system σ x item seen allowed (shown_in r σ x shown)

quiet_allowed : (r : Rules) (σ : List Item) (x : Item) → IsAllowed r.mode r.system σ → IsLogged r σ Quiet x → IsAllowed r.mode r.system (σ ++ x ∷ [])
quiet_allowed r σ x allowed (is, shown) = rw is (shown_allowed r.mode r.system σ Delta tt tt allowed (shown_in r σ Delta (rw is at shown)))

round_allowed : (r : Rules) (σ : List Item) (round : Round) (x : Item) → AreLabelled r → IsAllowed r.mode r.system σ → FitsAt r σ round → IsLogged r σ (given_by round) x → IsAllowed r.mode r.system (σ ++ x ∷ [])
round_allowed r σ (Went a mids) x labelled allowed fits is = rw is (offered_in r σ a fits)
round_allowed r σ (Crossed a mids text) x labelled allowed fits logged = heard_allowed r σ text x labelled allowed logged
round_allowed r σ (Came c waits text) x labelled allowed fits logged = heard_allowed r σ text x labelled allowed logged
round_allowed r σ (Rested c waits) x labelled allowed fits logged = quiet_allowed r σ x allowed logged

rounds_allowed : (r : Rules) (σ : List Item) (rounds : List Round) (τ : List Item) → AreLabelled r → IsAllowed r.mode r.system σ → GoOn r σ rounds τ → IsAllowed r.mode r.system τ
rounds_allowed r σ [] τ labelled allowed same = rw same allowed
rounds_allowed r σ (round ∷ rounds) τ labelled allowed (x, fits, logged, more, go) =
    rounds_allowed r (σ ++ x ∷ []) rounds τ labelled (round_allowed r σ round x labelled allowed fits logged) go

-- an item's entry says the item
item_said : (r : Rules) (x : Item) → AreLabelled r → IsItemOf r.system x → IsSeenAs (alphabet_of r) (entry_of r.texts x) (Known x)
item_said r (Input a) labelled item = (item, refl)
item_said r (Output a) labelled item =
    let high = item.1 in
    let below : a < length r.texts = omega (arith, high, labelled.over.inputs, labelled.over.outputs, labelled.alphabet.inputs) in
    (item.0, below, refl)
item_said r Delta labelled item = tt

-- the entries of an allowed trace say the trace
trace_said : (r : Rules) (σ : List Item) → AreLabelled r → IsAllowed r.mode r.system σ → AllZip (IsSeenAs (alphabet_of r)) (map (entry_of r.texts) σ) (map Known σ)
trace_said r σ labelled = snoc_induction (λ (τ : List Item). IsAllowed r.mode r.system τ → AllZip (IsSeenAs (alphabet_of r)) (map (entry_of r.texts) τ) (map Known τ)) (λ h. tt) push σ
  where
    push : (τ : List Item) (x : Item) → (IsAllowed r.mode r.system τ → AllZip (IsSeenAs (alphabet_of r)) (map (entry_of r.texts) τ) (map Known τ)) →
        IsAllowed r.mode r.system (τ ++ x ∷ []) → AllZip (IsSeenAs (alphabet_of r)) (map (entry_of r.texts) (τ ++ x ∷ [])) (map Known (τ ++ x ∷ []))
    push τ x before allowed =
        let item = Has-item r.system τ x labelled.system (IsAllowed-has r.mode r.system (τ ++ x ∷ []) allowed) in
        rw (map-append (entry_of r.texts) τ (x ∷ []), map-append Known τ (x ∷ []))
        (zip_push (IsSeenAs (alphabet_of r)) (map (entry_of r.texts) τ) (map Known τ) (entry_of r.texts x) (Known x) (before (IsAllowed-front r.mode r.system τ x allowed)) (item_said r x labelled item))

-- what is said and the verdict on it are alone
judged_from : (r : Rules) (log : Log) (seen : List Seen) (v : LogVerdict) → AreLabelled r → AllZip (IsSeenAs (alphabet_of r)) log.entries seen → IsVerdict r.mode r.system seen v → IsJudged r log v
judged_from r log seen v labelled says verdict = record {
  seen = seen;
  says = says;
  says_alone = λ others also. all_seen_once (alphabet_of r) log.entries seen others labelled.alphabet says also;
  verdict = verdict;
  verdict_alone = λ w is. verdict_once r.mode r.system seen v w verdict is;
}

-- the items are an allowed trace
judged_pass : (r : Rules) (s : Sitting) (otherwise : Ending) (σ : List Item) → AreLabelled r → IsAllowed r.mode r.system σ → s.items ≡ σ → s.strange ≡ None → IsJudged r (log_of r s otherwise) LogPass
judged_pass r s otherwise σ labelled allowed items none =
    let says : AllZip (IsSeenAs (alphabet_of r)) (log_of r s otherwise).entries (map Known σ) = rw (items, none, append-nil) (trace_said r σ labelled allowed) in
    judged_from r (log_of r s otherwise) (map Known σ) LogPass labelled says (σ, (refl, allowed))

-- an item that isn't shown comes after an allowed trace
judged_item : (r : Rules) (s : Sitting) (otherwise : Ending) (σ : List Item) (x : Item) (k : ℕ) → AreLabelled r → IsAllowed r.mode r.system σ → IsItemOf r.system x → IsSeen x → (¬ Shown r σ x) →
    s.items ≡ σ ++ x ∷ [] → s.strange ≡ None → k ≡ length σ + 1 → IsJudged r (log_of r s otherwise) (LogFail k)
judged_item r s otherwise σ x k labelled allowed item seen unshown items none place =
    let unlike : ¬ ShowsAfter r.system σ x = λ shown. unshown (in_shown r σ x shown) in
    let stop : ¬ IsAllowed r.mode r.system (σ ++ x ∷ []) = unshown_not r.mode r.system σ x seen unlike in
    let zip = zip_push (IsSeenAs (alphabet_of r)) (map (entry_of r.texts) σ) (map Known σ) (entry_of r.texts x) (Known x) (trace_said r σ labelled allowed) (item_said r x labelled item) in
    let says : AllZip (IsSeenAs (alphabet_of r)) (log_of r s otherwise).entries (map Known σ ++ Known x ∷ []) = rw (items, none, append-nil, map-append (entry_of r.texts) σ (x ∷ [])) zip in
    judged_from r (log_of r s otherwise) (map Known σ ++ Known x ∷ []) (LogFail k) labelled says (
      Known x,
      record {
        trace = σ;
        others = [];
        whole = refl;
        allowed = allowed;
        stops = λ y e longer. let same : x ≡ y = cc in stop (rw same longer);
        place = place;
      },
      heard x seen,
    )
  where
    heard : (y : Item) → IsSeen y → IsHeard (Known y)
    heard (Input a) h = absurd h
    heard (Output a) h = tt
    heard Delta h = tt

-- a strange text comes after an allowed trace
judged_strange : (r : Rules) (s : Sitting) (otherwise : Ending) (σ : List Item) (text : List ℕ) (k : ℕ) → AreLabelled r → IsAllowed r.mode r.system σ → IsStrange r text →
    s.items ≡ σ → s.strange ≡ Some text → k ≡ length σ + 1 → IsJudged r (log_of r s otherwise) (LogFail k)
judged_strange r s otherwise σ text k labelled allowed strange items some place =
    let zip = zip_push (IsSeenAs (alphabet_of r)) (map (entry_of r.texts) σ) (map Known σ) (HeardText text) StrangeHeard (trace_said r σ labelled allowed) (strange_in r text strange) in
    let says : AllZip (IsSeenAs (alphabet_of r)) (log_of r s otherwise).entries (map Known σ ++ StrangeHeard ∷ []) = rw (items, some) zip in
    judged_from r (log_of r s otherwise) (map Known σ ++ StrangeHeard ∷ []) (LogFail k) labelled says (
      StrangeHeard,
      record {
        trace = σ;
        others = [];
        whole = refl;
        allowed = allowed;
        stops = λ y e. cc;
        place = place;
      },
      tt,
    )

-- what was given isn't shown
judged_heard : (r : Rules) (s : Sitting) (otherwise : Ending) (σ : List Item) (text : List ℕ) (k : ℕ) → AreLabelled r → IsAllowed r.mode r.system σ → IsFailed r σ (Heard text) s.items s.strange → k ≡ length σ + 1 → IsJudged r (log_of r s otherwise) (LogFail k)
judged_heard r s otherwise σ text k labelled allowed (inl (x, is_text, unshown, items, none)) place =
    let (item, seen) = text_in r text x labelled is_text in
    judged_item r s otherwise σ x k labelled allowed item seen unshown items none place
judged_heard r s otherwise σ text k labelled allowed (inr (strange, items, some)) place = judged_strange r s otherwise σ text k labelled allowed strange items some place

judged_round : (r : Rules) (s : Sitting) (otherwise : Ending) (σ : List Item) (round : Round) (k : ℕ) → AreLabelled r → IsAllowed r.mode r.system σ → IsFailed r σ (given_by round) s.items s.strange → k ≡ length σ + 1 → IsJudged r (log_of r s otherwise) (LogFail k)
judged_round r s otherwise σ (Went a mids) k labelled allowed failed place = absurd failed
judged_round r s otherwise σ (Crossed a mids text) k labelled allowed failed place = judged_heard r s otherwise σ text k labelled allowed failed place
judged_round r s otherwise σ (Came c waits text) k labelled allowed failed place = judged_heard r s otherwise σ text k labelled allowed failed place
judged_round r s otherwise σ (Rested c waits) k labelled allowed (unshown, items, none) place = judged_item r s otherwise σ Delta k labelled allowed tt tt unshown items none place

-- the reading by phase
judged_in : (p : Phase) (r : Rules) (events : List Told) (s : Sitting) (otherwise : Ending) (σ : List Item) (tail : List Told) → AreLabelled r → IsAllowed r.mode r.system σ → IsReadIn p r events σ tail s → IsJudged r (log_of r s otherwise) (verdict_of p)
judged_in Ask r events s otherwise σ tail labelled allowed (part, few, items, none, left) = judged_pass r s otherwise σ labelled allowed items none
judged_in (Look a) r events s otherwise σ tail labelled allowed (part, few, items, none, left) = judged_pass r s otherwise σ labelled allowed items none
judged_in (Send a) r events s otherwise σ tail labelled allowed (part, few, items, none, left) = judged_pass r s otherwise σ labelled allowed items none
judged_in Hear r events s otherwise σ tail labelled allowed (part, few, items, none, left) = judged_pass r s otherwise σ labelled allowed items none
judged_in (Done Pass) r events s otherwise σ tail labelled allowed (round, x, fits, logged, over, whole, few, items, none, left) =
    judged_pass r s otherwise (σ ++ x ∷ []) labelled (round_allowed r σ round x labelled allowed fits logged) items none
judged_in (Done (Fail k)) r events s otherwise σ tail labelled allowed (round, fits, failed, whole, few, place, left) = judged_round r s otherwise σ round k labelled allowed failed place
judged_in (Done Stalled) r events s otherwise σ tail labelled allowed (front, part, whole, tails, hearing, few, count, items, none) = judged_pass r s otherwise σ labelled allowed items none
judged_in (Done Long) r events s otherwise σ tail labelled allowed (part, tails, hearing, few, items, none) = judged_pass r s otherwise σ labelled allowed items none
judged_in (Done Ended) r events s otherwise σ tail labelled allowed (part, tails, hearing, few, items, none) = judged_pass r s otherwise σ labelled allowed items none

-- the verdict on the log is that of the session
pub reading_judged : (r : Rules) (events : List Told) (s : Sitting) (otherwise : Ending) → AreLabelled r → IsReading r events s → IsJudged r (log_of r s otherwise) (verdict_of s.phase)
reading_judged r events s otherwise labelled reading =
    judged_in s.phase r events s otherwise reading.items reading.tail labelled (rounds_allowed r [] reading.cut.rounds reading.items labelled (IsAllowed-nil r.mode r.system) reading.cut.go) reading.read
