-- A session over a simulated implementation: its items are a trace of it, and where it fails it met a violation.
use Rattle.std.proofs.Common.{◌≡◌, ◌∙◌, ℕ, ◌+◌, ◌<◌, ◌≤◌, List, [], ◌∷◌, ◌++◌, length, Option, None, Some, Result, Ok, Err, IfErr, ◌-◌, ◌^◌, min, ◌⊎◌, inl, inr, refl, sym, ap, subst, arith}
use Rattle.std.proofs.lemmas.List.{append-nil}
use Rattle.lts_base.specs.declared.item.Item.{Item}
use Rattle.lts_base.specs.declared.item.Item.TheVariants.{Input, Output, Delta}
use Rattle.lts_base.specs.declared.item.Mode.{Mode}
use Rattle.lts_base.specs.declared.item.Mode.TheVariants.{Ioco, Uioco}
use Rattle.lts_base.specs.System.{System, Takes, IsStable}
use Rattle.lts_base.specs.Alphabet.{Alphabet, text_at}
use Rattle.lts_base.specs.Path.{Ends, Has, IsSeen, Leads}
use Rattle.lts_base.specs.After.{ShowsAfter}
use Rattle.lts_base.specs.Conformance.{IsAllowed, IsConforming, IsViolation}
use Rattle.lts_base.proofs.Leads.{Leads-here, Leads-append, Leads-one, Leads-split, Ends-push, Ends-silent, IsSeen-from_output, IsSeen-from_quiet, IsSeen-input, IsSeen-output, IsSeen-delta}
use Rattle.lts_base.proofs.AllowedLaws.{IsAllowed-has, IsAllowed-nil, IsUtraceAlong-push}
use Rattle.edge_io.specs.Links.{Leads as LeadsLink, LinkFails, ToldLink}
use Rattle.edge_io.specs.declared.act.Heard.{Heard}
use Rattle.edge_io.specs.declared.act.Heard.TheVariants.{Line as HeardLine, Idle as HeardIdle, IdleMid as HeardMid, TooLong as HeardLong, End as HeardEnd}
use Rattle.edge_io.specs.declared.act.Act.{Act}
use Rattle.edge_io.specs.declared.act.Act.TheVariants.{Looked, Listened, Gave}
use Rattle.walk_core.specs.declared.choice.Choice.{Choice}
use Rattle.walk_core.specs.declared.walk.WalkError.{WalkError}
use Rattle.walk_core.specs.declared.walk.WalkError.TheVariants.{Full as WalkFull, Memory as WalkMemory}
use Rattle.walk_core.specs.declared.choice.Choice.TheVariants.{Input as Ask_input, Observe}
use Rattle.session_core.specs.declared.phase.Phase.{Phase}
use Rattle.session_core.specs.declared.phase.Phase.TheVariants.{Ask, Look, Send, Hear, Done}
use Rattle.session_core.specs.declared.verdict.Verdict.{Verdict}
use Rattle.session_core.specs.declared.turn.DriveError.{DriveError}
use Rattle.session_core.specs.declared.turn.DriveError.TheVariants.{Broken as LinkBroke}
use Rattle.session_core.specs.declared.verdict.Verdict.TheVariants.{Pass, Fail, Ended, Stalled, Long}
use Rattle.session_core.specs.Told.{Told, Chosen, Line, Idle, IdleMid, TooLong, End, Sent}
use Rattle.session_core.specs.Table.{Rules, Sitting, Given, Heard as HeardText, Quiet, Offered, Shown, IsTextOf, IsStrange, IsOver, IsLogged, IsFailed, Settles, Fails, Observed, TurnAsk, TurnIn, opening}
use Rattle.session_core.specs.Seat.{Seat, Takes as TakesEvent}
use Rattle.session_core.specs.Driven.{Deed, Picked, Acted, Playing, Does, Plays, IsDue, IsLogged as IsLoggedSo, IsLoggedDrive, Refused, acts_of, event_of_act, input_text}
use Rattle.sim_core.specs.Simulated.{Hears, Looks}
use Rattle.sim_core.specs.Acts.{Simulated, GivesSimulated, IsAnswer, IsInputText, IsNoInput}
use Rattle.sim_core.specs.Seen.{alphabet_of, IsSimulated, IsOutputSeen, IsSeenOf}
use Rattle.sim_core.proofs.SeenLaws.{act_leads, act_seen, simulated_on}
use Rattle.sim_session.specs.Along.{GivesAny, IsAlong, IsTracing}
use Rattle.sim_session.specs.Rehearsed.{AreJoined, IsLastViolating, IsRehearsal, IsRehearsed, IsSoundIn, drive_result, over_simulation}

-- an observation is no input
abbrev pub IsObserved : Item → Type 0
IsObserved (Input a) = ⊥
IsObserved (Output a) = Unit {0}
IsObserved Delta = Unit {0}

-- ---- what is shown

-- the trace that is shown is had
shown_has : (s : System) (σ : List Item) (x : Item) → ShowsAfter s σ x → Has s (σ ++ x ∷ [])
shown_has s σ (Input a) (q, ends, gives) = absurd gives
shown_has s σ (Output a) (q, ends, (above, (t, move))) = (t, Ends-push s σ q (Output a) t ends (IsSeen-from_output s q a t above move))
shown_has s σ Delta (q, ends, quiet) = (q, Ends-push s σ q Delta q ends (IsSeen-from_quiet s q quiet))

not_input : (x : Item) (a : ℕ) → IsObserved x → ¬ (x ≡ Input a)
not_input (Input b) a observed e = observed
not_input (Output b) a observed e = cc e
not_input Delta a observed e = cc e

shown_observed : (s : System) (σ : List Item) (x : Item) → ShowsAfter s σ x → IsObserved x
shown_observed s σ (Input a) (q, ends, gives) = gives
shown_observed s σ (Output a) shown = tt
shown_observed s σ Delta shown = tt

-- so it is allowed
shown_allowed : (mode : Mode) (s : System) (σ : List Item) (x : Item) → IsAllowed mode s σ → ShowsAfter s σ x → IsAllowed mode s (σ ++ x ∷ [])
shown_allowed Ioco s σ x allowed shown = shown_has s σ x shown
shown_allowed Uioco s σ x (has, along) shown =
    (shown_has s σ x shown, IsUtraceAlong-push s σ x along (λ a same. absurd (not_input x a (shown_observed s σ x shown) same)))

-- what leads on by one item is shown
led_shows : (s : System) (σ : List Item) (x : Item) (p q : ℕ) → IsObserved x → Ends s σ p → Leads s p (x ∷ []) q → ShowsAfter s σ x
led_shows s σ x p q observed ends (steps, path, trace) =
    let (m, n, before, seen, after) = Leads-one s x steps p q path trace in
    shows x m n observed (Ends-silent s σ p m ends before) seen
  where
    shows : (x : Item) (m n : ℕ) → IsObserved x → Ends s σ m → IsSeen s m x n → ShowsAfter s σ x
    shows (Input a) m n observed ends seen = absurd observed
    shows (Output a) m n observed ends seen = let (move, above) = IsSeen-output s m a n seen in (m, ends, (above, (n, move)))
    shows Delta m n observed ends seen = (m, ends, (IsSeen-delta s m n seen).0)

ends_on : (s : System) (σ : List Item) (x : Item) (p q : ℕ) → Ends s σ p → Leads s p (x ∷ []) q → Ends s (σ ++ x ∷ []) q
ends_on s σ x p q ends leads = Leads-append s s.start p q σ (x ∷ []) ends leads

-- ---- words of the table, opened

offered_allowed : (r : Rules) (σ : List Item) (a : ℕ) → Offered r σ a → IsAllowed r.mode r.system (σ ++ Input a ∷ [])
unfolding Offered
offered_allowed r σ a offered = offered

shown_of : (r : Rules) (σ : List Item) (x : Item) → Shown r σ x → ShowsAfter r.system σ x
unfolding Shown
shown_of r σ x shown = shown

unshown_of : (r : Rules) (σ : List Item) (x : Item) → (¬ Shown r σ x) → ¬ ShowsAfter r.system σ x
unfolding Shown
unshown_of r σ x unshown shown = unshown shown

-- the text is that of an output, which is seen
text_seen : (r : Rules) (a : Alphabet) (text : List ℕ) (x : Item) → a.inputs ≡ r.system.inputs → a.texts ≡ r.texts → IsTextOf r text x → IsOutputSeen a text (x ∷ []) × IsObserved x
unfolding IsTextOf
text_seen r a text x inputs texts (k, low, high, same, is) = rw (inputs, texts, is) ((k, low, high, sym same, refl), tt)

not_strange : (r : Rules) (a : Alphabet) (text : List ℕ) (σ : List Item) → a.inputs ≡ r.system.inputs → a.texts ≡ r.texts → IsOutputSeen a text σ → ¬ IsStrange r text
unfolding IsStrange
not_strange r a text σ inputs texts (k, low, high, same, is) strange = strange k (rw inputs at low) (rw texts at high) (sym (rw texts at same))

-- ---- an item is logged, or fails

-- the items with one more
settled : (r : Rules) (i : System) (s t : Sitting) (x : Item) (p q : ℕ) → IsAllowed r.mode r.system (s.items ++ x ∷ []) → s.strange ≡ None → Ends i s.items p → Leads i p (x ∷ []) q → Settles r s x t → IsTracing r i t q
settled r i s t x p q allowed none ends leads (inl (over, e)) = rw e (record { ends = ends_on i s.items x p q ends leads; strange = none; sound = allowed })
settled r i s t x p q allowed none ends leads (inr (more, e)) = rw e (record { ends = ends_on i s.items x p q ends leads; strange = none; sound = allowed })

-- an item that isn't shown
failed : (r : Rules) (i : System) (s t : Sitting) (x : Item) (k p q : ℕ) → IsAllowed r.mode r.system s.items → IsObserved x → (¬ ShowsAfter r.system s.items x) → Ends i s.items p → Leads i p (x ∷ []) q →
    t ≡ record s { phase = Done (Fail k); items = s.items ++ x ∷ []; strange = None } → IsTracing r i t q
failed r i s t x k p q allowed observed unshown ends leads e =
    rw e (record {
      ends = ends_on i s.items x p q ends leads;
      strange = refl;
      sound = record { σ = s.items; x = x; items_are = refl; violation = record { allowed = allowed; shown = led_shows i s.items x p q observed ends leads; unshown = unshown } };
    })

-- a line that was heard
line_traced : (r : Rules) (i : System) (a : Alphabet) (s t : Sitting) (text : List ℕ) (p q : ℕ) → a.inputs ≡ r.system.inputs → a.texts ≡ r.texts → IsAllowed r.mode r.system s.items → s.strange ≡ None → Ends i s.items p →
    ((σ : List Item) → IsOutputSeen a text σ → Leads i p σ q) → ((σ : List Item) × IsOutputSeen a text σ) → Observed r s (HeardText text) t → IsTracing r i t q
line_traced r i a s t text p q inputs texts allowed none ends leads some (inl (x, (is, shown), settles)) =
    let seen = text_seen r a text x inputs texts is in
    settled r i s t x p q (shown_allowed r.mode r.system s.items x allowed (shown_of r s.items x shown)) none ends (leads (x ∷ []) seen.0) settles
line_traced r i a s t text p q inputs texts allowed none ends leads some (inr (τ, strange, inl (x, is, unshown, items, no_text), e)) =
    let seen = text_seen r a text x inputs texts is in
    failed r i s t x (length s.items + 1) p q allowed seen.1 (unshown_of r s.items x unshown) ends (leads (x ∷ []) seen.0) (rw (items, no_text) at e)
line_traced r i a s t text p q inputs texts allowed none ends leads (σ, seen) (inr (τ, strange, inr (odd, items, is), e)) = absurd (not_strange r a text σ inputs texts seen odd)

-- quiescence that was counted
quiet_traced : (r : Rules) (i : System) (s t : Sitting) (p q : ℕ) → IsAllowed r.mode r.system s.items → s.strange ≡ None → Ends i s.items p → Leads i p (Delta ∷ []) q → Observed r s Quiet t → IsTracing r i t q
quiet_traced r i s t p q allowed none ends leads (inl (x, (is, shown), settles)) =
    let known : ShowsAfter r.system s.items Delta = rw is at (shown_of r s.items x shown) in
    settled r i s t Delta p q (shown_allowed r.mode r.system s.items Delta allowed known) none ends leads (rw is at settles)
quiet_traced r i s t p q allowed none ends leads (inr (τ, strange, (unshown, items, no_text), e)) =
    failed r i s t Delta (length s.items + 1) p q allowed tt (unshown_of r s.items Delta unshown) ends leads (rw (items, no_text) at e)

-- ---- the turns of a session

-- a chosen input that was offered is an input
offered_input : (r : Rules) (σ : List Item) (a : ℕ) → Offered r σ a → a < r.system.inputs
offered_input r σ a offered =
    let (q, (steps, path, trace)) = IsAllowed-has r.mode r.system (σ ++ Input a ∷ []) (offered_allowed r σ a offered) in
    let (m, before, (others, rest, last)) = Leads-split r.system σ (Input a ∷ []) steps r.system.start q path trace in
    let (n, t, silent, seen, after) = Leads-one r.system (Input a) others m q rest last in
    (IsSeen-input r.system n a t seen).1

-- a simulation answers a line or nothing
answer_cases : (texts : List (List ℕ)) (label : Option ℕ) (heard : Heard) (text : List ℕ) → IsAnswer texts label heard text → (heard ≡ HeardLine) ⊎ (heard ≡ HeardIdle)
answer_cases texts None heard text (idle, none) = inr idle
answer_cases texts (Some k) heard text (line, said) = inl line

no_mid : ¬ ((HeardMid ≡ HeardLine) ⊎ (HeardMid ≡ HeardIdle))
no_mid (inl e) = cc e
no_mid (inr e) = cc e

no_long : ¬ ((HeardLong ≡ HeardLine) ⊎ (HeardLong ≡ HeardIdle))
no_long (inl e) = cc e
no_long (inr e) = cc e

no_end : ¬ ((HeardEnd ≡ HeardLine) ⊎ (HeardEnd ≡ HeardIdle))
no_end (inl e) = cc e
no_end (inr e) = cc e

-- the session goes on in another phase, with the same items
moved : (r : Rules) (i : System) (s t : Sitting) (p q : ℕ) (phase : Phase) → IsTracing r i s p → Leads i p [] q → t.items ≡ s.items → t.strange ≡ s.strange → t.phase ≡ phase → IsSoundIn phase r i s.items → IsTracing r i t q
moved r i s t p q phase tracing leads items strange at sound = record {
  ends = rw items (Ends-silent i s.items p q tracing.ends leads);
  strange = strange ∙ tracing.strange;
  sound = rw (at, items) sound;
}

module _ {R : Type 0} (step : R → ℕ × R) where
  -- a look
  looked : (r : Rules) (x y : Simulated R) (s t : Sitting) (a : ℕ) (heard : Heard) (text : List ℕ) → IsSimulated x → x.system.inputs ≡ r.system.inputs → x.texts ≡ r.texts → IsTracing r x.system s x.place.at →
      s.phase ≡ Look a → GivesSimulated step x (Looked heard text) y → TurnIn (Look a) r s (event_of_act (Looked heard text)) t → IsTracing r x.system t y.place.at
  looked r x y s t a HeardLine text is inputs texts tracing at gives turn =
      let sound = rw at at tracing.sound in
      line_traced r x.system (alphabet_of x) (record s { mid = 0 }) t text x.place.at y.place.at inputs texts sound.0 tracing.strange tracing.ends
      (λ σ seen. act_leads step x y (Looked HeardLine text) σ is gives seen) (act_seen step x y (Looked HeardLine text) is gives) turn
  looked r x y s t a HeardIdle text is inputs texts tracing at gives turn =
      let sound = rw at at tracing.sound in
      let silent = act_leads step x y (Looked HeardIdle text) [] is gives refl in
      moved r x.system s t x.place.at y.place.at (Send a) tracing silent (rw turn refl) (rw turn refl) (rw turn refl) sound
  looked r x y s t a HeardMid text is inputs texts tracing at ((label, looks, answer), system, kept) turn = absurd (no_mid (answer_cases x.texts label HeardMid text answer))
  looked r x y s t a HeardLong text is inputs texts tracing at ((label, looks, answer), system, kept) turn = absurd (no_long (answer_cases x.texts label HeardLong text answer))
  looked r x y s t a HeardEnd text is inputs texts tracing at ((label, looks, answer), system, kept) turn = absurd (no_end (answer_cases x.texts label HeardEnd text answer))

  -- a hearing
  listened : (r : Rules) (x y : Simulated R) (s t : Sitting) (heard : Heard) (text : List ℕ) → IsSimulated x → x.system.inputs ≡ r.system.inputs → x.texts ≡ r.texts → IsTracing r x.system s x.place.at →
      s.phase ≡ Hear → GivesSimulated step x (Listened heard text) y → TurnIn Hear r s (event_of_act (Listened heard text)) t → IsTracing r x.system t y.place.at
  listened r x y s t HeardLine text is inputs texts tracing at gives turn =
      let sound = rw at at tracing.sound in
      line_traced r x.system (alphabet_of x) (record s { mid = 0 }) t text x.place.at y.place.at inputs texts sound tracing.strange tracing.ends
      (λ σ seen. act_leads step x y (Listened HeardLine text) σ is gives seen) (act_seen step x y (Listened HeardLine text) is gives) turn
  listened r x y s t HeardIdle text is inputs texts tracing at gives (inl (short, e)) =
      let sound = rw at at tracing.sound in
      let silent = act_leads step x y (Listened HeardIdle text) [] is gives (inr refl) in
      moved r x.system s t x.place.at y.place.at Hear tracing silent (rw e refl) (rw e refl) (rw e at) sound
  listened r x y s t HeardIdle text is inputs texts tracing at gives (inr (long, turn)) =
      let sound = rw at at tracing.sound in
      let rest = act_leads step x y (Listened HeardIdle text) (Delta ∷ []) is gives (inl refl) in
      quiet_traced r x.system s t x.place.at y.place.at sound tracing.strange tracing.ends rest turn
  listened r x y s t HeardMid text is inputs texts tracing at ((label, hears, answer), system, kept) turn = absurd (no_mid (answer_cases x.texts label HeardMid text answer))
  listened r x y s t HeardLong text is inputs texts tracing at ((label, hears, answer), system, kept) turn = absurd (no_long (answer_cases x.texts label HeardLong text answer))
  listened r x y s t HeardEnd text is inputs texts tracing at ((label, hears, answer), system, kept) turn = absurd (no_end (answer_cases x.texts label HeardEnd text answer))

  -- an input that went out
  gave : (r : Rules) (x y : Simulated R) (s t : Sitting) (a : ℕ) (text : List ℕ) → IsSimulated x → x.system.inputs ≡ r.system.inputs → x.texts ≡ r.texts → IsTracing r x.system s x.place.at →
      s.phase ≡ Send a → text ≡ input_text r a → GivesSimulated step x (Gave text) y → Settles r s (Input a) t → IsTracing r x.system t y.place.at
  gave r x y s t a text is inputs texts tracing at said gives turn =
      let sound = rw at at tracing.sound in
      let low : a < x.system.inputs = rw inputs (offered_input r s.items a sound.1) in
      let same : text ≡ text_at x.texts a = rw texts said in
      let leads = act_leads step x y (Gave text) (Input a ∷ []) is gives (a, low, same, refl) in
      settled r x.system s t (Input a) x.place.at y.place.at (offered_allowed r s.items a sound.1) tracing.strange tracing.ends leads turn

  -- what is sent isn't passed over
  sent_simulated : (r : Rules) (x y : Simulated R) (s : Sitting) (a : ℕ) (text : List ℕ) → x.system.inputs ≡ r.system.inputs → x.texts ≡ r.texts → IsTracing r x.system s x.place.at → s.phase ≡ Send a → text ≡ input_text r a →
      GivesAny step x (Gave text) y → GivesSimulated step x (Gave text) y
  sent_simulated r x y s a text inputs texts tracing at said (inl gives) = gives
  sent_simulated r x y s a text inputs texts tracing at said (inr (none, same)) =
      let sound = rw at at tracing.sound in
      absurd (none a (rw inputs (offered_input r s.items a sound.1), rw texts said))

  -- an act of the simulation that the session waits for
  acted : (r : Rules) (x y : Simulated R) (s t : Sitting) (act : Act) (p : Phase) → IsSimulated x → x.system.inputs ≡ r.system.inputs → x.texts ≡ r.texts → IsTracing r x.system s x.place.at → s.phase ≡ p → IsDue r p act →
      GivesAny step x act y → TurnIn p r s (event_of_act act) t → GivesSimulated step x act y × IsTracing r x.system t y.place.at
  acted r x y s t (Looked heard text) Ask is inputs texts tracing at due gives turn = absurd due
  acted r x y s t (Looked heard text) (Look a) is inputs texts tracing at due (inl gives) turn = (gives, looked r x y s t a heard text is inputs texts tracing at gives turn)
  acted r x y s t (Looked heard text) (Look a) is inputs texts tracing at due (inr none) turn = absurd none
  acted r x y s t (Looked heard text) (Send a) is inputs texts tracing at due gives turn = absurd due
  acted r x y s t (Looked heard text) Hear is inputs texts tracing at due gives turn = absurd due
  acted r x y s t (Looked heard text) (Done v) is inputs texts tracing at due gives turn = absurd due
  acted r x y s t (Listened heard text) Ask is inputs texts tracing at due gives turn = absurd due
  acted r x y s t (Listened heard text) (Look a) is inputs texts tracing at due gives turn = absurd due
  acted r x y s t (Listened heard text) (Send a) is inputs texts tracing at due gives turn = absurd due
  acted r x y s t (Listened heard text) Hear is inputs texts tracing at due (inl gives) turn = (gives, listened r x y s t heard text is inputs texts tracing at gives turn)
  acted r x y s t (Listened heard text) Hear is inputs texts tracing at due (inr none) turn = absurd none
  acted r x y s t (Listened heard text) (Done v) is inputs texts tracing at due gives turn = absurd due
  acted r x y s t (Gave text) Ask is inputs texts tracing at due gives turn = absurd due
  acted r x y s t (Gave text) (Look a) is inputs texts tracing at due gives turn = absurd due
  acted r x y s t (Gave text) (Send a) is inputs texts tracing at due gives turn =
      let simulated = sent_simulated r x y s a text inputs texts tracing at due gives in
      (simulated, gave r x y s t a text is inputs texts tracing at due simulated turn)
  acted r x y s t (Gave text) Hear is inputs texts tracing at due gives turn = absurd due
  acted r x y s t (Gave text) (Done v) is inputs texts tracing at due gives turn = absurd due

-- a choice
chosen : (r : Rules) (i : System) (s t : Sitting) (state : ℕ) (c : Choice) (p : Phase) → IsTracing r i s state → s.phase ≡ p → TurnIn p r s (Chosen c) t → IsTracing r i t state
chosen r i s t state (Ask_input a) Ask tracing at (inl (offered, e)) =
    let sound = rw at at tracing.sound in
    moved r i s t state state (Look a) tracing (Leads-here i state) (rw e refl) (rw e refl) (rw e refl) (sound, offered)
chosen r i s t state (Ask_input a) Ask tracing at (inr (other, e)) = moved r i s t state state Hear tracing (Leads-here i state) (rw e refl) (rw e refl) (rw e refl) (rw at at tracing.sound)
chosen r i s t state Observe Ask tracing at e = moved r i s t state state Hear tracing (Leads-here i state) (rw e refl) (rw e refl) (rw e refl) (rw at at tracing.sound)
chosen r i s t state c (Look a) tracing at turn = absurd turn
chosen r i s t state c (Send a) tracing at turn = absurd turn
chosen r i s t state c Hear tracing at turn = absurd turn
chosen r i s t state c (Done v) tracing at turn = absurd turn

-- ---- the deeds of a rehearsal

module _ {C R : Type 0} (answer : C → List ℕ → List Item → Choice × C) (step : R → ℕ × R) where
  does_along : (r : Rules) (i : System) (p q : Playing C (Simulated R)) (d : Deed) → IsAlong r i p → Does answer (GivesAny step) p d q → Does answer (GivesSimulated step) p d q × IsAlong r i q
  does_along r i p q (Picked c) along (asked, takes) =
      let same = asked.3 in (
        (asked, takes),
        record {
          rules = takes.rules ∙ along.rules;
          simulated = rw same along.simulated;
          system = rw same along.system;
          inputs = rw same along.inputs;
          texts = rw same along.texts;
          tracing = rw same (chosen r p.link.system p.seat.sitting q.seat.sitting p.link.place.at c p.seat.sitting.phase along.tracing refl (rw along.rules at takes.turn));
        },
      )
  does_along r i p q (Acted act) along ((due, gives, gains, chooser), takes) =
      let made = acted step r p.link q.link p.seat.sitting q.seat.sitting act p.seat.sitting.phase along.simulated along.inputs along.texts along.tracing refl (rw along.rules at due) gives (rw along.rules at takes.turn) in
      let system : q.link.system ≡ p.link.system = made.0.1 in
      let texts : q.link.texts ≡ p.link.texts = made.0.2 in (
        ((due, made.0, gains, chooser), takes),
        record {
          rules = takes.rules ∙ along.rules;
          simulated = simulated_on step p.link q.link act made.0 along.simulated;
          system = system ∙ along.system;
          inputs = rw system along.inputs;
          texts = texts ∙ along.texts;
          tracing = rw system made.1;
        },
      )

  -- deeds, one after the other
  plays_along : (r : Rules) (i : System) (p q : Playing C (Simulated R)) (deeds : List Deed) → IsAlong r i p → Plays answer (GivesAny step) p deeds q → Plays answer (GivesSimulated step) p deeds q × IsAlong r i q
  plays_along r i p q [] along same = (same, rw same along)
  plays_along r i p q (d ∷ deeds) along (m, one, rest) =
      let first = does_along r i p m d along one in
      let others = plays_along r i m q deeds first.1 rest in
      ((m, first.0, others.0), others.1)

  -- what a whole drive did
  logged_along : (r : Rules) (i : System) (p q : Playing C (Simulated R)) → IsAlong r i p → IsLoggedSo answer (GivesAny step) p q → IsLoggedSo answer (GivesSimulated step) p q × IsAlong r i q
  logged_along r i p q along logged =
      let made = plays_along r i p q logged.deeds along logged.plays in
      (record { deeds = logged.deeds; plays = made.0; reading = logged.reading; leads = plays_leads p q logged.deeds made.0; acts = logged.acts }, made.1)
    where
      plays_leads : (p q : Playing C (Simulated R)) (deeds : List Deed) → Plays answer (GivesSimulated step) p deeds q → LeadsLink (GivesSimulated step) p.link (acts_of deeds) q.link
      plays_leads p q [] plays = rw plays refl
      plays_leads p q (Picked c ∷ deeds) (m, (asked, turn), rest) = rw asked.3 at (plays_leads m q deeds rest)
      plays_leads p q (Acted act ∷ deeds) (m, (acted, turn), rest) = (m.link, acted.1, plays_leads m q deeds rest)

-- ---- a whole rehearsal

-- an act that the session waits for is one of the simulation
due_simulated : {R : Type 0} (step : R → ℕ × R) (r : Rules) (x y : Simulated R) (s : Sitting) (act : Act) (p : Phase) → x.system.inputs ≡ r.system.inputs → x.texts ≡ r.texts → IsTracing r x.system s x.place.at → s.phase ≡ p → IsDue r p act →
    GivesAny step x act y → GivesSimulated step x act y
due_simulated step r x y s (Looked heard text) p inputs texts tracing at due (inl gives) = gives
due_simulated step r x y s (Looked heard text) p inputs texts tracing at due (inr none) = absurd none
due_simulated step r x y s (Listened heard text) p inputs texts tracing at due (inl gives) = gives
due_simulated step r x y s (Listened heard text) p inputs texts tracing at due (inr none) = absurd none
due_simulated step r x y s (Gave text) Ask inputs texts tracing at due gives = absurd due
due_simulated step r x y s (Gave text) (Look a) inputs texts tracing at due gives = absurd due
due_simulated step r x y s (Gave text) (Send a) inputs texts tracing at due gives = sent_simulated step r x y s a text inputs texts tracing at due gives
due_simulated step r x y s (Gave text) Hear inputs texts tracing at due gives = absurd due
due_simulated step r x y s (Gave text) (Done v) inputs texts tracing at due gives = absurd due

-- what a session has come to, with its items
tracing_rehearsed : (r : Rules) (i : System) (s : Sitting) (state : ℕ) → IsTracing r i s state → IsRehearsed r i s
tracing_rehearsed r i s state tracing = record { trace = (state, tracing.ends); strange = tracing.strange; sound = tracing.sound }

along_rehearsed : {C R : Type 0} (r : Rules) (i : System) (p : Playing C (Simulated R)) → IsAlong r i p → IsRehearsed r i p.seat.sitting
along_rehearsed r i p along = tracing_rehearsed r i p.seat.sitting p.link.place.at (rw along.system at along.tracing)

module _ {C R : Type 0} (answer : C → List ℕ → List Item → Choice × C) (step : R → ℕ × R) where
  -- a deed that was refused
  refused_along : (r : Rules) (i : System) (m q : Playing C (Simulated R)) (error : WalkError) → IsAlong r i m → Refused answer (GivesAny step) m error q → Refused answer (GivesSimulated step) m error q × IsRehearsed r i q.seat.sitting
  refused_along r i m q error along (inl (c, asked, refuses, same)) = (inl (c, asked, refuses, same), rw same (along_rehearsed r i m along))
  refused_along r i m q error along (inr (act, (due, gives, gains, chooser), refuses, same)) =
      let made = due_simulated step r m.link q.link m.seat.sitting act m.seat.sitting.phase along.inputs along.texts along.tracing refl (rw along.rules at due) gives in
      (inr (act, (due, made, gains, chooser), refuses, same), rw same (along_rehearsed r i m along))

  -- a drive that didn't break
  pub driven_along : (r : Rules) (i : System) (p q : Playing C (Simulated R)) (result : Result Verdict WalkError) → IsAlong r i p → IsLoggedDrive answer (GivesAny step) p (drive_result result) q →
      IsLoggedDrive answer (GivesSimulated step) p (drive_result result) q × IsRehearsed r i q.seat.sitting
  driven_along r i p q (Ok verdict) along (logged, done) =
      let made = logged_along answer step r i p q along logged in
      ((made.0, done), along_rehearsed r i q made.1)
  driven_along r i p q (Err (WalkFull reached)) along (m, logged, stopped) =
      let made = logged_along answer step r i p m along logged in
      let refused = refused_along r i m q (WalkFull reached) made.1 stopped in
      ((m, made.0, refused.0), refused.1)
  driven_along r i p q (Err WalkMemory) along (m, logged, stopped) =
      let made = logged_along answer step r i p m along logged in
      let refused = refused_along r i m q WalkMemory made.1 stopped in
      ((m, made.0, refused.0), refused.1)

-- a session at its opening, over a simulation at its start
pub begins_along : {C R : Type 0} (p : Seat) (c : C) (x : Simulated R) → p.sitting ≡ opening → AreJoined p.rules x → IsAlong p.rules x.system (over_simulation p c x)
begins_along p c x begins joined = record {
  rules = refl;
  simulated = joined.simulated;
  system = refl;
  inputs = joined.inputs;
  texts = joined.texts;
  tracing = rw begins (record { ends = rw joined.start (Leads-here x.system x.system.start); strange = refl; sound = IsAllowed-nil p.rules.mode p.rules.system });
}

-- a drive over a link without faults didn't break
pub not_broken : (r : Result Verdict DriveError) (old new : ToldLink) → new.faults ≡ 0 → IfErr r (λ e. e ≡ LinkBroke → LinkFails old new) → ¬ (r ≡ Err LinkBroke)
not_broken (Ok v) old new none broken is = cc is
not_broken (Err e) old new none broken is = no_fault (broken (cc is))
  where
    no_fault : ¬ LinkFails old new
    no_fault fails =
        let rose : min (old.faults + 1) (2 ^ 64 - 1) ≤ new.faults = fails.rose in
        let low : min (old.faults + 1) (2 ^ 64 - 1) ≤ 0 = subst (λ (n : ℕ). min (old.faults + 1) (2 ^ 64 - 1) ≤ n) none rose in
        omega (arith, low)

-- a whole drive from the opening
pub rehearsed_so : {C R : Type 0} (answer : C → List ℕ → List Item → Choice × C) (step : R → ℕ × R) (p q : Seat) (c d : C) (x y : Simulated R) (result : Result Verdict WalkError) (driven : Result Verdict DriveError) → p.sitting ≡ opening → AreJoined p.rules x →
    drive_result result ≡ driven → IsLoggedDrive answer (GivesAny step) (over_simulation p c x) driven (over_simulation q d y) → IsRehearsal answer step p c x result q d × IsRehearsed p.rules x.system q.sitting
rehearsed_so answer step p q c d x y result driven begins joined same drove =
    let made = driven_along answer step p.rules x.system (over_simulation p c x) (over_simulation q d y) result (begins_along p c x begins joined) (rw (← same) at drove) in
    (record { last = y; drove = made.0 }, made.1)

-- where the implementation conforms there is no violation to meet
pub conforming_sound : (r : Rules) (i : System) (s : Sitting) (k : ℕ) → IsRehearsed r i s → IsConforming r.mode i r.system → ¬ (s.phase ≡ Done (Fail k))
conforming_sound r i s k rehearsed conforming failed =
    let last : IsLastViolating r i s.items = rw failed at rehearsed.sound in
    conforming last.σ last.x last.violation
