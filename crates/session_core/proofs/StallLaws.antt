-- A session stalls at an idle answer alone.
use Rattle.std.proofs.Common.{◌≡◌, ℕ, List, IsTrue, Result, Ok, Err, IfOk, OnOk, inl, inr, ◌⊎◌, refl, ap}
use Rattle.lts_base.specs.declared.item.Item.{Item}
use Rattle.edge_io.specs.declared.act.Heard.{Heard}
use Rattle.edge_io.specs.declared.act.Heard.TheVariants.{Line as HeardLine, Idle as HeardIdle, IdleMid as HeardMid, TooLong as HeardLong, End as HeardEnd}
use Rattle.edge_io.specs.declared.act.Act.{Act}
use Rattle.edge_io.specs.Links.{ToldLink, KeepsLink, LinkIdles, is_idle}
use Rattle.edge_io.proofs.OutsideLaws.{Rose-after, Rose-before}
use Rattle.walk_core.specs.declared.choice.Choice.{Choice}
use Rattle.walk_core.specs.declared.choice.Choice.TheVariants.{Input as Ask_input, Observe}
use Rattle.session_core.specs.declared.phase.Phase.{Phase}
use Rattle.session_core.specs.declared.phase.Phase.TheVariants.{Ask, Look, Send, Hear, Done}
use Rattle.session_core.specs.declared.verdict.Verdict.TheVariants.{Pass, Fail, Ended, Stalled, Long}
use Rattle.session_core.specs.Told.{Told, Chosen, Line, Idle, IdleMid, TooLong, End, Sent}
use Rattle.session_core.specs.declared.verdict.Verdict.{Verdict}
use Rattle.session_core.specs.declared.turn.DriveError.{DriveError}
use Rattle.session_core.specs.Table.{Rules, Sitting, Given, Heard as HeardText, Settles, Observed, TurnIn, opening}
use Rattle.session_core.specs.Driven.{Playing, IsDriven, told_of}
use Rattle.session_core.specs.Seat.{Seat, Takes}
use Rattle.session_core.specs.Stalls.{StallsIdle}

-- what is logged or fails doesn't stall
settles_none : (r : Rules) (s : Sitting) (x : Item) (t : Sitting) → Settles r s x t → ¬ (t.phase ≡ Done Stalled)
settles_none r s x t (inl (over, e)) stalled = let same : Done Pass ≡ Done Stalled = rw e at stalled in cc same
settles_none r s x t (inr (on, e)) stalled = let same : Ask ≡ Done Stalled = rw e at stalled in cc same

observed_none : (r : Rules) (s : Sitting) (given : Given) (t : Sitting) → Observed r s given t → ¬ (t.phase ≡ Done Stalled)
observed_none r s given t (inl (x, logged, settles)) stalled = settles_none r s x t settles stalled
observed_none r s given t (inr (τ, strange, failed, e)) stalled = let same : Done (Fail _) ≡ Done Stalled = rw e at stalled in cc same

line_none : (p : Phase) (r : Rules) (s t : Sitting) (text : List ℕ) → TurnIn p r s (Line text) t → ¬ (t.phase ≡ Done Stalled)
line_none Ask r s t text turn stalled = turn
line_none (Look a) r s t text turn stalled = observed_none r (record s { mid = 0 }) (HeardText text) t turn stalled
line_none (Send a) r s t text turn stalled = turn
line_none Hear r s t text turn stalled = observed_none r (record s { mid = 0 }) (HeardText text) t turn stalled
line_none (Done v) r s t text turn stalled = turn

long_none : (p : Phase) (r : Rules) (s t : Sitting) (text : List ℕ) → TurnIn p r s (TooLong text) t → ¬ (t.phase ≡ Done Stalled)
long_none Ask r s t text turn stalled = turn
long_none (Look a) r s t text turn stalled = let same : Done Long ≡ Done Stalled = rw turn at stalled in cc same
long_none (Send a) r s t text turn stalled = turn
long_none Hear r s t text turn stalled = let same : Done Long ≡ Done Stalled = rw turn at stalled in cc same
long_none (Done v) r s t text turn stalled = turn

end_none : (p : Phase) (r : Rules) (s t : Sitting) (text : List ℕ) → TurnIn p r s (End text) t → ¬ (t.phase ≡ Done Stalled)
end_none Ask r s t text turn stalled = turn
end_none (Look a) r s t text turn stalled = let same : Done Ended ≡ Done Stalled = rw turn at stalled in cc same
end_none (Send a) r s t text turn stalled = turn
end_none Hear r s t text turn stalled = let same : Done Ended ≡ Done Stalled = rw turn at stalled in cc same
end_none (Done v) r s t text turn stalled = turn

chosen_none : (p : Phase) (r : Rules) (s t : Sitting) (c : Choice) → TurnIn p r s (Chosen c) t → ¬ (t.phase ≡ Done Stalled)
chosen_none Ask r s t (Ask_input a) (inl (offered, e)) stalled = let same : Look a ≡ Done Stalled = rw e at stalled in cc same
chosen_none Ask r s t (Ask_input a) (inr (other, e)) stalled = let same : Hear ≡ Done Stalled = rw e at stalled in cc same
chosen_none Ask r s t Observe e stalled = let same : Hear ≡ Done Stalled = rw e at stalled in cc same
chosen_none (Look a) r s t c turn stalled = turn
chosen_none (Send a) r s t c turn stalled = turn
chosen_none Hear r s t c turn stalled = turn
chosen_none (Done v) r s t c turn stalled = turn

sent_none : (p : Phase) (r : Rules) (s t : Sitting) → TurnIn p r s Sent t → ¬ (t.phase ≡ Done Stalled)
sent_none Ask r s t turn stalled = turn
sent_none (Look a) r s t turn stalled = turn
sent_none (Send a) r s t turn stalled = settles_none r s _ t turn stalled
sent_none Hear r s t turn stalled = turn
sent_none (Done v) r s t turn stalled = turn

-- an answer at which a session stalls is an idle one
heard_idle : (p : Phase) (r : Rules) (s t : Sitting) (heard : Heard) (text : List ℕ) → TurnIn p r s (told_of heard text) t → t.phase ≡ Done Stalled → IsTrue (is_idle heard)
heard_idle p r s t HeardLine text turn stalled = absurd (line_none p r s t text turn stalled)
heard_idle p r s t HeardIdle text turn stalled = refl
heard_idle p r s t HeardMid text turn stalled = refl
heard_idle p r s t HeardLong text turn stalled = absurd (long_none p r s t text turn stalled)
heard_idle p r s t HeardEnd text turn stalled = absurd (end_none p r s t text turn stalled)

-- the events of a turn
pub stalls_heard : (p q : Seat) (old new : ToldLink) (heard : Heard) (text : List ℕ) → Takes p (told_of heard text) q → (IsTrue (is_idle heard) → LinkIdles old new) → StallsIdle p.sitting.phase old q.sitting.phase new
stalls_heard p q old new heard text takes idle stalled = inr (idle (heard_idle p.sitting.phase p.rules p.sitting q.sitting heard text takes.turn stalled))

pub stalls_chosen : (p q : Seat) (old new : ToldLink) (c : Choice) → Takes p (Chosen c) q → StallsIdle p.sitting.phase old q.sitting.phase new
stalls_chosen p q old new c takes stalled = absurd (chosen_none p.sitting.phase p.rules p.sitting q.sitting c takes.turn stalled)

pub stalls_sent : (p q : Seat) (old new : ToldLink) → Takes p Sent q → StallsIdle p.sitting.phase old q.sitting.phase new
stalls_sent p q old new takes stalled = absurd (sent_none p.sitting.phase p.rules p.sitting q.sitting takes.turn stalled)

-- turns one after the other
pub stalls_next : (p m q : Phase) (old mid new : ToldLink) → KeepsLink old mid → KeepsLink mid new → StallsIdle p old m mid → StallsIdle m mid q new → StallsIdle p old q new
stalls_next p m q old mid new before after first second stalled = go (second stalled)
  where
    late : LinkIdles old mid → LinkIdles old new
    late idles = record { rose = Rose-after old.idles mid.idles new.idles idles.rose after.idles }

    go : (m ≡ Done Stalled) ⊎ LinkIdles mid new → (p ≡ Done Stalled) ⊎ LinkIdles old new
    go (inl had) = elim (first had) [ inl was ↦ inl was | inr idles ↦ inr (late idles) ]
    go (inr idles) = inr (record { rose = Rose-before old.idles mid.idles new.idles before.idles idles.rose })

-- a session that was at its opening hadn't stalled
pub stalls_since : (p q : Phase) (old new : ToldLink) → p ≡ Ask → StallsIdle p old q new → q ≡ Done Stalled → LinkIdles old new
stalls_since p q old new opening stalls stalled = elim (stalls stalled) [ inl had ↦ absurd (other had) | inr idles ↦ idles ]
  where
    other : ¬ (p ≡ Done Stalled)
    other had = let same : Ask ≡ Done Stalled = rw opening at had in cc same

-- a drive from the opening that has stalled
pub drive_stalls : {C S : Type 0} (answer : C → List ℕ → List Item → Choice × C) (gives : S → Act → S → Type 0) (p q : Playing C S) (old new : ToldLink) (result : Result Verdict DriveError) →
    p.seat.sitting ≡ opening → IsDriven answer gives p result q → OnOk result (StallsIdle p.seat.sitting.phase old q.seat.sitting.phase new) → IfOk result (λ v. v ≡ Stalled → LinkIdles old new)
drive_stalls answer gives p q old new (Ok v) begins (played, ended) stalls =
    λ is. stalls_since p.seat.sitting.phase q.seat.sitting.phase old new (ap (λ (s : Sitting). s.phase) begins) stalls (rw is at ended)
drive_stalls answer gives p q old new (Err e) begins driven stalls = tt
