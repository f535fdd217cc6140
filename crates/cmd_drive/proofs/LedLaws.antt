-- What a link made of a session, from the drive over it.
use Rattle.std.proofs.Common.{◌≡◌, ◌∙◌, ℕ, ◌<◌, List, Option, Result, Ok, Err, IfErr, inl, inr, ◌⊎◌, IfOk, None, refl, sym, ap, subst}
use Rattle.edge_io.specs.declared.act.Act.{Act}
use Rattle.edge_io.specs.Dials.{Dial, ToldDialer, KeepsDialer, DialerFails, DialerIdles, IsNewLink, hung_up_of}
use Rattle.edge_io.specs.Links.{ToldLink, LinkFails, LinkIdles}
use Rattle.lts_base.specs.declared.memory.Memory.{Memory}
use Rattle.edge_io.specs.Outside.{Grew}
use Rattle.session_core.specs.declared.turn.DriveError.{DriveError}
use Rattle.session_core.specs.declared.turn.DriveError.TheVariants.{Broken as LinkBroke, Full as SetsFull, Memory as NoRoom}
use Rattle.session_core.specs.declared.verdict.Verdict.{Verdict}
use Rattle.session_core.specs.declared.verdict.Verdict.TheVariants.{Stalled}
use Rattle.session_core.specs.Driven.{at_once, IsLoggedDrive}
use Rattle.session_core.specs.Seat.{Seat}
use Rattle.session_core.specs.Table.{Rules, Sitting}
use Rattle.cmd_drive.specs.declared.guide.Guide.{Guide}
use Rattle.cmd_drive.specs.declared.outcome.DriveOutcome.{DriveOutcome}
use Rattle.cmd_drive.specs.declared.outcome.DriveOutcome.TheVariants.{Ended, Full, Broken}
use Rattle.cmd_drive.specs.Asked.{AskedDrive}
use Rattle.cmd_drive.specs.Guides.{answer_of}
use Rattle.cmd_drive.specs.Dialled.{dialled, dial_of, IsHungUp}
use Rattle.cmd_drive.specs.Given.{IsOver}
use Rattle.cmd_drive.specs.Drive.{IsLed, IsOpened, IsOutcomeOf}
use Rattle.cmd_drive.proofs.DialLaws.{failed_faults, waited_idles, hung_up_before}

-- an error that says so in a result
err_broken : (r : Result Verdict DriveError) (F : Type 0) → IfErr r (λ e. e ≡ LinkBroke → F) → r ≡ Err LinkBroke → F
err_broken (Ok v) F h is = absurd (cc is)
err_broken (Err e) F h is = h (cc is)

-- a new link that broke has a fault
broke_faults : (first last : ToldLink) (result : Result Verdict DriveError) (outcome : DriveOutcome) → IsNewLink first → IsOutcomeOf result outcome → IfErr result (λ e. e ≡ LinkBroke → LinkFails first last) → outcome ≡ Broken → 0 < last.faults
broke_faults first last (Ok v) outcome new is broken broke = absurd (other (sym is ∙ broke))
  where
    other : ¬ (Ended v ≡ Broken)
    other e = cc e
broke_faults first last (Err LinkBroke) outcome new is broken broke = failed_faults first last new.faults (err_broken (Err LinkBroke) (LinkFails first last) broken refl)
broke_faults first last (Err (SetsFull reached)) outcome new is broken broke = absurd (other (sym is ∙ broke))
  where
    other : ¬ (Full reached ≡ Broken)
    other e = cc e
broke_faults first last (Err NoRoom) outcome new is broken broke = absurd is

-- a verdict that says so in a result
ok_stalled : (v : Verdict) (F : Type 0) → (v ≡ Stalled → F) → Ended v ≡ Ended Stalled → F
ok_stalled v F h is = h (cc is)

-- a new link over which the session stalled was idle
stalled_idles : (first last : ToldLink) (result : Result Verdict DriveError) (outcome : DriveOutcome) → IsNewLink first → IsOutcomeOf result outcome → IfOk result (λ v. v ≡ Stalled → LinkIdles first last) → outcome ≡ Ended Stalled → 0 < last.idles
stalled_idles first last (Ok v) outcome new is stalls stalled = waited_idles first last new.idles (ok_stalled v (LinkIdles first last) stalls (sym is ∙ stalled))
stalled_idles first last (Err LinkBroke) outcome new is stalls stalled = absurd (other (sym is ∙ stalled))
  where
    other : ¬ (Broken ≡ Ended Stalled)
    other e = cc e
stalled_idles first last (Err (SetsFull reached)) outcome new is stalls stalled = absurd (other (sym is ∙ stalled))
  where
    other : ¬ (Full reached ≡ Ended Stalled)
    other e = cc e
stalled_idles first last (Err NoRoom) outcome new is stalls stalled = absurd is

-- a drive over a new link that was hung up
pub led_by : {S : Type 0} (gives : S → Act → S → Type 0) (old new : ToldDialer) (q : AskedDrive) (p e : Seat) (guide after : Guide) (before later : S) (first last : ToldLink) (result : Result Verdict DriveError) (outcome : DriveOutcome) →
    IsOpened q p.rules p → IsNewLink first → IsLoggedDrive answer_of gives (at_once p guide before first) result (at_once e after later last) → IsOutcomeOf result outcome → IfErr result (λ x. x ≡ LinkBroke → LinkFails first last) →
    IfOk result (λ v. v ≡ Stalled → LinkIdles first last) → Grew old.ended new.ended (hung_up_of last) → (last.faults ≡ 0) ⊎ DialerFails old new → (last.idles ≡ 0) ⊎ DialerIdles old new → IsLed (dialled gives old new) q p.rules guide outcome e.sitting
led_by {S} gives old new q p e guide after before later first last result outcome opened fresh drove is broken stalls grew fails waits = record {
  begin = at_once p guide before first;
  end = at_once e after later last;
  result = result;
  opened = opened;
  chooser = refl;
  no_acts = fresh.acts;
  drove = drove;
  outcome_is = is;
  sitting_is = refl;
  ended = record { faults = last.faults; idles = last.idles; entry = grew; broke = broke_faults first last result outcome fresh is broken; fails = fails; stalled = stalled_idles first last result outcome fresh is stalls; waits = waits };
}

-- the same for a result that tells the outcome
pub led_result : {S : Type 0} (gives : S → Act → S → Type 0) (old new : ToldDialer) (p e : Seat) (guide after : Guide) (before later : S) (first last : ToldLink) (result : Result Verdict DriveError) (r : Result DriveOutcome Memory) →
    IsNewLink first → IsLoggedDrive answer_of gives (at_once p guide before first) result (at_once e after later last) → IfOk r (IsOutcomeOf result) → IfErr result (λ x. x ≡ LinkBroke → LinkFails first last) →
    IfOk result (λ v. v ≡ Stalled → LinkIdles first last) → Grew old.ended new.ended (hung_up_of last) → (last.faults ≡ 0) ⊎ DialerFails old new → (last.idles ≡ 0) ⊎ DialerIdles old new →
    IfOk r (λ o. (q : AskedDrive) → IsOpened q p.rules p → IsLed (dialled gives old new) q p.rules guide o e.sitting)
led_result gives old new p e guide after before later first last result (Err memory) fresh drove is broken stalls grew fails waits = tt
led_result gives old new p e guide after before later first last result (Ok o) fresh drove is broken stalls grew fails waits =
    λ q opened. led_by gives old new q p e guide after before later first last result o opened fresh drove is broken stalls grew fails waits

-- a session that was led after a dial was led since before it
led_before : {S : Type 0} (gives : S → Act → S → Type 0) (old mid new : ToldDialer) (q : AskedDrive) (r : Rules) (guide : Guide) (outcome : DriveOutcome) (sitting : Sitting) → mid.ended ≡ old.ended → KeepsDialer old mid →
    IsLed (dialled gives mid new) q r guide outcome sitting → IsLed (dialled gives old new) q r guide outcome sitting
led_before gives old mid new q r guide outcome sitting same keeps h = record {
  begin = h.begin;
  end = h.end;
  result = h.result;
  opened = h.opened;
  chooser = h.chooser;
  no_acts = h.no_acts;
  drove = h.drove;
  outcome_is = h.outcome_is;
  sitting_is = h.sitting_is;
  ended = hung_up_before old mid new h.end.acts outcome same keeps h.ended;
}

-- a dial gave a link, which led the session
pub over_linked : {S : Type 0} (gives : S → Act → S → Type 0) (old mid new : ToldDialer) (q : AskedDrive) (p : Seat) (guide : Guide) (sitting : Sitting) (r : Result DriveOutcome Memory) → IsOpened q p.rules p →
    IfOk r (λ o. (asked : AskedDrive) → IsOpened asked p.rules p → IsLed (dialled gives mid new) asked p.rules guide o sitting) → Grew old.asked mid.asked (dial_of q None) → new.asked ≡ mid.asked → mid.ended ≡ old.ended → KeepsDialer old mid →
    IfOk r (λ o. IsOver (dialled gives old new) q p.rules guide o sitting)
over_linked gives old mid new q p guide sitting (Err memory) opened led dial asked ended keeps = tt
over_linked gives old mid new q p guide sitting (Ok o) opened led dial asked ended keeps =
    inr (subst (λ (a : Option (List Dial)). Grew old.asked a (dial_of q None)) (sym asked) dial, led_before gives old mid new q p.rules guide o sitting ended keeps (led q opened))
