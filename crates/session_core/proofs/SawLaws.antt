-- What was observed is logged.
use Rattle.std.proofs.Common.{◌≡◌, ℕ, ◌+◌, ◌<◌, ◌≤◌, ◌↔◌, ◌⊎◌, inl, inr, Bool, IsTrue, List, [], ◌∷◌, ◌++◌, length, None, Some, refl, sym, ◌∙◌, arith, false, true}
use Rattle.std.proofs.lemmas.List.{length_push}
use Rattle.lts_base.specs.declared.item.Item.{Item}
use Rattle.lts_base.specs.declared.item.Item.TheVariants.{Input, Output, Delta}
use Rattle.lts_base.specs.declared.item.Mode.{Mode}
use Rattle.lts_base.specs.System.{System, IsSystem, IsItemOf, label_count}
use Rattle.lts_base.specs.Alphabet.{Alphabet, text_at}
use Rattle.lts_base.specs.After.{IsSetAfter, ShowsAfter}
use Rattle.lts_base.specs.Conformance.{IsAllowed}
use Rattle.lts_base.proofs.SetLaws.{Shows-from_after}
use Rattle.lts_base.proofs.AllowedLaws.{IsAllowed-push}
use Rattle.session_core.specs.declared.verdict.Verdict.TheVariants.{Pass, Fail}
use Rattle.session_core.specs.declared.phase.Phase.{Phase}
use Rattle.session_core.specs.declared.phase.Phase.TheVariants.{Ask, Look, Send, Hear, Done}
use Rattle.session_core.specs.Told.{Told, Chosen, Line, Idle, IdleMid, TooLong, End, Sent}
use Rattle.session_core.specs.Table.{Rules, Sitting, Shown, IsOver, IsOpen, IsTextOf, IsStrange, Heard, Quiet, Settles, Observed, Turn, TurnIn}
use Rattle.session_core.specs.Fitting.{CanCome}
use Rattle.session_core.specs.Kept.{Kept}
use Rattle.session_core.specs.Placed.{IsAt}
use Rattle.walk_core.specs.declared.walk.WalkError.{WalkError}
use Rattle.session_core.specs.Seat.{Counts, RefusesTrace}
use Rattle.session_core.specs.Sound.{IsChosen, AreRules, IsSound, IsSeen, Saw, SawIn, RefusesShown}
use Rattle.session_core.specs.Fuel.{IsGoing, IsGoingOn}
use Rattle.session_core.specs.Offers.{AreBelow, AreOffers}
use Rattle.session_core.proofs.SoundLaws.{going_of}
use Rattle.session_core.proofs.OfferLaws.{offers_of}
use Rattle.walk_core.specs.Walked.{Walked, set_at}

-- what is shown is allowed
pub seen_allowed : (w : Walked) (mode : Mode) (k : ℕ) (σ : List Item) (x : Item) → IsAt w mode k σ → IsItemOf w.system x → IsSeen x → ShowsAfter w.system σ x → IsAllowed mode w.system (σ ++ x ∷ [])
seen_allowed w mode k σ (Input a) at item seen shown = absurd seen
seen_allowed w mode k σ (Output a) at item seen shown = IsAllowed-push mode w.system σ (Output a) (set_at w.sets k) at.walk.system item at.set at.allowed (Shows-from_after w.system σ (set_at w.sets k) (Output a) at.set shown)
seen_allowed w mode k σ Delta at item seen shown = IsAllowed-push mode w.system σ Delta (set_at w.sets k) at.walk.system item at.set at.allowed (Shows-from_after w.system σ (set_at w.sets k) Delta at.set shown)

-- an item is logged, and the items are all or not
pub settles_pass : (r : Rules) (s t : Sitting) (x : Item) → IsOver r (s.items ++ x ∷ []) → t ≡ record s { phase = Done Pass; items = s.items ++ x ∷ [] } → Settles r s x t
settles_pass r s t x over e = inl (over, e)

pub settles_ask : (r : Rules) (s t : Sitting) (x : Item) → (¬ IsOver r (s.items ++ x ∷ [])) → t ≡ record s { phase = Ask; items = s.items ++ x ∷ [] } → Settles r s x t
settles_ask r s t x more e = inr (more, e)

pub saw_shown : (r : Rules) (s t : Sitting) (x : Item) → ShowsAfter r.system s.items x → Settles r s x t → Saw r s x t
unfolding Shown
saw_shown r s t x shown settles = inl (shown, settles)

pub saw_other : (r : Rules) (s t : Sitting) (x : Item) → (¬ ShowsAfter r.system s.items x) → t ≡ record s { phase = Done (Fail (length s.items + 1)); items = s.items ++ x ∷ [] } → Saw r s x t
unfolding Shown
saw_other r s t x unshown e = inr (unshown, e)

-- quiescence that was observed
pub saw_quiet : (r : Rules) (s t : Sitting) → s.strange ≡ None → Saw r s Delta t → Observed r s Quiet t
saw_quiet r s t none (inl (shown, settles)) = inl (Delta, (refl, shown), settles)
saw_quiet r s t none (inr (unshown, e)) = inr (s.items ++ Delta ∷ [], None, (unshown, refl, refl), rw none at e)

-- a line that was observed, which is an output or a strange text
pub saw_line : (r : Rules) (s t : Sitting) (text : List ℕ) (k : ℕ) → s.strange ≡ None → r.system.inputs ≤ k → k < length r.texts → text_at r.texts k ≡ text → Saw r s (Output k) t → Observed r s (Heard text) t
unfolding IsTextOf
saw_line r s t text k none low high same (inl (shown, settles)) = inl (Output k, ((k, low, high, same, refl), shown), settles)
saw_line r s t text k none low high same (inr (unshown, e)) = inr (s.items ++ Output k ∷ [], None, inl (Output k, (k, low, high, same, refl), unshown, refl, refl), rw none at e)

pub saw_strange : (r : Rules) (s t : Sitting) (text : List ℕ) → ((k : ℕ) → r.system.inputs ≤ k → k < length r.texts → text_at r.texts k ≡ text → ⊥) →
    t ≡ record s { phase = Done (Fail (length s.items + 1)); strange = Some text } → Observed r s (Heard text) t
unfolding IsStrange
saw_strange r s t text none e = inr (s.items, Some text, inr (none, refl, refl), e)

-- a line, where one may come
pub line_turn : (p : Phase) (r : Rules) (s t : Sitting) (text : List ℕ) → CanCome p (Line text) → Observed r (record s { mid = 0 }) (Heard text) t → TurnIn p r s (Line text) t
line_turn Ask r s t text can observed = absurd can
line_turn (Look a) r s t text can observed = observed
line_turn (Send a) r s t text can observed = absurd can
line_turn Hear r s t text can observed = observed
line_turn (Done v) r s t text can observed = absurd can

-- where a line may come, the session isn't done
pub open_line : (p : Phase) (text : List ℕ) → CanCome p (Line text) → IsOpen p
open_line Ask text can = tt
open_line (Look a) text can = tt
open_line (Send a) text can = tt
open_line Hear text can = tt
open_line (Done v) text can = absurd can

-- what is shown is stepped to, or refused; what isn't is not
pub saw_in_shown : (r : Rules) (old new : Walked) (σ : List Item) (x : Item) → ShowsAfter r.system σ x → Counts old new (σ ++ x ∷ []) → SawIn r old new σ x
unfolding Shown
saw_in_shown r old new σ x shown counts = inl (shown, counts)

pub saw_in_other : (r : Rules) (old new : Walked) (σ : List Item) (x : Item) → (¬ ShowsAfter r.system σ x) → new ≡ old → SawIn r old new σ x
unfolding Shown
saw_in_other r old new σ x unshown stays = inr (unshown, stays)

pub refuses_shown : (r : Rules) (w : Walked) (σ : List Item) (x : Item) (error : WalkError) → ShowsAfter r.system σ x → RefusesTrace w (σ ++ x ∷ []) error → RefusesShown r w σ x error
unfolding Shown
refuses_shown r w σ x error shown refuses = (shown, refuses)

-- an idle read that isn't before an input is one of a hearing
pub hears_idle : (p : Phase) → CanCome p Idle → ((a : ℕ) → p ≡ Look a → ⊥) → p ≡ Hear
hears_idle Ask can other = absurd can
hears_idle (Look a) can other = absurd (other a refl)
hears_idle (Send a) can other = absurd can
hears_idle Hear can other = refl
hears_idle (Done v) can other = absurd can
