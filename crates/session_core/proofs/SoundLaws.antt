-- A session goes on over its walk.
use Rattle.std.proofs.Common.{◌≡◌, ℕ, ◌+◌, ◌<◌, ◌≤◌, ◌↔◌, ◌⊎◌, inl, inr, Bool, IsTrue, List, [], ◌∷◌, ◌++◌, length, All, None, refl, sym, ◌∙◌, ap, arith}
use Rattle.std.proofs.lemmas.List.{length_push}
use Rattle.std.proofs.lemmas.List.Elements.{All-nil, All-push}
use Rattle.lts_base.specs.declared.item.Item.{Item}
use Rattle.lts_base.specs.declared.item.Item.TheVariants.{Input, Output, Delta}
use Rattle.lts_base.specs.declared.item.Mode.{Mode}
use Rattle.lts_base.specs.System.{System, IsItemOf, label_count}
use Rattle.lts_base.specs.Alphabet.{Alphabet, IsAlphabet, IsOver}
use Rattle.lts_base.specs.Conformance.{IsAllowed}
use Rattle.lts_base.proofs.SetLaws.{Has-item}
use Rattle.lts_base.proofs.AllowedLaws.{IsAllowed-has, IsAllowed-nil}
use Rattle.log_text.specs.declared.limits.TheConstants.{MOST_STEPS, MOST_PATIENCE}
use Rattle.session_core.specs.declared.phase.Phase.{Phase}
use Rattle.session_core.specs.declared.phase.Phase.TheVariants.{Ask, Look, Send, Hear, Done}
use Rattle.session_core.specs.declared.verdict.Verdict.{Verdict}
use Rattle.session_core.specs.declared.verdict.Verdict.TheVariants.{Pass, Fail}
use Rattle.session_core.specs.declared.setup.Setup.{Setup}
use Rattle.session_core.specs.Told.{Told, Chosen, Line, Idle, IdleMid, TooLong, End, Sent}
use Rattle.session_core.specs.Table.{Rules, Sitting, Offered, IsOver as IsAll, IsOpen, Settles, Turn, TurnIn, opening}
use Rattle.session_core.specs.Fuel.{IsGoing, IsGoingIn, IsGoingOn}
use Rattle.session_core.specs.Fitting.{CanCome}
use Rattle.session_core.specs.Offers.{AreBelow, AreOffers}
use Rattle.session_core.specs.Kept.{Kept}
use Rattle.session_core.specs.Seat.{rules_of}
use Rattle.session_core.specs.Placed.{IsAt}
use Rattle.session_core.specs.Sound.{IsChosen, AreRules, IsSound, PhaseAfter}
use Rattle.session_core.proofs.BoundLaws.{opening_going, turn_less}
use Rattle.session_core.proofs.OfferLaws.{offers_of}
use Rattle.walk_core.specs.Walked.{Walked, IsWalk, IsFresh, set_at}
use Rattle.lts_base.specs.After.{IsSetAfter}

-- a session that isn't done goes on
pub going_in : (p : Phase) (r : Rules) (s : Sitting) → IsOpen p → IsGoingIn p r s → IsGoing r s
going_in Ask r s opened going = going
going_in (Look a) r s opened going = going
going_in (Send a) r s opened going = going
going_in Hear r s opened going = going
going_in (Done v) r s opened going = absurd opened

pub going_of : (w : Walked) (a : Alphabet) (r : Rules) (kept : Kept) (here next : ℕ) (offers : List ℕ) → IsSound w a r kept here next offers → IsOpen kept.sitting.phase → IsGoing r kept.sitting
going_of w a r kept here next offers sound opened = going_in kept.sitting.phase r kept.sitting opened sound.going

-- the rules over the same system are the same
pub rules_same : (w v : Walked) (a : Alphabet) (setup : Setup) → v.system ≡ w.system → rules_of v a setup ≡ rules_of w a setup
rules_same w v a setup e = rw e refl

pub rules_kept : (w v : Walked) (a : Alphabet) (r : Rules) → v.system ≡ w.system → AreRules w a r → AreRules v a r
rules_kept w v a r e rules = record {
  system = rules.system ∙ sym e;
  inputs = rules.inputs;
  texts = rules.texts;
  count = rules.count;
  patience = rules.patience;
  patient = rules.patient;
  steps = rules.steps;
  few = rules.few;
}

pub rules_new : (w : Walked) (a : Alphabet) (setup : Setup) → IsAlphabet a → IsOver a w.system → 1 ≤ setup.patience → setup.patience ≤ MOST_PATIENCE → 1 ≤ setup.steps → setup.steps ≤ MOST_STEPS → AreRules w a (rules_of w a setup)
rules_new w a setup alphabet over patience patient steps few = record {
  system = refl;
  inputs = over.inputs;
  texts = refl;
  count = omega (arith, alphabet.inputs, over.inputs, over.outputs);
  patience = patience;
  patient = patient;
  steps = steps;
  few = few;
}

-- the item at the end of a node's trace is one of the alphabet
pub item_at : (w : Walked) (mode : Mode) (k : ℕ) (σ : List Item) (x : Item) → IsAt w mode k (σ ++ x ∷ []) → IsItemOf w.system x
item_at w mode k σ x at = Has-item w.system σ x at.walk.system (IsAllowed-has mode w.system (σ ++ x ∷ []) at.allowed)

pub items_push : (s : System) (σ : List Item) (x : Item) → All (IsItemOf s) σ → IsItemOf s x → All (IsItemOf s) (σ ++ x ∷ [])
items_push s σ x items item = All-push (IsItemOf s) σ x items item

-- the node of the opening set is that of no items
pub at_opening : (w : Walked) (mode : Mode) (k : ℕ) → IsWalk w → k < length w.sets → IsSetAfter w.system [] (set_at w.sets k) → IsAt w mode k []
at_opening w mode k walk within set = record { walk = walk; within = within; set = set; allowed = IsAllowed-nil mode w.system }

pub sound_new : (w : Walked) (a : Alphabet) (r : Rules) (room here next : ℕ) (offers : List ℕ) → AreRules w a r → room ≡ r.steps → IsAt w r.mode here [] →
    AreBelow (λ i. IsAllowed r.mode w.system (Input i ∷ [])) a.inputs offers → IsSound w a r (record { sitting = opening; room = room }) here next offers
sound_new w a r room here next offers rules long at below = record {
  rules = rules;
  room = long;
  at = λ h. at;
  chosen = tt;
  offered = λ h. offers_of w r a.inputs here [] offers rules.system (rw rules.system at rules.inputs) at below;
  going = opening_going r rules.patience rules.steps;
  strange = λ h. refl;
  items = All-nil (IsItemOf r.system);
}

-- the session goes on with the same items
pub sound_same : (w : Walked) (a : Alphabet) (r : Rules) (kept : Kept) (here next : ℕ) (offers : List ℕ) (t : Sitting) → IsSound w a r kept here next offers → IsOpen kept.sitting.phase →
    t.items ≡ kept.sitting.items → t.strange ≡ kept.sitting.strange → IsChosen w r.mode t.phase next t.items → IsGoingOn r t → IsSound w a r (record { sitting = t; room = kept.room }) here next offers
sound_same w a r kept here next offers t sound opened items strange chosen going = record {
  rules = sound.rules;
  room = sound.room;
  at = λ h. rw items (sound.at opened);
  chosen = chosen;
  offered = λ h. rw items (sound.offered opened);
  going = going;
  strange = λ h. strange ∙ sound.strange opened;
  items = rw items sound.items;
}

-- an item was logged, and the session is done
pub sound_done : (w : Walked) (a : Alphabet) (r : Rules) (kept : Kept) (here next : ℕ) (offers : List ℕ) (after : Kept) (x : Item) (mid k : ℕ) (v : Verdict) → IsSound w a r kept here next offers → IsItemOf r.system x →
    after.sitting ≡ record kept.sitting { phase = Done v; items = kept.sitting.items ++ x ∷ []; mid = mid } → after.room ≡ kept.room → IsSound w a r after k next offers
sound_done w a r kept here next offers after x mid k v sound item is room = record {
  rules = sound.rules;
  room = room ∙ sound.room;
  at = λ h. absurd (rw is at h);
  chosen = rw is tt;
  offered = λ h. absurd (rw is at h);
  going = rw is tt;
  strange = λ h. absurd (rw is at h);
  items = rw is (items_push r.system kept.sitting.items x sound.items item);
}

-- an input of the alphabet that is allowed is offered
pub offered_in : (w : Walked) (r : Rules) (a : ℕ) (σ : List Item) → r.system ≡ w.system → IsAllowed r.mode w.system (σ ++ Input a ∷ []) → Offered r σ a
unfolding Offered
offered_in w r a σ same allowed = rw same allowed

pub allowed_in : (w : Walked) (r : Rules) (a : ℕ) (σ : List Item) → r.system ≡ w.system → Offered r σ a → IsAllowed r.mode w.system (σ ++ Input a ∷ [])
unfolding Offered
allowed_in w r a σ same offered = rw same at offered

-- what isn't an input isn't offered
pub no_input : (w : Walked) (r : Rules) (a k : ℕ) (σ : List Item) → r.system ≡ w.system → IsAt w r.mode k σ → r.system.inputs ≤ a → ¬ Offered r σ a
no_input w r a k σ same at over offered =
    let inside : a < w.system.inputs = Has-item w.system σ (Input a) at.walk.system (IsAllowed-has r.mode w.system (σ ++ Input a ∷ []) (allowed_in w r a σ same offered)) in
    let high : w.system.inputs ≤ a = rw same at over in
    omega (arith, inside, high)

-- an item was logged, and there are to be more
pub sound_logged : (w : Walked) (a : Alphabet) (r : Rules) (kept : Kept) (here next : ℕ) (offers : List ℕ) (after : Kept) (x : Item) (mid k m : ℕ) (news : List ℕ) → IsSound w a r kept here next offers → IsOpen kept.sitting.phase →
    mid ≤ kept.sitting.mid → IsAt w r.mode k (kept.sitting.items ++ x ∷ []) → (¬ IsAll r (kept.sitting.items ++ x ∷ [])) →
    after.sitting ≡ record kept.sitting { phase = Ask; items = kept.sitting.items ++ x ∷ []; mid = mid } → after.room ≡ kept.room →
    AreBelow (λ i. IsAllowed r.mode w.system ((kept.sitting.items ++ x ∷ []) ++ Input i ∷ [])) a.inputs news → IsSound w a r after k m news
sound_logged w a r kept here next offers after x mid k m news sound opened low at more is room below =
    let going = going_of w a r kept here next offers sound opened in
    let long : length (kept.sitting.items ++ x ∷ []) ≡ length kept.sitting.items + 1 = length_push kept.sitting.items x in
    let unequal : ¬ (length (kept.sitting.items ++ x ∷ []) ≡ r.steps) = λ same. more (inl same) in
    record {
      rules = sound.rules;
      room = room ∙ sound.room;
      at = λ h. rw is at;
      chosen = rw is tt;
      offered = λ h. rw is (offers_of w r a.inputs k (kept.sitting.items ++ x ∷ []) news sound.rules.system (rw sound.rules.system at sound.rules.inputs) at below);
      going = rw is (record { items = short (length kept.sitting.items) (length (kept.sitting.items ++ x ∷ [])) r.steps going.items long unequal; mid = omega (arith, low, going.mid); idles = λ h. cc });
      strange = λ h. rw is (sound.strange opened);
      items = rw (is, sound.rules.system) (items_push w.system kept.sitting.items x (rw sound.rules.system at sound.items) (item_at w r.mode k kept.sitting.items x at));
    }
  where
    short : (a b c : ℕ) → a < c → b ≡ a + 1 → (b ≡ c → ⊥) → b < c
    short a b c h e unequal = grind (arith, h, e, unequal)

-- the walk made a step
chosen_kept : (w v : Walked) (mode : Mode) (p : Phase) (next : ℕ) (σ : List Item) → ((k : ℕ) (τ : List Item) → IsAt w mode k τ → IsAt v mode k τ) → IsChosen w mode p next σ → IsChosen v mode p next σ
chosen_kept w v mode Ask next σ kept chosen = tt
chosen_kept w v mode (Look a) next σ kept chosen = kept next (σ ++ Input a ∷ []) chosen
chosen_kept w v mode (Send a) next σ kept chosen = kept next (σ ++ Input a ∷ []) chosen
chosen_kept w v mode Hear next σ kept chosen = tt
chosen_kept w v mode (Done d) next σ kept chosen = tt

pub sound_kept : (w v : Walked) (a : Alphabet) (setup : Setup) (kept : Kept) (here next : ℕ) (offers : List ℕ) → v.system ≡ w.system → ((k : ℕ) (τ : List Item) → IsAt w setup.mode k τ → IsAt v setup.mode k τ) →
    IsSound w a (rules_of w a setup) kept here next offers → IsSound v a (rules_of v a setup) kept here next offers
sound_kept w v a setup kept here next offers same grows sound =
    rw (rules_same w v a setup same) (record {
      rules = rules_kept w v a (rules_of w a setup) same sound.rules;
      room = sound.room;
      at = λ h. grows here kept.sitting.items (sound.at h);
      chosen = chosen_kept w v setup.mode kept.sitting.phase next kept.sitting.items grows sound.chosen;
      offered = sound.offered;
      going = sound.going;
      strange = sound.strange;
      items = sound.items;
    })

-- the step for a chosen input was made
pub sound_look : (w v : Walked) (a : Alphabet) (setup : Setup) (kept : Kept) (here next : ℕ) (offers : List ℕ) (after : Kept) (i k : ℕ) → v.system ≡ w.system → ((k : ℕ) (τ : List Item) → IsAt w setup.mode k τ → IsAt v setup.mode k τ) →
    IsSound w a (rules_of w a setup) kept here next offers → kept.sitting.phase ≡ Ask → IsAt v setup.mode k (kept.sitting.items ++ Input i ∷ []) → after.sitting ≡ record kept.sitting { phase = Look i } → after.room ≡ kept.room →
    IsSound v a (rules_of v a setup) after here k offers
sound_look w v a setup kept here next offers after i k same grows sound asks at is room =
    let opened : IsOpen kept.sitting.phase = rw asks tt in
    let going = going_of w a (rules_of w a setup) kept here next offers sound opened in
    rw (rules_same w v a setup same) (record {
      rules = rules_kept w v a (rules_of w a setup) same sound.rules;
      room = room ∙ sound.room;
      at = λ h. rw is (grows here kept.sitting.items (sound.at opened));
      chosen = rw is at;
      offered = λ h. rw is (sound.offered opened);
      going = rw is (record { items = going.items; mid = going.mid; idles = λ h. cc });
      strange = λ h. rw is (sound.strange opened);
      items = rw is sound.items;
    })
