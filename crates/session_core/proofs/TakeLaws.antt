-- What an event asks of the walk.
use Rattle.std.proofs.Common.{◌≡◌, ℕ, ◌+◌, ◌<◌, ◌≤◌, ◌⊎◌, inl, inr, List, [], ◌∷◌, ◌++◌, length, None, Some, refl, sym, ◌∙◌, arith}
use Rattle.lts_base.specs.declared.item.Item.{Item}
use Rattle.lts_base.specs.declared.item.Item.TheVariants.{Input, Output, Delta}
use Rattle.lts_base.specs.Alphabet.{Alphabet, IsAlphabet, text_at}
use Rattle.lts_base.proofs.UniqueLaws.{number_unique}
use Rattle.session_core.specs.declared.phase.Phase.{Phase}
use Rattle.session_core.specs.declared.phase.Phase.TheVariants.{Ask, Look, Send, Hear, Done}
use Rattle.walk_core.specs.declared.choice.Choice.{Choice}
use Rattle.walk_core.specs.declared.choice.Choice.TheVariants.{Input as Ask_input, Observe}
use Rattle.walk_core.specs.declared.walk.WalkError.{WalkError}
use Rattle.walk_core.specs.Walked.{Walked}
use Rattle.session_core.specs.Told.{Told, Chosen, Line, Idle, IdleMid, TooLong, End, Sent}
use Rattle.session_core.specs.Table.{Rules, Sitting, Offered, Shown, IsTextOf, Heard, Quiet, IsLogged, Turn, TurnIn}
use Rattle.session_core.specs.Reading.{IsOther}
use Rattle.session_core.specs.Fitting.{CanCome}
use Rattle.session_core.specs.Seat.{Seat, IsTraceLogged, AsksIn, Asks, Counts, RefusesTrace, Takes, Refuses}
use Rattle.session_core.specs.Sound.{SawIn, RefusesShown}

-- events that ask for no set
abbrev pub IsStill : Told → Type 0
IsStill (Chosen c) = ⊥
IsStill (Line text) = ⊥
IsStill Idle = ⊥
IsStill (IdleMid text) = Unit {0}
IsStill (TooLong text) = Unit {0}
IsStill (End text) = Unit {0}
IsStill Sent = Unit {0}

pub asks_none : (p : Phase) (r : Rules) (s : Sitting) (e : Told) (τ : List Item) → IsStill e → AsksIn p r s e τ → ⊥
asks_none p r s (Chosen c) τ still asks = absurd still
asks_none p r s (Line text) τ still asks = absurd still
asks_none p r s Idle τ still asks = absurd still
asks_none Ask r s (IdleMid text) τ still asks = asks
asks_none (Look a) r s (IdleMid text) τ still asks = asks
asks_none (Send a) r s (IdleMid text) τ still asks = asks
asks_none Hear r s (IdleMid text) τ still asks = asks
asks_none (Done v) r s (IdleMid text) τ still asks = asks
asks_none Ask r s (TooLong text) τ still asks = asks
asks_none (Look a) r s (TooLong text) τ still asks = asks
asks_none (Send a) r s (TooLong text) τ still asks = asks
asks_none Hear r s (TooLong text) τ still asks = asks
asks_none (Done v) r s (TooLong text) τ still asks = asks
asks_none Ask r s (End text) τ still asks = asks
asks_none (Look a) r s (End text) τ still asks = asks
asks_none (Send a) r s (End text) τ still asks = asks
asks_none Hear r s (End text) τ still asks = asks
asks_none (Done v) r s (End text) τ still asks = asks
asks_none Ask r s Sent τ still asks = asks
asks_none (Look a) r s Sent τ still asks = asks
asks_none (Send a) r s Sent τ still asks = asks
asks_none Hear r s Sent τ still asks = asks
asks_none (Done v) r s Sent τ still asks = asks

pub takes_still : (p q : Seat) (e : Told) → IsStill e → Turn p.rules p.sitting e q.sitting → q.rules ≡ p.rules → q.walked ≡ p.walked → Takes p e q
takes_still p q e still turn rules walked = record { turn = turn; rules = rules; walk = inr (λ τ asks. asks_none p.sitting.phase p.rules p.sitting e τ still asks, walked) }

-- a line asks for the set after what is logged
pub line_asks : (p : Phase) (r : Rules) (s : Sitting) (text : List ℕ) (τ : List Item) → CanCome p (Line text) → IsTraceLogged r s.items (Heard text) τ → AsksIn p r s (Line text) τ
line_asks Ask r s text τ can h = absurd can
line_asks (Look a) r s text τ can h = h
line_asks (Send a) r s text τ can h = absurd can
line_asks Hear r s text τ can h = h
line_asks (Done v) r s text τ can h = absurd can

pub line_asked : (p : Phase) (r : Rules) (s : Sitting) (text : List ℕ) (τ : List Item) → AsksIn p r s (Line text) τ → IsTraceLogged r s.items (Heard text) τ
line_asked Ask r s text τ asks = absurd asks
line_asked (Look a) r s text τ asks = asks
line_asked (Send a) r s text τ asks = absurd asks
line_asked Hear r s text τ asks = asks
line_asked (Done v) r s text τ asks = absurd asks

-- the text of an output is that of no other
pub text_once : (a : Alphabet) (r : Rules) (text : List ℕ) (k : ℕ) (x : Item) → IsAlphabet a → r.texts ≡ a.texts → k < length r.texts → text_at r.texts k ≡ text → IsTextOf r text x → x ≡ Output k
unfolding IsTextOf
text_once a r text k x alphabet texts high same (j, low, below, here, is) =
    let one : j ≡ k = number_unique a alphabet j k (rw texts at below) (rw texts at high) (rw texts at (here ∙ sym same)) in
    rw (is, one) refl

-- a line that is an output is taken
pub takes_line : (a : Alphabet) (p q : Seat) (text : List ℕ) (k : ℕ) → IsAlphabet a → p.rules.texts ≡ a.texts → CanCome p.sitting.phase (Line text) → p.rules.system.inputs ≤ k → k < length p.rules.texts → text_at p.rules.texts k ≡ text →
    Turn p.rules p.sitting (Line text) q.sitting → q.rules ≡ p.rules → SawIn p.rules p.walked q.walked p.sitting.items (Output k) → Takes p (Line text) q
unfolding IsTextOf
takes_line a p q text k alphabet texts can low high same turn rules (inl (shown, counts)) = record {
  turn = turn;
  rules = rules;
  walk = inl (p.sitting.items ++ Output k ∷ [], line_asks p.sitting.phase p.rules p.sitting text _ can (Output k, ((k, low, high, same, refl), shown), refl), counts);
}
takes_line a p q text k alphabet texts can low high same turn rules (inr (unshown, stays)) = record {
  turn = turn;
  rules = rules;
  walk = inr (λ τ asks. none τ (line_asked p.sitting.phase p.rules p.sitting text τ asks), stays);
}
  where
    none : (τ : List Item) → IsTraceLogged p.rules p.sitting.items (Heard text) τ → ⊥
    none τ (x, (is_text, shown), e) = unshown (rw (text_once a p.rules text k x alphabet texts high same is_text) at shown)

pub refuses_line : (p : Seat) (text : List ℕ) (k : ℕ) (error : WalkError) → CanCome p.sitting.phase (Line text) → p.rules.system.inputs ≤ k → k < length p.rules.texts → text_at p.rules.texts k ≡ text →
    RefusesShown p.rules p.walked p.sitting.items (Output k) error → Refuses p (Line text) error
unfolding IsTextOf
refuses_line p text k error can low high same (shown, refuses) =
    (p.sitting.items ++ Output k ∷ [], line_asks p.sitting.phase p.rules p.sitting text _ can (Output k, ((k, low, high, same, refl), shown), refl), refuses)

-- a line that is no output asks for nothing
pub takes_strange : (p q : Seat) (text : List ℕ) → ((k : ℕ) → p.rules.system.inputs ≤ k → k < length p.rules.texts → text_at p.rules.texts k ≡ text → ⊥) →
    Turn p.rules p.sitting (Line text) q.sitting → q.rules ≡ p.rules → q.walked ≡ p.walked → Takes p (Line text) q
unfolding IsTextOf
takes_strange p q text none turn rules stays = record {
  turn = turn;
  rules = rules;
  walk = inr (λ τ asks. hidden τ (line_asked p.sitting.phase p.rules p.sitting text τ asks), stays);
}
  where
    hidden : (τ : List Item) → IsTraceLogged p.rules p.sitting.items (Heard text) τ → ⊥
    hidden τ (x, ((k, low, high, same, is), shown), e) = none k low high same

-- a choice: an input that is offered is stepped to, and anything else asks for nothing
pub takes_choice : (p q : Seat) (a : ℕ) → p.sitting.phase ≡ Ask → Offered p.rules p.sitting.items a → Counts p.walked q.walked (p.sitting.items ++ Input a ∷ []) → Turn p.rules p.sitting (Chosen (Ask_input a)) q.sitting → q.rules ≡ p.rules → Takes p (Chosen (Ask_input a)) q
takes_choice p q a asks offered counts turn rules = record {
  turn = turn;
  rules = rules;
  walk = inl (p.sitting.items ++ Input a ∷ [], rw asks (offered, refl), counts);
}

pub refuses_choice : (p : Seat) (a : ℕ) (error : WalkError) → p.sitting.phase ≡ Ask → Offered p.rules p.sitting.items a → RefusesTrace p.walked (p.sitting.items ++ Input a ∷ []) error → Refuses p (Chosen (Ask_input a)) error
refuses_choice p a error asks offered refuses = (p.sitting.items ++ Input a ∷ [], rw asks (offered, refl), refuses)

pub takes_other : (p q : Seat) (c : Choice) → p.sitting.phase ≡ Ask → IsOther p.rules p.sitting.items c → Turn p.rules p.sitting (Chosen c) q.sitting → q.rules ≡ p.rules → q.walked ≡ p.walked → Takes p (Chosen c) q
takes_other p q c asks other turn rules stays = record {
  turn = turn;
  rules = rules;
  walk = inr (λ τ h. none c τ other (rw asks at h), stays);
}
  where
    none : (c : Choice) (τ : List Item) → IsOther p.rules p.sitting.items c → AsksIn Ask p.rules p.sitting (Chosen c) τ → ⊥
    none (Ask_input a) τ other h = other h.0
    none Observe τ other h = h

-- an idle read before an input goes out, and one that isn't the last
pub takes_look : (p q : Seat) (a : ℕ) → p.sitting.phase ≡ Look a → Turn p.rules p.sitting Idle q.sitting → q.rules ≡ p.rules → q.walked ≡ p.walked → Takes p Idle q
takes_look p q a looks turn rules stays = record { turn = turn; rules = rules; walk = inr (λ τ h. absurd (rw looks at h), stays) }

pub takes_wait : (p q : Seat) → p.sitting.phase ≡ Hear → p.sitting.idles + 1 < p.rules.patience → Turn p.rules p.sitting Idle q.sitting → q.rules ≡ p.rules → q.walked ≡ p.walked → Takes p Idle q
takes_wait p q hears short turn rules stays = record {
  turn = turn;
  rules = rules;
  walk = inr (λ τ h. let asks : AsksIn Hear p.rules p.sitting Idle τ = rw hears at h in omega (arith, short, asks.0), stays);
}

-- the last idle read
pub takes_quiet : (p q : Seat) → p.sitting.phase ≡ Hear → p.rules.patience ≤ p.sitting.idles + 1 → Turn p.rules p.sitting Idle q.sitting → q.rules ≡ p.rules → SawIn p.rules p.walked q.walked p.sitting.items Delta → Takes p Idle q
takes_quiet p q hears long turn rules (inl (shown, counts)) = record {
  turn = turn;
  rules = rules;
  walk = inl (p.sitting.items ++ Delta ∷ [], rw hears (long, (Delta, (refl, shown), refl)), counts);
}
takes_quiet p q hears long turn rules (inr (unshown, stays)) = record {
  turn = turn;
  rules = rules;
  walk = inr (λ τ h. none τ (rw hears at h), stays);
}
  where
    none : (τ : List Item) → AsksIn Hear p.rules p.sitting Idle τ → ⊥
    none τ (long, (x, (is, shown), e)) = unshown (rw is at shown)

pub refuses_quiet : (p : Seat) (error : WalkError) → p.sitting.phase ≡ Hear → p.rules.patience ≤ p.sitting.idles + 1 → RefusesShown p.rules p.walked p.sitting.items Delta error → Refuses p Idle error
refuses_quiet p error hears long (shown, refuses) = (p.sitting.items ++ Delta ∷ [], rw hears (long, (Delta, (refl, shown), refl)), refuses)
