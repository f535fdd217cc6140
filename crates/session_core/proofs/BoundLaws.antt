-- A session takes few events.
use Rattle.std.proofs.Common.{◌≡◌, ℕ, zero, suc, ◌+◌, ◌-◌, ◌*◌, ◌<◌, ◌≤◌, List, [], ◌∷◌, ◌++◌, length, Option, None, Some, ◌⊎◌, inl, inr, refl, ap, sym, ◌∙◌, arith}
use Rattle.std.proofs.lemmas.List.{length_push}
use Rattle.lts_base.specs.declared.item.Item.{Item}
use Rattle.lts_base.specs.declared.item.Item.TheVariants.{Input, Output, Delta}
use Rattle.walk_core.specs.declared.choice.Choice.TheVariants.{Input as Ask_input, Observe}
use Rattle.session_core.specs.declared.verdict.Verdict.{Verdict}
use Rattle.session_core.specs.declared.verdict.Verdict.TheVariants.{Pass, Fail, Ended, Stalled, Long}
use Rattle.session_core.specs.declared.phase.Phase.{Phase}
use Rattle.session_core.specs.declared.phase.Phase.TheVariants.{Ask, Look, Send, Hear, Done}
use Rattle.session_core.specs.Told.{Told, Chosen, Line, Idle, IdleMid, TooLong, End, Sent}
use Rattle.session_core.specs.Table.{Rules, Sitting, opening, Offered, IsOver, Given, Heard, Quiet, IsLogged, Settles, Fails, Observed, Waits, TurnAsk, TurnLook, TurnSend, TurnHear, TurnIn, Turn, Run}
use Rattle.session_core.specs.Fuel.{square, left_in, items_in, fuel, IsGoing, IsGoingIn, IsGoingOn}

-- after a turn there is less left
pub record IsLess (r : Rules) (n : ℕ) (t : Sitting) : Type 0 where
  pub going : IsGoingOn r t
  pub less : fuel r t < n

pub along_less : (r : Rules) (n : ℕ) (s t : Sitting) → t ≡ s → IsLess r n s → IsLess r n t
along_less r n s t e h = rw e h

-- one round's worth
pub one_more : (steps n q : ℕ) → n < steps → (steps - n) * q ≡ (steps - (n + 1)) * q + q
one_more steps n q below =
    let e : steps - n ≡ suc (steps - (n + 1)) = omega (arith, below) in
    rw e (more (steps - (n + 1)) q)
  where
    more : (k q : ℕ) → suc k * q ≡ k * q + q
    more k q = omega arith

pub settle_less : (r : Rules) (s t : Sitting) (x : Item) (n : ℕ) → IsGoing r s → (r.steps - (length s.items + 1)) * square r < n → Settles r s x t → IsLess r n t
settle_less r s t x n going room (inl (over, e)) = along_less r n _ t e (record { going = tt; less = omega (arith, room) })
settle_less r s t x n going room (inr (more, e)) =
    let long : length (s.items ++ x ∷ []) ≡ length s.items + 1 = length_push s.items x in
    let unequal : length (s.items ++ x ∷ []) ≡ r.steps → ⊥ = λ same. more (inl same) in
    along_less r n _ t e (record {
      going = record { items = below (length s.items) (length (s.items ++ x ∷ [])) r.steps going.items long unequal; mid = going.mid; idles = λ h. cc };
      less = rw long (omega (arith, room));
    })
  where
    below : (a b c : ℕ) → a < c → b ≡ a + 1 → (b ≡ c → ⊥) → b < c
    below a b c h e unequal = grind (arith, h, e, unequal)

pub observed_less : (r : Rules) (s t : Sitting) (given : Given) (n : ℕ) → IsGoing r s → (r.steps - (length s.items + 1)) * square r < n → Observed r s given t → IsLess r n t
observed_less r s t given n going room (inl (x, logged, settles)) = settle_less r s t x n going room settles
observed_less r s t given n going room (inr (τ, strange, failed, e)) = along_less r n _ t e (record { going = tt; less = omega (arith, room) })

-- a round is as long as the square at most
pub hear_room : (p mid : ℕ) → 1 ≤ p → (p - (mid + 1)) * p + p < (p + 1) * (p + 1)
hear_room p mid some = below p (p - (mid + 1)) (omega arith)
  where
    mono : (a b c : ℕ) → a ≤ b → a * c ≤ b * c
    mono a b c h = grind (arith, h)

    below : (p k : ℕ) → k ≤ p → k * p + p < (p + 1) * (p + 1)
    below p k h =
        let m : k * p ≤ p * p = mono k p p h in
        let whole : (p + 1) * (p + 1) ≡ p * p + p + p + 1 = omega arith in
        rw whole (omega (arith, m))

pub look_room : (p mid : ℕ) → 1 ≤ p → p - mid + 1 < (p + 1) * (p + 1)
look_room p mid some =
    let whole : (p + 1) * (p + 1) ≡ p * p + p + p + 1 = omega arith in
    rw whole (omega (arith, some))

-- no phase but Hear is Hear
turn_ask_less : (r : Rules) (s t : Sitting) (e : Told) → 1 ≤ r.patience → IsGoing r s → TurnAsk r s e t → IsLess r ((r.steps - length s.items) * square r) t
turn_ask_less r s t (Chosen (Ask_input a)) some going (inl (offered, e)) =
    along_less r _ _ t e (record {
      going = record { items = going.items; mid = going.mid; idles = λ h. cc };
      less = rw (one_more r.steps (length s.items) (square r) going.items) (omega (arith, look_room r.patience s.mid some));
    })
turn_ask_less r s t (Chosen (Ask_input a)) some going (inr (refused, e)) =
    along_less r _ _ t e (record {
      going = record { items = going.items; mid = going.mid; idles = λ h. some };
      less = rw (one_more r.steps (length s.items) (square r) going.items) (omega (arith, hear_room r.patience s.mid some));
    })
turn_ask_less r s t (Chosen Observe) some going e =
    along_less r _ _ t e (record {
      going = record { items = going.items; mid = going.mid; idles = λ h. some };
      less = rw (one_more r.steps (length s.items) (square r) going.items) (omega (arith, hear_room r.patience s.mid some));
    })
turn_ask_less r s t (Line text) some going turn = absurd turn
turn_ask_less r s t Idle some going turn = absurd turn
turn_ask_less r s t (IdleMid text) some going turn = absurd turn
turn_ask_less r s t (TooLong text) some going turn = absurd turn
turn_ask_less r s t (End text) some going turn = absurd turn
turn_ask_less r s t Sent some going turn = absurd turn

-- an end leaves nothing
end_less : (r : Rules) (s t : Sitting) (v : Verdict) (n : ℕ) → 0 < n → t.phase ≡ Done v → IsLess r n t
end_less r s t v n some e = record { going = rw e tt; less = rw e (omega (arith, some)) }

turn_look_less : (r : Rules) (s t : Sitting) (a : ℕ) (e : Told) → 1 ≤ r.patience → s.phase ≡ Look a → IsGoing r s → TurnLook r a s e t → IsLess r ((r.steps - (length s.items + 1)) * square r + (r.patience - s.mid + 1)) t
turn_look_less r s t a (Chosen c) some at going turn = absurd turn
turn_look_less r s t a (Line text) some at going turn = observed_less r (record s { mid = 0 }) t (Heard text) _ (record { items = going.items; mid = some; idles = going.idles }) (omega arith) turn
turn_look_less r s t a Idle some at going e =
    along_less r _ _ t e (record { going = record { items = going.items; mid = going.mid; idles = λ h. cc }; less = omega (arith, going.mid) })
turn_look_less r s t a (IdleMid text) some at going (inl (short, e)) =
    along_less r _ _ t e (rw at (record { going = record { items = going.items; mid = short; idles = λ h. cc }; less = omega (arith, short) }))
turn_look_less r s t a (IdleMid text) some at going (inr (long, e)) = along_less r _ _ t e (record { going = tt; less = omega arith })
turn_look_less r s t a (TooLong text) some at going e = along_less r _ _ t e (record { going = tt; less = omega arith })
turn_look_less r s t a (End text) some at going e = along_less r _ _ t e (record { going = tt; less = omega arith })
turn_look_less r s t a Sent some at going turn = absurd turn

turn_send_less : (r : Rules) (s t : Sitting) (a : ℕ) (e : Told) → IsGoing r s → TurnSend r a s e t → IsLess r ((r.steps - (length s.items + 1)) * square r + 1) t
turn_send_less r s t a (Chosen c) going turn = absurd turn
turn_send_less r s t a (Line text) going turn = absurd turn
turn_send_less r s t a Idle going turn = absurd turn
turn_send_less r s t a (IdleMid text) going turn = absurd turn
turn_send_less r s t a (TooLong text) going turn = absurd turn
turn_send_less r s t a (End text) going turn = absurd turn
turn_send_less r s t a Sent going turn = settle_less r s t (Input a) _ going (omega arith) turn

turn_hear_less : (r : Rules) (s t : Sitting) (e : Told) → 1 ≤ r.patience → s.phase ≡ Hear → IsGoing r s → TurnHear r s e t → IsLess r ((r.steps - (length s.items + 1)) * square r + ((r.patience - (s.mid + 1)) * r.patience + (r.patience - s.idles))) t
turn_hear_less r s t (Chosen c) some at going turn = absurd turn
turn_hear_less r s t (Line text) some at going turn =
    observed_less r (record s { mid = 0 }) t (Heard text) _ (record { items = going.items; mid = some; idles = going.idles }) (omega (arith, going.idles at)) turn
turn_hear_less r s t Idle some at going (inl (short, e)) =
    along_less r _ _ t e (rw at (record { going = record { items = going.items; mid = going.mid; idles = λ h. short }; less = omega (arith, short) }))
turn_hear_less r s t Idle some at going (inr (long, turn)) = observed_less r s t Quiet _ going (omega (arith, going.idles at)) turn
turn_hear_less r s t (IdleMid text) some at going (inl (short, e)) =
    along_less r _ _ t e (rw at (record {
      going = record { items = going.items; mid = short; idles = λ h. some };
      less = rw (one_more r.patience (s.mid + 1) r.patience short) (omega (arith, going.idles at));
    }))
turn_hear_less r s t (IdleMid text) some at going (inr (long, e)) = along_less r _ _ t e (record { going = tt; less = omega (arith, going.idles at) })
turn_hear_less r s t (TooLong text) some at going e = along_less r _ _ t e (record { going = tt; less = omega (arith, going.idles at) })
turn_hear_less r s t (End text) some at going e = along_less r _ _ t e (record { going = tt; less = omega (arith, going.idles at) })
turn_hear_less r s t Sent some at going turn = absurd turn

-- each turn takes from what is left
turn_in_less : (p : Phase) (r : Rules) (s t : Sitting) (e : Told) → s.phase ≡ p → 1 ≤ r.patience → IsGoingIn p r s → TurnIn p r s e t → IsLess r (fuel r s) t
turn_in_less Ask r s t e at some going turn = let l = turn_ask_less r s t e some going turn in record { going = l.going; less = rw at (omega (arith, l.less)) }
turn_in_less (Look a) r s t e at some going turn = rw at (turn_look_less r s t a e some at going turn)
turn_in_less (Send a) r s t e at some going turn = rw at (turn_send_less r s t a e going turn)
turn_in_less Hear r s t e at some going turn = rw at (turn_hear_less r s t e some at going turn)
turn_in_less (Done v) r s t e at some going turn = absurd turn

pub turn_less : (r : Rules) (s t : Sitting) (e : Told) → 1 ≤ r.patience → IsGoingOn r s → Turn r s e t → IsLess r (fuel r s) t
turn_less r s t e some going turn = turn_in_less s.phase r s t e refl some going turn

pub run_less : (r : Rules) (s t : Sitting) (es : List Told) → 1 ≤ r.patience → IsGoingOn r s → Run r s es t → length es + fuel r t ≤ fuel r s
run_less r s t [] some going e = rw e (omega arith)
run_less r s t (e ∷ es) some going (m, turn, run) =
    let one = turn_less r s m e some going turn in
    let rest = run_less r m t es some one.going run in
    let count : length (e ∷ es) ≡ length es + 1 = omega arith in
    omega (arith, count, one.less, rest)

pub opening_going : (r : Rules) → 1 ≤ r.patience → 1 ≤ r.steps → IsGoingOn r opening
opening_going r some steps = record { items = steps; mid = some; idles = λ h. some }

pub run_bound : (r : Rules) (s : Sitting) (es : List Told) → 1 ≤ r.patience → 1 ≤ r.steps → Run r opening es s → length es ≤ r.steps * square r
run_bound r s es some steps run =
    let all : length es + fuel r s ≤ (r.steps - 0) * square r + 0 = run_less r opening s es some (opening_going r some steps) run in
    let same : r.steps - 0 ≡ r.steps = omega arith in
    let whole : length es + fuel r s ≤ r.steps * square r + 0 = rw same at all in
    omega (arith, whole)
