-- Laws on where a simulation is led, and on what is seen of it on the way.
use Rattle.std.proofs.Common.{◌≡◌, ◌↔◌, ℕ, ◌<◌, ◌≤◌, ◌%◌, true, false, List, [], ◌∷◌, ◌++◌, length, get_or, Contains, Option, Some, None, refl, ap, sym, ◌∙◌, arith, inl, inr, subst}
use Rattle.std.specs.List.{filter}
use Rattle.std.proofs.lemmas.Nat.{mod_below}
use Rattle.std.proofs.lemmas.List.Elements.{Contains-get_or, All-contains, filter_passes}
use Rattle.std.proofs.lemmas.Bool.Decides.{Decides-eqb}
use Rattle.std.proofs.lemmas.Bool.{false≢true, cases_lt, lt-ltb}
use Rattle.lts_base.specs.declared.action.Act.{Act}
use Rattle.lts_base.specs.declared.action.Act.TheVariants.{Tau, Label}
use Rattle.lts_base.specs.declared.action.Move.{Move}
use Rattle.lts_base.specs.declared.item.Item.{Item}
use Rattle.lts_base.specs.declared.item.Item.TheVariants.{Input, Output}
use Rattle.lts_base.specs.System.{System, HasMove, IsSystem, IsMoveOf, IsQuiet, IsOnQuietCycle, Takes, leaves, label_count}
use Rattle.lts_base.specs.Path.{Step, Along, Rest, IsPath, trace_of, Leads, Ends}
use Rattle.lts_base.proofs.Leads.{act_cases, HasMove-from_parts, Leads-here, Leads-append, Leads-tau, Leads-step, IsSeen-from_input, IsSeen-from_output, Ends-silent}
use Rattle.lts_base.proofs.MoveLaws.{Contains-from_filter}
use Rattle.lts_base.proofs.TauLaws.{Leads-from_tau_leads}
use Rattle.lts_base.proofs.RestLaws.{Ends-below}
use Rattle.lts_base.proofs.ListLaws.{Contains-none}
use Rattle.sim_core.specs.declared.among.Among.{Among}
use Rattle.sim_core.specs.declared.among.Among.TheVariants.{Outputs, Taking, Only}
use Rattle.sim_core.specs.Drawn.{is_open, open_of, open_moves, choices_at, IsDrawn}
use Rattle.sim_core.specs.Simulated.{Place, Goes, Draws, Steps, GoesOn, Makes, Leaves, Hears, Looks, TakesInput}
use Rattle.sim_core.specs.Gone.{Halts, CanTake, IsSimulating}
use Rattle.sim_core.proofs.HearLaws.{Contains-open_moves, Contains-choice}

-- a move among the open ones of a state leaves it, is one of the system's and is open
pub record IsOpenMove (s : System) (among : Among) (p : ℕ) (m : Move) : Type 0 where
  pub from : m.from ≡ p
  pub inside : Contains s.moves m
  pub opens : is_open among m.act ≡ true

open_move : (s : System) (among : Among) (p : ℕ) (m : Move) → Contains (open_moves s among p) m → IsOpenMove s among p m
open_move s among p m has =
    let here : Contains (filter (leaves p) s.moves) m = Contains-from_filter (λ (n : Move). is_open among n.act) _ m has in
    record {
      from = (Decides-eqb m.from p).0 (All-contains (λ (n : Move). leaves p n ≡ true) _ m (filter_passes (leaves p) s.moves) here);
      inside = Contains-from_filter (leaves p) s.moves m here;
      opens = All-contains (λ (n : Move). is_open among n.act ≡ true) _ m (filter_passes (λ (n : Move). is_open among n.act) (filter (leaves p) s.moves)) has;
    }

-- what is drawn is among what it is drawn from
drawn_inside : {R X : Type 0} (step : R → ℕ × R) (xs : List X) (rng : R) (x : X) (next : R) → IsDrawn step xs rng x next → Contains xs x
drawn_inside step xs rng x next (some, is, after) = ((step rng).0 % length xs, mod_below _ _ some, sym (is x))

-- internal moves that are drawn lead on
pub Goes-leads : {R : Type 0} (step : R → ℕ × R) (s : System) (among : Among) (p : Place R) (ms : List Move) (q : Place R) → Goes step s among p ms q → Leads s p.at [] q.at
Goes-leads {R} step s among p [] q same = subst (λ (z : Place R). Leads s p.at [] z.at) (sym same) (Leads-here s p.at)
Goes-leads step s among p (m ∷ ms) q (away, next, drawn, tau, rest) =
    let one = open_move s among p.at m (drawn_inside step (open_moves s among p.at) p.rng m next drawn) in
    Leads-append s p.at m.to q.at [] [] (Leads-tau s p.at m.to (HasMove-from_parts s m p.at Tau one.from tau one.inside)) (Goes-leads step s among _ ms q rest)

-- a move with a label that is drawn
pub Draws-move : {R : Type 0} (step : R → ℕ × R) (s : System) (among : Among) (p : Place R) (a : ℕ) (q : Place R) → Draws step s among p a q → HasMove s p.at (Label a) q.at × (is_open among (Label a) ≡ true)
Draws-move step s among p a q (m, drawn, label, to) =
    let one = open_move s among p.at m (drawn_inside step (open_moves s among p.at) p.rng m q.rng drawn) in
    (rw to (HasMove-from_parts s m p.at (Label a) one.from label one.inside), rw label at one.opens)

-- internal moves, and a move with a label
pub Steps-move : {R : Type 0} (step : R → ℕ × R) (s : System) (among : Among) (p : Place R) (a : ℕ) (q : Place R) → Steps step s among p a q →
    (r : ℕ) × Leads s p.at [] r × HasMove s r (Label a) q.at × (is_open among (Label a) ≡ true)
Steps-move step s among p a q (ms, u, goes, away, draws) =
    let (move, opens) = Draws-move step s among u a q draws in
    (u.at, Goes-leads step s among p ms u goes, move, opens)

-- a label with which a move is open among outputs is that of an output
output_open : (s : System) (a : ℕ) → is_open (Outputs s.inputs) (Label a) ≡ true → s.inputs ≤ a
output_open s a opens = elim (cases_lt a s.inputs) [
  | inl low ↦ absurd (let no : is_open (Outputs s.inputs) (Label a) ≡ false = rw (lt-ltb a s.inputs low) refl in false≢true (sym no ∙ opens))
  | inr above ↦ above
]

-- a label with which a move is open where an input is taken is the input
pub input_open : (a b : ℕ) → is_open (Taking a) (Label b) ≡ true → b ≡ a
input_open a b opens = (Decides-eqb b a).0 opens

-- an output is shown on the way from p to q, by a move to q
pub record IsShown (s : System) (p a q : ℕ) : Type 0 where
  pub output : s.inputs ≤ a
  pub move : (r : ℕ) × HasMove s r (Label a) q
  pub leads : Leads s p (Output a ∷ []) q

shown : {R : Type 0} (step : R → ℕ × R) (s : System) (p : Place R) (a : ℕ) (q : Place R) → Steps step s (Outputs s.inputs) p a q → IsShown s p.at a q.at
shown step s p a q steps =
    let (r, silent, move, opens) = Steps-move step s (Outputs s.inputs) p a q steps in
    let above = output_open s a opens in
    record { output = above; move = (r, move); leads = Leads-append s p.at r q.at [] (Output a ∷ []) silent (Leads-step s r (Output a) q.at (IsSeen-from_output s r a q.at above move)) }

-- what a hearing that shows this has done: it is in a quiet state to which internal moves lead, or has shown an output
abbrev pub HasHeard : System → ℕ → Option ℕ → ℕ → Type 0
HasHeard s p None q = Leads s p [] q × IsQuiet s q
HasHeard s p (Some a) q = IsShown s p a q

GoesOn-heard : {R : Type 0} (step : R → ℕ × R) (s : System) (p : Place R) (label : Option ℕ) (q : Place R) → GoesOn step s p label q → HasHeard s p.at label q.at
GoesOn-heard step s p None q (ms, goes, quiet) = (Goes-leads step s (Outputs s.inputs) p ms q goes, quiet)
GoesOn-heard step s p (Some a) q steps = shown step s p a q steps

-- an internal move first
heard_after : (s : System) (p r : ℕ) (label : Option ℕ) (q : ℕ) → HasMove s p Tau r → HasHeard s r label q → HasHeard s p label q
heard_after s p r None q has (leads, quiet) = (Leads-append s p r q [] [] (Leads-tau s p r has) leads, quiet)
heard_after s p r (Some a) q has heard = record { output = heard.output; move = heard.move; leads = Leads-append s p r q [] (Output a ∷ []) (Leads-tau s p r has) heard.leads }

-- from a quiet cycle
Leaves-heard : {R : Type 0} (step : R → ℕ × R) (s : System) (p : Place R) (label : Option ℕ) (q : Place R) → IsOnQuietCycle s p.at → Leaves step s p label q → HasHeard s p.at label q.at
Leaves-heard {R} step s p label q cycle (None, next, drawn, does) =
    subst (λ (z : Place R). HasHeard s p.at label z.at) (sym does.1) (rw does.0 (Leads-here s p.at, inr cycle))
Leaves-heard {R} step s p label q cycle (Some m, next, drawn, does) = go m.act refl does
  where
    one : IsOpenMove s (Outputs s.inputs) p.at m
    one = open_move s (Outputs s.inputs) p.at m (Contains-choice (open_moves s (Outputs s.inputs) p.at) m (drawn_inside step (choices_at s (Outputs s.inputs) p.at) p.rng (Some m) next drawn))

    go : (act : Act) → m.act ≡ act → Makes step s act (record { at = m.to; rng = next }) label q → HasHeard s p.at label q.at
    go Tau is on = heard_after s p.at m.to label q.at (HasMove-from_parts s m p.at Tau one.from is one.inside) (GoesOn-heard step s (record { at = m.to; rng = next }) label q on)
    go (Label a) is (shows, same) =
        let opens : is_open (Outputs s.inputs) (Label a) ≡ true = rw is at one.opens in
        let above = output_open s a opens in
        let move : HasMove s p.at (Label a) m.to = HasMove-from_parts s m p.at (Label a) one.from is one.inside in
        rw shows (subst (λ (z : Place R). IsShown s p.at a z.at) (sym same) (record { output = above; move = (p.at, move); leads = Leads-step s p.at (Output a) m.to (IsSeen-from_output s p.at a m.to above move) }))

-- what a hearing has done
pub Hears-heard : {R : Type 0} (step : R → ℕ × R) (s : System) (p : Place R) (label : Option ℕ) (q : Place R) → Hears step s p label q → HasHeard s p.at label q.at
Hears-heard step s p label q (inl (cycle, leaves)) = Leaves-heard step s p label q cycle leaves
Hears-heard step s p label q (inr (away, on)) = GoesOn-heard step s p label q on

-- what a look has done: as a hearing, but where nothing is shown the state may be any to which internal moves lead
abbrev pub HasLooked : System → ℕ → Option ℕ → ℕ → Type 0
HasLooked s p None q = Leads s p [] q
HasLooked s p (Some a) q = IsShown s p a q

looked_from_heard : (s : System) (p : ℕ) (label : Option ℕ) (q : ℕ) → HasHeard s p label q → HasLooked s p label q
looked_from_heard s p None q heard = heard.0
looked_from_heard s p (Some a) q heard = heard

pub Looks-looked : {R : Type 0} (step : R → ℕ × R) (s : System) (p : Place R) (label : Option ℕ) (q : Place R) → Looks step s p label q → HasLooked s p.at label q.at
Looks-looked {R} step s p label q (inl (even, none, same)) = subst (λ (z : Place R). HasLooked s p.at label z.at) (sym same) (rw none (Leads-here s p.at))
Looks-looked step s p label q (inr (odd, hears)) = looked_from_heard s p.at label q.at (Hears-heard step s (record p { rng = (step p.rng).1 }) label q hears)

-- an input that was taken
pub TakesInput-leads : {R : Type 0} (step : R → ℕ × R) (s : System) (p : Place R) (a : ℕ) (q : Place R) → a < s.inputs → TakesInput step s p a q → Leads s p.at (Input a ∷ []) q.at
TakesInput-leads step s p a q low (inl steps) =
    let (r, silent, move, opens) = Steps-move step s (Taking a) p a q steps in
    Leads-append s p.at r q.at [] (Input a ∷ []) silent (Leads-step s r (Input a) q.at (IsSeen-from_input s r a q.at low move))
TakesInput-leads step s p a q low (inr (ms, u, goes, detours)) =
    let (cycle, rs, r, least, draws) = detours in
    let move = Draws-move step s (Only a) (record u { at = r }) a q draws in
    let way : Leads s u.at [] r = Leads-from_tau_leads s u.at r (rs, least.way.0) in
    Leads-append s p.at u.at q.at [] (Input a ∷ []) (Goes-leads step s (Taking a) p ms u goes)
    (Leads-append s u.at r q.at [] (Input a ∷ []) way (Leads-step s r (Input a) q.at (IsSeen-from_input s r a q.at low move.0)))

-- a simulation that is led on goes on
pub simulating_on : (s : System) (p q : ℕ) (σ : List Item) → IsSimulating s p → Leads s p σ q → IsSimulating s q
simulating_on s p q σ h leads =
    let (τ, ends) = h.reached in
    let further : Ends s (τ ++ σ) q = Leads-append s s.start p q τ σ ends leads in
    record { system = h.system; below = Ends-below s (τ ++ σ) q h.system further; enabled = h.enabled; sound = h.sound; reached = (τ ++ σ, further) }

-- a state that can take an input has a move with it, or an internal one; so where it halts it is on a quiet cycle
pub halts_on_cycle : (s : System) (a p : ℕ) → CanTake s a p → Halts s (Taking a) p → IsOnQuietCycle s p
halts_on_cycle s a p able (inl cycle) = cycle
halts_on_cycle s a p (r, (steps, on, silent), takes) (inr none) = absurd (go steps on silent)
  where
    out : (act : Act) (q : ℕ) → HasMove s p act q → is_open (Taking a) act ≡ true → ⊥
    out act q has opens = Contains-none _ (rw none at (Contains-open_moves s (Taking a) p act q has opens))

    go : (steps : List Step) → IsPath s p steps r → trace_of s steps ≡ [] → ⊥
    go [] on silent = out (Label a) takes.0 (rw (← on) at takes.1) ((Decides-eqb a a).1 refl)
    go (Rest ∷ steps) on silent = cc
    go (Along m ∷ steps) on silent = elim (act_cases m.act) [
      | inl tau ↦ out Tau m.to (HasMove-from_parts s m p Tau on.0 tau on.1) refl
      | inr (l, label) ↦ let e : trace_of s (Along m ∷ steps) ≡ [] = silent in absurd (let f = rw label at e in cc)
    ]

-- some move with the label is open exactly where the state takes it
pub takes_exactly : (s : System) (p a : ℕ) (ms : List Move) → ms ≡ filter (leaves p) s.moves → (0 < length (open_of (Only a) ms)) ↔ Takes s p a
takes_exactly s p a ms value = rw value (there, back)
  where
    acts : (act : Act) → is_open (Only a) act ≡ true → act ≡ Label a
    acts Tau opens = absurd (false≢true opens)
    acts (Label b) opens = ap Label ((Decides-eqb b a).0 opens)

    there : 0 < length (open_moves s (Only a) p) → Takes s p a
    there some =
        let m : Move = get_or (open_moves s (Only a) p) 0 (record { from = 0; act = Tau; to = 0 }) in
        let one = open_move s (Only a) p m (Contains-get_or (open_moves s (Only a) p) 0 (record { from = 0; act = Tau; to = 0 }) some) in
        (m.to, HasMove-from_parts s m p (Label a) one.from (acts m.act one.opens) one.inside)

    back : Takes s p a → 0 < length (open_moves s (Only a) p)
    back (q, has) =
        let (k, below, at) = Contains-open_moves s (Only a) p (Label a) q has ((Decides-eqb a a).1 refl) in
        omega (arith, below)

-- a move that is drawn among those with the label
pub only_draws : {R : Type 0} (step : R → ℕ × R) (s : System) (p a : ℕ) (ms : List Move) (rng : R) (m : Move) (next : R) → ms ≡ filter (leaves p) s.moves → IsDrawn step (open_of (Only a) ms) rng m next →
    Draws step s (Only a) (record { at = p; rng = rng }) a (record { at = m.to; rng = next })
only_draws step s p a ms rng m next value drawn =
    let here : IsDrawn step (open_moves s (Only a) p) rng m next = rw value at drawn in
    let one = open_move s (Only a) p m (drawn_inside step (open_moves s (Only a) p) rng m next here) in
    (m, here, acts m.act one.opens, refl)
  where
    acts : (act : Act) → is_open (Only a) act ≡ true → act ≡ Label a
    acts Tau opens = absurd (false≢true opens)
    acts (Label b) opens = ap Label ((Decides-eqb b a).0 opens)

-- where a move with a label was drawn on the way to an input, that was the input
pub Steps-taken : {R : Type 0} (step : R → ℕ × R) (s : System) (p : Place R) (a l : ℕ) (q : Place R) → Steps step s (Taking a) p l q → TakesInput step s p a q
Steps-taken step s p a l q steps =
    let (r, silent, move, opens) = Steps-move step s (Taking a) p l q steps in
    inl (rw (input_open a l opens) at steps)

-- wherever internal moves lead a simulation, it can take each input
pub able_at : (s : System) (a p q : ℕ) → a < s.inputs → IsSimulating s p → Leads s p [] q → CanTake s a q
able_at s a p q low h leads =
    let (σ, ends) = h.reached in
    h.enabled σ q (Ends-silent s σ p q ends leads) a low

-- a state that takes a label has an open move among those with it
pub some_only : (s : System) (p a : ℕ) (ms : List Move) → ms ≡ filter (leaves p) s.moves → open_of (Only a) ms ≡ [] → Takes s p a → ⊥
some_only s p a ms value none takes =
    let some : 0 < length (open_of (Only a) ms) = (takes_exactly s p a ms value).1 takes in
    let zero : length (open_of (Only a) ms) ≡ 0 = rw none refl in
    omega (arith, some, zero)

-- what is shown is a label of the system
pub IsShown-label : (s : System) (p a q : ℕ) → IsSystem s → IsShown s p a q → a < label_count s
IsShown-label s p a q system shown = (All-contains (IsMoveOf s.states (label_count s)) s.moves _ system.moves shown.move.1).act

-- a simulation that was heard, or looked at, goes on
pub heard_on : (s : System) (p : ℕ) (label : Option ℕ) (q : ℕ) → IsSimulating s p → HasHeard s p label q → IsSimulating s q
heard_on s p None q h heard = simulating_on s p q [] h heard.0
heard_on s p (Some a) q h heard = simulating_on s p q (Output a ∷ []) h heard.leads

pub looked_on : (s : System) (p : ℕ) (label : Option ℕ) (q : ℕ) → IsSimulating s p → HasLooked s p label q → IsSimulating s q
looked_on s p None q h looked = simulating_on s p q [] h looked
looked_on s p (Some a) q h looked = simulating_on s p q (Output a ∷ []) h looked.leads
