-- Laws on paths and their traces.
use Rattle.std.proofs.Common.{◌≡◌, ℕ, ◌<◌, ◌≤◌, List, [], ◌∷◌, ◌++◌, ◌⊎◌, inl, inr, Contains, refl, ap, ◌∙◌}
use Rattle.std.proofs.lemmas.List.{append-nil}
use Rattle.std.proofs.lemmas.Grind.{flat_map-append}
use Rattle.std.proofs.lemmas.Bool.{cases_lt, lt-ltb, le-ltb}
use Rattle.lts_base.specs.declared.action.Act.{Act}
use Rattle.lts_base.specs.declared.action.Act.TheVariants.{Tau, Label}
use Rattle.lts_base.specs.declared.action.Move.{Move}
use Rattle.lts_base.specs.declared.item.Item.{Item}
use Rattle.lts_base.specs.declared.item.Item.TheVariants.{Input, Output, Delta}
use Rattle.lts_base.specs.System.{System, HasMove, IsQuiet}
use Rattle.lts_base.specs.Path.{Step, Along, Rest, IsPath, item_of, seen_of_act, seen_of, trace_of, Leads, Ends, IsSeen}

-- what a move carries is Tau or a label
pub act_cases : (a : Act) → (a ≡ Tau) ⊎ ((l : ℕ) × (a ≡ Label l))
act_cases Tau = inl refl
act_cases (Label l) = inr (l, refl)

-- of a step nothing is seen, or one item
pub seen_cases : (s : System) (step : Step) → (seen_of s step ≡ []) ⊎ ((y : Item) × (seen_of s step ≡ y ∷ []))
seen_cases s (Along m) = go m.act
  where
    go : (a : Act) → (seen_of_act s a ≡ []) ⊎ ((y : Item) × (seen_of_act s a ≡ y ∷ []))
    go Tau = inl refl
    go (Label l) = inr (item_of s l, refl)
seen_cases s Rest = inr (Delta, refl)

-- a label is an input or an output, as its number says
pub item_of_cases : (s : System) (a : ℕ) → ((a < s.inputs) × (item_of s a ≡ Input a)) ⊎ ((s.inputs ≤ a) × (item_of s a ≡ Output a))
item_of_cases s a = elim (cases_lt a s.inputs) [
  | inl low ↦ inl (low, rw (lt-ltb a s.inputs low))
  | inr high ↦ inr (high, rw (le-ltb a s.inputs high))
]

-- a move by its three parts
pub HasMove-from_parts : (s : System) (m : Move) (p : ℕ) (a : Act) → m.from ≡ p → m.act ≡ a → Contains s.moves m → HasMove s p a m.to
HasMove-from_parts s m p a from act inside = rw (← from, ← act) inside

-- the first step of a path, and the others
pub IsPath-first : (s : System) (p r : ℕ) (step : Step) (steps : List Step) → IsPath s p (step ∷ steps) r → (m : ℕ) × IsPath s p (step ∷ []) m × IsPath s m steps r
IsPath-first s p r (Along m) steps on = (m.to, (on.0, on.1, refl), on.2)
IsPath-first s p r Rest steps on = (p, (on.0, refl), on.1)

pub IsPath-append : (s : System) (steps more : List Step) (p q r : ℕ) → IsPath s p steps q → IsPath s q more r → IsPath s p (steps ++ more) r
IsPath-append s [] more p q r on next = rw on next
IsPath-append s (Along m ∷ steps) more p q r on next = (on.0, on.1, IsPath-append s steps more m.to q r on.2 next)
IsPath-append s (Rest ∷ steps) more p q r on next = (on.0, IsPath-append s steps more p q r on.1 next)

-- no move leads from a state to itself
pub Leads-here : (s : System) (p : ℕ) → Leads s p [] p
Leads-here s p = ([], refl, refl)

-- paths join, and their traces append
pub Leads-append : (s : System) (p q r : ℕ) (σ τ : List Item) → Leads s p σ q → Leads s q τ r → Leads s p (σ ++ τ) r
Leads-append s p q r σ τ (steps, on, e) (more, next, f) =
    (steps ++ more, IsPath-append s steps more p q r on next, flat_map-append (seen_of s) steps more ∙ rw (e, f) refl)

-- one step that is seen is a path
pub Leads-step : (s : System) (p : ℕ) (x : Item) (q : ℕ) → IsSeen s p x q → Leads s p (x ∷ []) q
Leads-step s p x q (step, on, e) = (step ∷ [], on, rw e refl)

-- one move with Tau is a path
pub Leads-tau : (s : System) (p q : ℕ) → HasMove s p Tau q → Leads s p [] q
Leads-tau s p q inside = (Along (record { from = p; act = Tau; to = q }) ∷ [], (refl, inside, refl), refl)

-- a path is cut where the first part of its trace has been seen
pub Leads-split : (s : System) (σ τ : List Item) (steps : List Step) (p r : ℕ) → IsPath s p steps r → trace_of s steps ≡ σ ++ τ → (q : ℕ) × Leads s p σ q × Leads s q τ r
Leads-split s [] τ steps p r on e = (p, Leads-here s p, (steps, on, e))
Leads-split s (x ∷ σ) τ [] p r on e = cc
Leads-split s (x ∷ σ) τ (step ∷ steps) p r on e =
    let (m, one, rest) = IsPath-first s p r step steps on in
    elim (seen_cases s step) [
      | inl none ↦
          let e' : trace_of s steps ≡ x ∷ (σ ++ τ) = rw none at e in
          let f : Leads s p [] m = (step ∷ [], one, rw none refl) in
          let found = Leads-split s (x ∷ σ) τ steps m r rest e' in
          (found.0, Leads-append s p m found.0 [] (x ∷ σ) f found.1, found.2)
      | inr (y, some) ↦
          let e' : y ∷ trace_of s steps ≡ x ∷ (σ ++ τ) = rw some at e in
          let same : y ≡ x = cc in
          let e'' : trace_of s steps ≡ σ ++ τ = cc in
          let f : Leads s p (x ∷ []) m = (step ∷ [], one, rw some (ap (λ z. z ∷ []) same)) in
          let found = Leads-split s σ τ steps m r rest e'' in
          (found.0, Leads-append s p m found.0 (x ∷ []) σ f found.1, found.2)
    ]

-- a path with one item to be seen is moves with Tau, one step that is seen as it, moves with Tau
pub Leads-one : (s : System) (x : Item) (steps : List Step) (p r : ℕ) → IsPath s p steps r → trace_of s steps ≡ x ∷ [] → (p' : ℕ) × (q : ℕ) × Leads s p [] p' × IsSeen s p' x q × Leads s q [] r
Leads-one s x [] p r on e = cc
Leads-one s x (step ∷ steps) p r on e =
    let (m, one, rest) = IsPath-first s p r step steps on in
    elim (seen_cases s step) [
      | inl none ↦
          let e' : trace_of s steps ≡ x ∷ [] = rw none at e in
          let f : Leads s p [] m = (step ∷ [], one, rw none refl) in
          let found = Leads-one s x steps m r rest e' in
          (found.0, found.1, Leads-append s p m found.0 [] [] f found.2, found.3, found.4)
      | inr (y, some) ↦
          let e' : y ∷ trace_of s steps ≡ x ∷ [] = rw some at e in
          let same : y ≡ x = cc in
          let e'' : trace_of s steps ≡ [] = cc in
          (p, m, Leads-here s p, (step, one, some ∙ ap {A = Item} {B = List Item} (λ z. z ∷ []) same), (steps, rest, e''))
    ]

-- what holds of a state, and is kept by moves with Tau, holds of each state that moves with Tau lead to
pub Leads-closed : (s : System) (P : ℕ → Type 0) → ((p q : ℕ) → P p → HasMove s p Tau q → P q) → (p q : ℕ) → P p → Leads s p [] q → P q
Leads-closed s P keeps p q here (steps, on, e) = go steps p here on e
  where
    go : (steps : List Step) (p : ℕ) → P p → IsPath s p steps q → trace_of s steps ≡ [] → P q
    go [] p here on e = rw on at here
    go (Rest ∷ steps) p here on e = cc
    go (Along m ∷ steps) p here on e = elim (act_cases m.act) [
      | inl tau ↦
          let e' : trace_of s steps ≡ [] = rw tau at e in
          go steps m.to (keeps p m.to here (HasMove-from_parts s m p Tau on.0 tau on.1)) on.2 e'
      | inr (l, label) ↦
          let e' : item_of s l ∷ trace_of s steps ≡ [] = rw label at e in
          cc
    ]

-- after a trace one more step is seen
pub Ends-push : (s : System) (σ : List Item) (p : ℕ) (x : Item) (q : ℕ) → Ends s σ p → IsSeen s p x q → Ends s (σ ++ x ∷ []) q
Ends-push s σ p x q ends seen = Leads-append s s.start p q σ (x ∷ []) ends (Leads-step s p x q seen)

-- after a trace moves with Tau change nothing of it
pub Ends-silent : (s : System) (σ : List Item) (p q : ℕ) → Ends s σ p → Leads s p [] q → Ends s σ q
Ends-silent s σ p q ends silent = rw append-nil at (Leads-append s s.start p q σ [] ends silent)

-- a move with a label is seen as that label
pub IsSeen-along : (s : System) (p a q : ℕ) → HasMove s p (Label a) q → IsSeen s p (item_of s a) q
IsSeen-along s p a q inside = (Along (record { from = p; act = Label a; to = q }), (refl, inside, refl), refl)

pub IsSeen-from_input : (s : System) (p a q : ℕ) → a < s.inputs → HasMove s p (Label a) q → IsSeen s p (Input a) q
IsSeen-from_input s p a q low inside = (Along (record { from = p; act = Label a; to = q }), (refl, inside, refl), rw (lt-ltb a s.inputs low) refl)

pub IsSeen-from_output : (s : System) (p a q : ℕ) → s.inputs ≤ a → HasMove s p (Label a) q → IsSeen s p (Output a) q
IsSeen-from_output s p a q high inside = (Along (record { from = p; act = Label a; to = q }), (refl, inside, refl), rw (le-ltb a s.inputs high) refl)

-- a rest in a quiet state is seen as `delta`
pub IsSeen-from_quiet : (s : System) (p : ℕ) → IsQuiet s p → IsSeen s p Delta p
IsSeen-from_quiet s p quiet = (Rest, (quiet, refl), refl)

-- a step that is seen is a move with that label, or a rest
pub IsSeen-cases : (s : System) (p : ℕ) (x : Item) (q : ℕ) → IsSeen s p x q → ((a : ℕ) × HasMove s p (Label a) q × (item_of s a ≡ x)) ⊎ (IsQuiet s p × (p ≡ q) × (Delta ≡ x))
IsSeen-cases s p x q (Along m, on, e) = elim (act_cases m.act) [
  | inl tau ↦ let e' : [] ≡ x ∷ [] = rw tau at e in cc
  | inr (l, label) ↦
      let e' : item_of s l ∷ [] ≡ x ∷ [] = rw label at e in
      let same : item_of s l ≡ x = cc in
      inl (l, rw on.2 at (HasMove-from_parts s m p (Label l) on.0 label on.1), same)
]
IsSeen-cases s p x q (Rest, on, e) =
    let same : Delta ≡ x = cc in
    inr (on.0, on.1, same)

-- a step that is seen as an input is a move with this label, and the label is an input
pub IsSeen-input : (s : System) (p a q : ℕ) → IsSeen s p (Input a) q → HasMove s p (Label a) q × (a < s.inputs)
IsSeen-input s p a q seen = elim (IsSeen-cases s p (Input a) q seen) [
  | inl (b, inside, is) ↦ elim (item_of_cases s b) [
    | inl (low, as_input) ↦
        let same : b ≡ a = cc in
        (rw same at inside, rw same at low)
    | inr (high, as_output) ↦ cc
  ]
  | inr (quiet, here, is) ↦ cc
]

-- a step that is seen as an output is a move with this label, and the label is no input
pub IsSeen-output : (s : System) (p a q : ℕ) → IsSeen s p (Output a) q → HasMove s p (Label a) q × (s.inputs ≤ a)
IsSeen-output s p a q seen = elim (IsSeen-cases s p (Output a) q seen) [
  | inl (b, inside, is) ↦ elim (item_of_cases s b) [
    | inl (low, as_input) ↦ cc
    | inr (high, as_output) ↦
        let same : b ≡ a = cc in
        (rw same at inside, rw same at high)
  ]
  | inr (quiet, here, is) ↦ cc
]

-- a step that is seen as `delta` is a rest in a quiet state
pub IsSeen-delta : (s : System) (p q : ℕ) → IsSeen s p Delta q → IsQuiet s p × (p ≡ q)
IsSeen-delta s p q seen = elim (IsSeen-cases s p Delta q seen) [
  | inl (b, inside, is) ↦ elim (item_of_cases s b) [
    | inl (low, as_input) ↦ cc
    | inr (high, as_output) ↦ cc
  ]
  | inr (quiet, here, is) ↦ (quiet, here)
]
