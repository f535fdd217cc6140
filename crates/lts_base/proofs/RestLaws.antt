-- Laws on where moves with Tau lead: from each state to a stable one, or to one on a cycle; and so a system that is convergent, or
-- in which states on cycles are quiet, shows something after each of its traces.
use Rattle.std.proofs.Common.{◌≡◌, ◌≢◌, ℕ, zero, suc, ◌+◌, ◌<◌, ◌≤◌, List, [], ◌∷◌, ◌++◌, length, get_or, All, Contains, true, inl, inr, ◌⊎◌, sym, ◌∙◌, ap, arith, eqb}
use Rattle.std.specs.List.{AllPairs, list_any}
use Rattle.std.proofs.lemmas.List.{length_push}
use Rattle.std.proofs.lemmas.List.Elements.{All-nil, All-push, All-contains, Contains-get_or}
use Rattle.std.proofs.lemmas.List.Quantifiers.{all_pairs_push}
use Rattle.std.proofs.lemmas.List.Folds.{Any-from_list_any}
use Rattle.std.proofs.lemmas.Map.Steps.{length-le_from_distinct_below}
use Rattle.std.proofs.lemmas.Map.Made.{IsDistinct-from_AllPairs}
use Rattle.std.proofs.lemmas.Bool.{cases_eq, cases_lt}
use Rattle.std.proofs.lemmas.Bool.Decides.{Decides-eqb}
use Rattle.lts_base.specs.declared.action.Act.TheVariants.{Tau, Label}
use Rattle.lts_base.specs.declared.action.Move.{Move}
use Rattle.lts_base.specs.declared.item.Item.{Item}
use Rattle.lts_base.specs.declared.item.Item.TheVariants.{Output, Delta}
use Rattle.lts_base.specs.System.{System, IsSystem, IsMoveOf, label_count, HasMove, IsStable, IsOnTauCycle}
use Rattle.lts_base.specs.Path.{Step, Along, Rest, IsPath, Leads, Ends}
use Rattle.lts_base.specs.After.{IsSetAfter, Shows}
use Rattle.lts_base.specs.Shape.{IsConvergent, IsConvergentOrQuiet}
use Rattle.lts_base.proofs.Leads.{act_cases, Leads-here, Leads-append, Leads-tau, Ends-silent}
use Rattle.lts_base.proofs.ListLaws.{Contains-first_cases, Contains-first, Contains-rest, Contains-none}
use Rattle.lts_base.proofs.NextLaws.{contains_number}
use Rattle.lts_base.proofs.TauLaws.{TauLeads-from_leads, none_from_IsConvergent}

-- some of the moves leaves p with Tau, or none does
tau_cases : (p : ℕ) (ms : List Move) → ((q : ℕ) × Contains ms (record { from = p; act = Tau; to = q })) ⊎ ((q : ℕ) → Contains ms (record { from = p; act = Tau; to = q }) → ⊥)
tau_cases p [] = inr (λ q inside. Contains-none (record { from = p; act = Tau; to = q }) inside)
tau_cases p (m ∷ ms) = elim (tau_cases p ms) [
  | inl found ↦ inl (found.0, Contains-rest m ms (record { from = p; act = Tau; to = found.0 }) found.1)
  | inr none ↦ elim (cases_eq m.from p) [
    | inl here ↦ elim (act_cases m.act) [
      | inl tau ↦ inl (m.to, rw (← here, ← tau) (Contains-first m ms))
      | inr (l, label) ↦ inr (λ q inside. elim (Contains-first_cases m ms (record { from = p; act = Tau; to = q }) inside) [
        | inl same ↦ let e : Label l ≡ Tau = sym label ∙ ap (λ x. x.act) same in cc
        | inr later ↦ none q later
      ])
    ]
    | inr away ↦ inr (λ q inside. elim (Contains-first_cases m ms (record { from = p; act = Tau; to = q }) inside) [
      | inl same ↦ away (ap (λ x. x.from) same)
      | inr later ↦ none q later
    ])
  ]
]

-- some of the moves leaves p with an output, or none does
output_cases : (s : System) (p : ℕ) (ms : List Move) → ((a : ℕ) × (s.inputs ≤ a) × ((q : ℕ) × Contains ms (record { from = p; act = Label a; to = q }))) ⊎
    ((a q : ℕ) → s.inputs ≤ a → Contains ms (record { from = p; act = Label a; to = q }) → ⊥)
output_cases s p [] = inr (λ a q above inside. Contains-none (record { from = p; act = Label a; to = q }) inside)
output_cases s p (m ∷ ms) = elim (output_cases s p ms) [
  | inl (a, above, (q, inside)) ↦ inl (a, above, (q, Contains-rest m ms (record { from = p; act = Label a; to = q }) inside))
  | inr none ↦ elim (cases_eq m.from p) [
    | inr away ↦ inr (λ a q above inside. elim (Contains-first_cases m ms (record { from = p; act = Label a; to = q }) inside) [
      | inl same ↦ away (ap (λ x. x.from) same)
      | inr later ↦ none a q above later
    ])
    | inl here ↦ elim (act_cases m.act) [
      | inl tau ↦ inr (λ a q above inside. elim (Contains-first_cases m ms (record { from = p; act = Label a; to = q }) inside) [
        | inl same ↦ let e : Tau ≡ Label a = sym tau ∙ ap (λ x. x.act) same in cc
        | inr later ↦ none a q above later
      ])
      | inr (l, label) ↦ elim (cases_lt l s.inputs) [
        | inr above ↦ inl (l, above, (m.to, rw (← here, ← label) (Contains-first m ms)))
        | inl low ↦ inr (λ a q above inside. elim (Contains-first_cases m ms (record { from = p; act = Label a; to = q }) inside) [
          | inl same ↦ let is : l ≡ a = number l a (sym label ∙ ap (λ x. x.act) same) in absurd (omega (arith, low, above, is))
          | inr later ↦ none a q above later
        ])
      ]
    ]
  ]
]
  where
    number : (l a : ℕ) → Label l ≡ Label a → l ≡ a
    number l a e = cc

-- the state is stable, or it lies on a cycle of moves with Tau
abbrev pub IsAtRest : System → ℕ → Type 0
IsAtRest s r = IsStable s r ⊎ IsOnTauCycle s r

-- the states passed are distinct, and moves with Tau lead from each to the one at hand
walk : (s : System) → IsSystem s → (n : ℕ) (passed : List ℕ) (p : ℕ) → s.states < length passed + n → All (λ q. q < s.states) passed → p < s.states →
    AllPairs (λ x y. x ≢ y) passed → All (λ q. (r : ℕ) × HasMove s q Tau r × Leads s r [] p) passed → (r : ℕ) × Leads s p [] r × IsAtRest s r
walk s system zero passed p fuel low here once before =
    let within : length passed ≤ s.states = length-le_from_distinct_below passed s.states (IsDistinct-from_AllPairs Decides-eqb passed once) (λ q t. below q t) in
    absurd (omega (arith, fuel, within))
  where
    below : (q : ℕ) → list_any (eqb q) passed ≡ true → q < s.states
    below q t =
        let (k, y, inside, at, same) = Any-from_list_any (eqb q) passed t in
        let is : q ≡ y = (Decides-eqb q y).0 same in
        let found : Contains passed y = (k, inside, at) in
        rw is (All-contains (λ x. x < s.states) passed y low found)
walk s system (suc n) passed p fuel low here once before = elim (contains_number passed p) [
  | inl again ↦
      let (r, has, back) = All-contains (λ q. (r : ℕ) × HasMove s q Tau r × Leads s r [] p) passed p before again in
      let leads = TauLeads-from_leads s r p back in
      (p, Leads-here s p, inr (r, leads.0, (has, leads.1)))
  | inr fresh ↦ elim (tau_cases p s.moves) [
    | inr none ↦ (p, Leads-here s p, inl none)
    | inl (q, has) ↦
        let move = All-contains (IsMoveOf s.states (label_count s)) s.moves (record { from = p; act = Tau; to = q }) system.moves has in
        let other : (k d : ℕ) → k < length passed → get_or passed k d ≢ p = λ k d below same. fresh (rw same at (Contains-get_or passed k d below)) in
        let found = walk s system n (passed ++ p ∷ []) q (omega (arith, fuel, length_push passed p)) (All-push (λ q. q < s.states) passed p low here) move.to
        (all_pairs_push (λ x y. x ≢ y) passed p once other)
        (All-push (λ x. (r : ℕ) × HasMove s x Tau r × Leads s r [] q) passed p
        (λ k d below. let back = before k d below in (back.0, back.1, Leads-append s back.0 p q [] [] back.2 (Leads-tau s p q has)))
        (q, has, Leads-here s q)) in
        (found.0, Leads-append s p q found.0 [] [] (Leads-tau s p q has) found.1, found.2)
  ]
]

-- moves with Tau lead from each state to a stable one, or to one on a cycle
pub rests : (s : System) → IsSystem s → (p : ℕ) → p < s.states → (r : ℕ) × Leads s p [] r × IsAtRest s r
rests s system p below =
    walk s system (s.states + 1) [] p (omega arith) (All-nil (λ q. q < s.states)) below (λ j k d less low. omega (arith, low)) (All-nil (λ q. (r : ℕ) × HasMove s q Tau r × Leads s r [] p))

-- in a convergent system moves with Tau lead from each state to a stable one
pub IsConvergent-stable : (s : System) → IsSystem s → IsConvergent s → (p : ℕ) → p < s.states → (r : ℕ) × Leads s p [] r × IsStable s r
IsConvergent-stable s system convergent p below =
    let (r, leads, rest) = rests s system p below in (
      r,
      leads,
      elim rest [
        | inl stable ↦ stable
        | inr cycle ↦ absurd (none_from_IsConvergent s convergent r cycle)
      ],
    )

-- a trace ends at states
pub Ends-below : (s : System) (σ : List Item) (q : ℕ) → IsSystem s → Ends s σ q → q < s.states
Ends-below s σ q system (steps, on, e) = go steps s.start system.start on
  where
    go : (steps : List Step) (p : ℕ) → p < s.states → IsPath s p steps q → q < s.states
    go [] p low on = rw on at low
    go (Rest ∷ steps) p low on = go steps p low on.1
    go (Along m ∷ steps) p low on = let move = All-contains (IsMoveOf s.states (label_count s)) s.moves m system.moves on.1 in go steps m.to move.to on.2

-- a state at rest gives something
rest_gives : (s : System) (ps : List ℕ) (r : ℕ) → IsConvergentOrQuiet s → Contains ps r → IsAtRest s r → (x : Item) × Shows s ps x
rest_gives s ps r (inl convergent) inside (inr cycle) = absurd (none_from_IsConvergent s convergent r cycle)
rest_gives s ps r (inr quiet) inside (inr cycle) = (Delta, (r, inside, inr (quiet, cycle)))
rest_gives s ps r sound inside (inl stable) = elim (output_cases s r s.moves) [
  | inl (a, above, takes) ↦ (Output a, (r, inside, (above, takes)))
  | inr none ↦ (Delta, (r, inside, inl (stable, λ a above takes. none a takes.0 above takes.1)))
]

-- a set after a trace that isn't empty shows something, where the system is convergent or states on cycles are quiet
pub shows_something : (s : System) (σ : List Item) (ps : List ℕ) → IsSystem s → IsConvergentOrQuiet s → IsSetAfter s σ ps → 0 < length ps → (x : Item) × Shows s ps x
shows_something s σ ps system sound set some =
    let ends : Ends s σ (get_or ps 0 0) = set.each 0 0 some in
    let (r, leads, rest) = rests s system (get_or ps 0 0) (Ends-below s σ (get_or ps 0 0) system ends) in
    rest_gives s ps r sound (set.all r (Ends-silent s σ (get_or ps 0 0) r ends leads)) rest
