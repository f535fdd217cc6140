-- Laws on states that moves with Tau lead back to, and on the flags that a system keeps of them.
use Rattle.std.proofs.Common.{◌≡◌, ◌≢◌, ◌↔◌, ℕ, ◌<◌, List, [], ◌∷◌, ◌++◌, inl, inr, refl, sym, ◌∙◌, subst, get_or, Bool, false}
use Rattle.std.specs.Bool.{IsTrue}
use Rattle.std.proofs.lemmas.List.{get_or_read}
use Rattle.lts_base.specs.declared.action.Act.TheVariants.{Tau}
use Rattle.lts_base.specs.System.{System, HasMove}
use Rattle.lts_base.specs.Path.{item_of, trace_of, Leads}
use Rattle.lts_base.specs.Shape.{IsConvergent}
use Rattle.lts_base.proofs.Leads.{act_cases, HasMove-from_parts, Leads-here, Leads-append, Leads-tau, Leads-closed}
use Rattle.lts_base.specs.declared.divergence.Divergence.{Divergence}
use Rattle.lts_base.specs.declared.divergence.Divergence.TheVariants.{Quiet}
use Rattle.lts_base.specs.System.{IsTauPath, TauLeads, IsOnTauCycle, IsOnQuietCycle, AreCycleFlags, quieted}
use Rattle.lts_base.specs.Built.{AreFlagsFor, IsLaidOut}

-- paths join
IsTauPath-append : (s : System) (ps qs : List ℕ) (p q r : ℕ) → IsTauPath s p ps q → IsTauPath s q qs r → IsTauPath s p (ps ++ qs) r
IsTauPath-append s [] qs p q r on next = rw on next
IsTauPath-append s (t ∷ ps) qs p q r on next = (on.0, IsTauPath-append s ps qs t q r on.1 next)

pub TauLeads-here : (s : System) (p : ℕ) → TauLeads s p p
TauLeads-here s p = ([], refl)

pub TauLeads-move : (s : System) (p q : ℕ) → HasMove s p Tau q → TauLeads s p q
TauLeads-move s p q has = (q ∷ [], (has, refl))

pub TauLeads-join : (s : System) (p q r : ℕ) → TauLeads s p q → TauLeads s q r → TauLeads s p r
TauLeads-join s p q r (ps, on) (qs, next) = (ps ++ qs, IsTauPath-append s ps qs p q r on next)

-- what holds of a state, and is kept by moves with Tau, holds of each state that moves with Tau lead to
TauLeads-closed : (s : System) (P : ℕ → Type 0) → ((p q : ℕ) → P p → HasMove s p Tau q → P q) → (p q : ℕ) → P p → TauLeads s p q → P q
TauLeads-closed s P keeps p q here (rs, on) = go rs p here on
  where
    go : (rs : List ℕ) (p : ℕ) → P p → IsTauPath s p rs q → P q
    go [] p here on = rw on at here
    go (r ∷ rs) p here on = go rs r (keeps p r here on.0) on.1

-- two states that lead to each other
pub IsOnTauCycle-two : (s : System) (p q : ℕ) → p ≢ q → TauLeads s p q → TauLeads s q p → IsOnTauCycle s p
IsOnTauCycle-two s p q apart (rs, on) (more, next) = go rs on
  where
    go : (rs : List ℕ) → IsTauPath s p rs q → IsOnTauCycle s p
    go [] on = absurd (apart on)
    go (r ∷ rs) on = (r, rs ++ more, IsTauPath-append s (r ∷ rs) more p q p on next)

-- a path, and a move back
pub IsOnTauCycle-back : (s : System) (p q : ℕ) → TauLeads s p q → HasMove s q Tau p → IsOnTauCycle s p
IsOnTauCycle-back s p q (rs, on) has = go rs on
  where
    go : (rs : List ℕ) → IsTauPath s p rs q → IsOnTauCycle s p
    go [] on = (p, [], (rw (← on) at has, refl))
    go (r ∷ rs) on = (r, rs ++ p ∷ [], IsTauPath-append s (r ∷ rs) (p ∷ []) p q p on (has, refl))

-- where each move with Tau leads to states from which none leads out, all of them others, nothing leads back
pub IsOnTauCycle-none : (s : System) (P : ℕ → Type 0) (p : ℕ) → ((q r : ℕ) → P q → HasMove s q Tau r → P r) → ((q : ℕ) → HasMove s p Tau q → P q) → (P p → ⊥) → IsOnTauCycle s p → ⊥
IsOnTauCycle-none s P p keeps first apart (r, rs, on) = apart (TauLeads-closed s P keeps r p (first r on.0) (rs, on.1))

-- the same as a path of the system with the empty trace
pub Leads-from_tau_leads : (s : System) (p q : ℕ) → TauLeads s p q → Leads s p [] q
Leads-from_tau_leads s p q reaches = TauLeads-closed s (λ r. Leads s p [] r) (λ r t leads has. Leads-append s p r t [] [] leads (Leads-tau s r t has)) p q (Leads-here s p) reaches

pub TauLeads-from_leads : (s : System) (p q : ℕ) → Leads s p [] q → TauLeads s p q
TauLeads-from_leads s p q leads = Leads-closed s (λ r. TauLeads s p r) (λ r t reaches has. TauLeads-join s p r t reaches (TauLeads-move s r t has)) p q (TauLeads-here s p) leads

-- a system is convergent exactly where no state is on a cycle
pub IsConvergent-from_none : (s : System) → ((p : ℕ) → IsOnTauCycle s p → ⊥) → IsConvergent s
IsConvergent-from_none s none q m steps on e = elim (act_cases m.act) [
  | inl tau ↦
      let e' : trace_of s steps ≡ [] = rw tau at e in
      let back = TauLeads-from_leads s m.to q (steps, on.2, e') in
      none q (m.to, back.0, (HasMove-from_parts s m q Tau on.0 tau on.1, back.1))
  | inr (l, label) ↦
      let e' : item_of s l ∷ trace_of s steps ≡ [] = rw label at e in
      cc
]

pub none_from_IsConvergent : (s : System) → IsConvergent s → (p : ℕ) → IsOnTauCycle s p → ⊥
none_from_IsConvergent s convergent p (r, rs, on) =
    let (steps, path, e) = Leads-from_tau_leads s r p (rs, on.1) in
    convergent p (record { from = p; act = Tau; to = r }) steps (refl, on.0, path) e

pub IsConvergent-exactly : (s : System) → IsConvergent s ↔ ((p : ℕ) → IsOnTauCycle s p → ⊥)
IsConvergent-exactly s = (none_from_IsConvergent s, IsConvergent-from_none s)

-- systems with the same moves have the same cycles
IsTauPath-same : (s t : System) → s.moves ≡ t.moves → (p : ℕ) (rs : List ℕ) (q : ℕ) → IsTauPath s p rs q → IsTauPath t p rs q
IsTauPath-same s t same p [] q on = on
IsTauPath-same s t same p (r ∷ rs) q on = (rw same at on.0, IsTauPath-same s t same r rs q on.1)

pub IsOnTauCycle-same : (s t : System) (p : ℕ) → s.moves ≡ t.moves → IsOnTauCycle s p → IsOnTauCycle t p
IsOnTauCycle-same s t p same (r, rs, on) = (r, rs, IsTauPath-same s t same p (r ∷ rs) p on)

-- what a flag says in a system that is read so that states on cycles are quiet
pub IsOnQuietCycle-flag : (s : System) (flags : List Bool) (p : ℕ) (b : Bool) → s.divergence ≡ Quiet → AreFlagsFor s.divergence s flags → p < s.states → b ≡ get_or flags p b →
    IsTrue b ↔ IsOnQuietCycle s p
IsOnQuietCycle-flag s flags p b quiet kept below is =
    let known : AreCycleFlags s flags = subst (λ (d : Divergence). AreFlagsFor d s flags) quiet kept in
    let read : b ≡ get_or flags p false = get_or_read flags p b (rw known.long below) is false in
    let both = known.each p below in
    (λ t. (quiet, both.0 (sym read ∙ t)), λ on. read ∙ both.1 on.1)

AreCycleFlags-same : (s t : System) (flags : List Bool) → s.states ≡ t.states → s.moves ≡ t.moves → AreCycleFlags s flags → AreCycleFlags t flags
AreCycleFlags-same s t flags states moves known = record {
  long = known.long ∙ states;
  each = λ p below.
      let both = known.each p (rw states below) in
      (λ e. IsOnTauCycle-same s t p moves (both.0 e), λ on. both.1 (IsOnTauCycle-same t s p (sym moves) on));
}

-- a system that is laid out is so too where it is read so that states on cycles are quiet
pub IsLaidOut-quieted : (s : System) (places : List ℕ) (marks flags : List Bool) → IsLaidOut s places marks → AreCycleFlags s flags → IsLaidOut (quieted s) places flags
IsLaidOut-quieted s places marks flags laid known = record {
  system = record { start = laid.system.start; states = laid.system.states; few = laid.system.few; moves = laid.system.moves; sorted = laid.system.sorted };
  by_state = laid.by_state;
  offsets = laid.offsets;
  flags = AreCycleFlags-same s (quieted s) flags refl refl known;
}
