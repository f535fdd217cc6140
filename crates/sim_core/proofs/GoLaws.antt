-- Laws on internal moves that are drawn: those off the cycles pass no state twice.
use Rattle.std.proofs.Common.{◌≡◌, ◌≢◌, ℕ, ◌+◌, ◌-◌, ◌<◌, ◌≤◌, ◌%◌, true, List, [], ◌∷◌, ◌++◌, length, get_or, All, Contains, refl, ap, sym, ◌∙◌, subst, arith, inl, inr, eqb}
use Rattle.std.proofs.Common.{Option, Some, None}
use Rattle.std.specs.Option.{IfSome}
use Rattle.std.specs.List.{AllPairs, list_any}
use Rattle.std.proofs.lemmas.Nat.{mod_below}
use Rattle.std.proofs.lemmas.List.{length_push}
use Rattle.std.proofs.lemmas.List.Elements.{All-nil, All-push, All-contains}
use Rattle.std.proofs.lemmas.List.Quantifiers.{all_pairs_push}
use Rattle.std.proofs.lemmas.List.Folds.{Any-from_list_any}
use Rattle.std.proofs.lemmas.Map.Steps.{length-le_from_distinct_below}
use Rattle.std.proofs.lemmas.Map.Made.{IsDistinct-from_AllPairs}
use Rattle.std.proofs.lemmas.Bool.Decides.{Decides-eqb}
use Rattle.lts_base.specs.declared.action.Act.TheVariants.{Tau}
use Rattle.lts_base.specs.declared.action.Move.{Move}
use Rattle.lts_base.specs.System.{System, HasMove, IsMoveOf, IsSystem, AreMovesOf, TauLeads, IsOnTauCycle, IsOnQuietCycle, label_count}
use Rattle.lts_base.specs.Shape.{IsConvergentOrQuiet}
use Rattle.lts_base.proofs.TauLaws.{TauLeads-here, TauLeads-move, TauLeads-join, none_from_IsConvergent}
use Rattle.lts_base.proofs.Leads.{HasMove-from_parts}
use Rattle.lts_base.proofs.MoveLaws.{Contains-from_filter}
use Rattle.sim_core.specs.declared.among.Among.{Among}
use Rattle.sim_core.specs.Drawn.{is_open, open_of, open_moves, IsDrawn}
use Rattle.sim_core.specs.Simulated.{Place, Goes}

-- so many states were passed on the way to p: distinct ones, from each of which internal moves lead to p
pub record HasPassed (s : System) (count p : ℕ) : Type 0 where
  pub passed : List ℕ
  pub long : length passed ≡ count
  pub within : All (λ q. q < s.states) passed
  pub once : AllPairs (λ x y. x ≢ y) passed
  pub leads : All (λ q. (r : ℕ) × HasMove s q Tau r × TauLeads s r p) passed

passed_none : (s : System) (p : ℕ) → HasPassed s 0 p
passed_none s p = record {
  passed = [];
  long = refl;
  within = All-nil (λ q. q < s.states);
  once = λ j k d less low. omega (arith, low);
  leads = All-nil (λ q. (r : ℕ) × HasMove s q Tau r × TauLeads s r p);
}

-- distinct states are no more than there are
few_states : (n : ℕ) (ps : List ℕ) → All (λ q. q < n) ps → AllPairs (λ x y. x ≢ y) ps → length ps ≤ n
few_states n ps low once = length-le_from_distinct_below ps n (IsDistinct-from_AllPairs Decides-eqb ps once) below
  where
    below : (q : ℕ) → list_any (eqb q) ps ≡ true → q < n
    below q t =
        let (k, y, inside, at, same) = Any-from_list_any (eqb q) ps t in
        let is : q ≡ y = (Decides-eqb q y).0 same in
        let found : Contains ps y = (k, inside, at) in
        rw is (All-contains (λ x. x < n) ps y low found)

-- a state off the cycles isn't one of those passed
fresh : (s : System) (count p : ℕ) (h : HasPassed s count p) → (IsOnTauCycle s p → ⊥) → (k d : ℕ) → k < length h.passed → get_or h.passed k d ≢ p
fresh s count p h away k d below same =
    let (r, has, back) = h.leads k d below in
    away (r, back.0, (rw same at has, back.1))

-- a further internal move from a state off the cycles
passed_push : (s : System) (count p q : ℕ) → p < s.states → (IsOnTauCycle s p → ⊥) → HasMove s p Tau q → HasPassed s count p → HasPassed s (count + 1) q
passed_push s count p q low away has h = record {
  passed = h.passed ++ p ∷ [];
  long = length_push h.passed p ∙ ap (λ n. n + 1) h.long;
  within = All-push (λ x. x < s.states) h.passed p h.within low;
  once = all_pairs_push (λ x y. x ≢ y) h.passed p h.once (fresh s count p h away);
  leads = All-push (λ x. (r : ℕ) × HasMove s x Tau r × TauLeads s r q) h.passed p
      (λ k d below. let (r, move, rest) = h.leads k d below in (r, move, TauLeads-join s r p q rest (TauLeads-move s p q has)))
      (q, has, TauLeads-here s q);
}

-- fewer states were passed than there are
passed_few : (s : System) (count p : ℕ) → p < s.states → (IsOnTauCycle s p → ⊥) → HasPassed s count p → count < s.states
passed_few s count p low away h =
    let few = few_states s.states (h.passed ++ p ∷ []) (All-push (λ x. x < s.states) h.passed p h.within low) (all_pairs_push (λ x y. x ≢ y) h.passed p h.once (fresh s count p h away)) in
    omega (arith, few, length_push h.passed p, h.long)

-- a state that isn't on a quiet cycle is on none
pub off_cycles : (s : System) (p : ℕ) → IsConvergentOrQuiet s → (IsOnQuietCycle s p → ⊥) → IsOnTauCycle s p → ⊥
off_cycles s p (inl convergent) away on = none_from_IsConvergent s convergent p on
off_cycles s p (inr quiet) away on = away (quiet, on)

pub goes_push : {R : Type 0} (step : R → ℕ × R) (s : System) (among : Among) (p u : Place R) (ms : List Move) (m : Move) (next : R) → Goes step s among p ms u → (IsOnQuietCycle s u.at → ⊥) →
    IsDrawn step (open_moves s among u.at) u.rng m next → m.act ≡ Tau → Goes step s among p (ms ++ m ∷ []) (record { at = m.to; rng = next })
goes_push {R} step s among p u [] m next goes away drawn tau =
    (rw goes at away, next, subst (λ (z : Place R). IsDrawn step (open_moves s among z.at) z.rng m next) goes drawn, tau, refl)
goes_push step s among p u (n ∷ ms) m next (off, after, first, silent, rest) away drawn tau = (off, after, first, silent, goes_push step s among _ u ms m next rest away drawn tau)

-- a drawn move is one of the state's
pub drawn_move : {R : Type 0} (step : R → ℕ × R) (s : System) (p : ℕ) (among : Among) (ms : List Move) (rng : R) (m : Move) (next : R) → AreMovesOf s p ms → IsDrawn step (open_of among ms) rng m next →
    (m.from ≡ p) × Contains s.moves m
drawn_move step s p among ms rng m next these (some, is, after) =
    let k = (step rng).0 % length (open_of among ms) in
    let below : k < length (open_of among ms) = mod_below _ _ some in
    let inside : Contains (open_of among ms) m = (k, below, sym (is m)) in
    All-contains (λ (n : Move). (n.from ≡ p) × Contains s.moves n) ms m these.each (Contains-from_filter (λ (n : Move). is_open among n.act) ms m inside)

pub move_to : (s : System) (m : Move) → IsSystem s → Contains s.moves m → m.to < s.states
move_to s m system has = (All-contains (IsMoveOf s.states (label_count s)) s.moves m system.moves has).to

pub move_tau : (s : System) (p : ℕ) (m : Move) → m.from ≡ p → Contains s.moves m → m.act ≡ Tau → HasMove s p Tau m.to
move_tau s p m from has tau = HasMove-from_parts s m p Tau from tau has

-- what is drawn, if anything, is a move from the state to another
pub drawn_made : {R : Type 0} (step : R → ℕ × R) (s : System) (p : ℕ) (among : Among) (ms : List Move) (rng : R) (o : Option Move) (next : R) → IsSystem s → AreMovesOf s p ms →
    IfSome o (λ m. IsDrawn step (open_of among ms) rng m next) → IfSome o (λ m. (m.from ≡ p) × Contains s.moves m × (m.to < s.states))
drawn_made step s p among ms rng None next system these drawn = tt
drawn_made step s p among ms rng (Some m) next system these drawn =
    let one = drawn_move step s p among ms rng m next these drawn in
    (one.0, one.1, move_to s m system one.1)

-- so many states are left, besides those that were passed on the way to p
abbrev pub HasLeft : System → ℕ → ℕ → Type 0
HasLeft s left p = (count : ℕ) × HasPassed s count p × (count + left ≡ s.states)

pub left_all : (s : System) (left p : ℕ) → left ≡ s.states → HasLeft s left p
left_all s left p all = (0, passed_none s p, omega (arith, all))

pub left_some : (s : System) (left p : ℕ) → p < s.states → (IsOnTauCycle s p → ⊥) → HasLeft s left p → 1 ≤ left
left_some s left p low away (count, passed, all) = omega (arith, passed_few s count p low away passed, all)

pub left_push : (s : System) (left p q : ℕ) → p < s.states → (IsOnTauCycle s p → ⊥) → HasMove s p Tau q → HasLeft s left p → HasLeft s (left - 1) q
left_push s left p q low away has (count, passed, all) =
    (count + 1, passed_push s count p q low away has passed, omega (arith, passed_few s count p low away passed, all))
