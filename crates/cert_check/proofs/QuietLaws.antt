-- Laws on the marks of the quiet states, and on the search for the way back to a state.
use Rattle.std.proofs.Common.{◌≡◌, ◌↔◌, ℕ, ◌+◌, ◌<◌, ◌≤◌, List, [], ◌∷◌, ◌++◌, length, get_or, All, Contains, Bool, true, false, not, inl, inr, refl, sym, ◌∙◌, ap, arith}
use Rattle.std.specs.Prelude.{IsTrue}
use Rattle.std.proofs.lemmas.List.{length-append, length_push, get_or_push, get_or_append_left, get_or_default, get_or_read}
use Rattle.std.proofs.lemmas.List.Elements.{All-append, All-weaker, Contains-append_left}
use Rattle.std.proofs.lemmas.Bool.{cases_lt, false≢true}
use Rattle.lts_base.specs.declared.action.Act.TheVariants.{Tau, Label}
use Rattle.lts_base.specs.declared.action.Move.{Move}
use Rattle.lts_base.specs.declared.divergence.Divergence.TheVariants.{Refuse, Quiet}
use Rattle.lts_base.specs.System.{System, HasMove, IsQuiet, IsOnTauCycle, IsTauPath, TauLeads, AreMovesOf}
use Rattle.lts_base.proofs.Leads.{HasMove-from_parts}
use Rattle.lts_base.proofs.TauLaws.{TauLeads-here, TauLeads-move, TauLeads-join}
use Rattle.lts_base.proofs.ListLaws.{none_contained}
use Rattle.lts_base.specs.Finds.{Adds}
use Rattle.cert_check.specs.Quiet.{AreQuiet, GivesSome}

-- a move with Tau leads from p to a state from which such moves lead to q
abbrev pub ComesTo : System → ℕ → ℕ → Type 0
ComesTo s p q = (r : ℕ) × HasMove s p Tau r × TauLeads s r q

-- from the first i finds the moves with Tau have been followed, and none of them is the state
pub record IsReturning (s : System) (p : ℕ) (found : List ℕ) (i : ℕ) : Type 0 where
  pub each : All (ComesTo s p) found
  pub first : (q : ℕ) → HasMove s p Tau q → Contains found q
  pub closed : (k d r : ℕ) → k < i → HasMove s (get_or found k d) Tau r → Contains found r
  pub other : (k d : ℕ) → k < i → get_or found k d ≡ p → ⊥
  pub within : i ≤ length found

pub IsReturning-none : (s : System) (p : ℕ) (old found : List ℕ) → old ≡ [] → Adds (HasMove s p Tau) old found → IsReturning s p found 0
IsReturning-none s p old found none adds =
    let (more, grown, all) = adds.kept in
    let same : found ≡ more = grown ∙ rw none refl in
    record {
      each = rw same (All-weaker (HasMove s p Tau) (ComesTo s p) (λ q has. (q, has, TauLeads-here s q)) more all);
      first = adds.all;
      closed = λ k d r below. absurd (omega (arith, below));
      other = λ k d below. absurd (omega (arith, below));
      within = omega arith;
    }

pub IsReturning-more : (s : System) (p q : ℕ) (old new : List ℕ) (i : ℕ) → i < length old → q ≡ get_or old i 0 → (q ≡ p → ⊥) → Adds (HasMove s q Tau) old new → IsReturning s p old i → IsReturning s p new (i + 1)
IsReturning-more s p q old new i inside is_q away adds is =
    let (more, grown, all) = adds.kept in
    record {
      each = rw grown (All-append (ComesTo s p) old more is.each (All-weaker (HasMove s q Tau) (ComesTo s p) follows more all));
      first = λ r has. rw grown (Contains-append_left old more r (is.first r has));
      closed = λ k d r below has.
          let low : k < length old = omega (arith, below, inside) in
          let has' : HasMove s (get_or old k d) Tau r = rw (grown, get_or_append_left old more d k low) at has in
          elim (cases_lt k i) [
            | inl earlier ↦ rw grown (Contains-append_left old more r (is.closed k d r earlier has'))
            | inr late ↦
                let same : k ≡ i = omega (arith, late, below) in
                let here : HasMove s (get_or old i d) Tau r = rw same at has' in
                adds.all r (rw (is_q, get_or_default old i 0 d inside) here)
          ];
      other = λ k d below e.
          let low : k < length old = omega (arith, below, inside) in
          let e' : get_or old k d ≡ p = rw (grown, get_or_append_left old more d k low) at e in
          elim (cases_lt k i) [
            | inl earlier ↦ is.other k d earlier e'
            | inr late ↦
                let same : k ≡ i = omega (arith, late, below) in
                let here : get_or old i d ≡ p = rw same at e' in
                away (is_q ∙ get_or_default old i 0 d inside ∙ here)
          ];
      within =
          let longer : length new ≡ length old + length more = rw grown (length-append old more) in
          omega (arith, longer, inside);
    }
  where
    follows : (r : ℕ) → HasMove s q Tau r → ComesTo s p r
    follows r has =
        let (first, begins, leads) = is.each i 0 inside in
        let leads' : TauLeads s first q = rw is_q leads in
        (first, begins, TauLeads-join s first q r leads' (TauLeads-move s q r has))

-- the state was met
pub IsReturning-met : (s : System) (p q : ℕ) (found : List ℕ) (i : ℕ) → i < length found → q ≡ get_or found i 0 → q ≡ p → IsReturning s p found i → IsOnTauCycle s p
IsReturning-met s p q found i inside is_q met is =
    let (r, begins, leads) = is.each i 0 inside in
    let leads' : TauLeads s r p = rw (← met, is_q) leads in
    (r, leads'.0, (begins, leads'.1))

-- all finds have been followed and the state wasn't met
pub IsReturning-all : (s : System) (p : ℕ) (found : List ℕ) (n : ℕ) → length found ≤ n → IsReturning s p found n → IsOnTauCycle s p → ⊥
IsReturning-all s p found n over is (r, rs, on) = go rs r (is.first r on.0) on.1
  where
    go : (rs : List ℕ) (q : ℕ) → Contains found q → IsTauPath s q rs p → ⊥
    go [] q here on = none_contained (λ q. q ≡ p → ⊥) found n over (λ k d below. is.other k d below) q here on
    go (t ∷ rs) q here on = go rs t (none_contained (λ q. HasMove s q Tau t → Contains found t) found n over (λ k d below. is.closed k d t below) q here on.0) on.1

-- none of the first i moves of the state carries an output
pub none_given : (s : System) (p : ℕ) (ms : List Move) (n : ℕ) → AreMovesOf s p ms → length ms ≤ n → ((k : ℕ) (d : Move) (a : ℕ) → k < n → (get_or ms k d).act ≡ Label a → s.inputs ≤ a → ⊥) → GivesSome s p → ⊥
none_given s p ms n these over none (a, above, takes) =
    none_contained (λ (m : Move). m.act ≡ Label a → ⊥) ms n over (λ k d below e. none k d a below e above)
    (record { from = p; act = Label a; to = takes.0 }) (these.all (record { from = p; act = Label a; to = takes.0 }) refl takes.1) refl

pub given : (s : System) (p a : ℕ) (ms : List Move) (i : ℕ) (d : Move) → AreMovesOf s p ms → i < length ms → (get_or ms i d).act ≡ Label a → s.inputs ≤ a → GivesSome s p
given s p a ms i d these inside label above =
    let each = these.each i d inside in
    (a, above, ((get_or ms i d).to, HasMove-from_parts s (get_or ms i d) p (Label a) each.0 label each.1))

-- a stable state is quiet where it gives no output
pub stable_quiet : (s : System) (p : ℕ) (b : Bool) → (((q : ℕ) × HasMove s p Tau q) → ⊥) → IsTrue b ↔ GivesSome s p → IsTrue (not b) ↔ IsQuiet s p
stable_quiet s p true stable gives = (λ t. absurd (false≢true t), λ quiet. absurd (go quiet))
  where
    go : IsQuiet s p → ⊥
    go (inl (still, none)) = let (a, above, takes) = gives.0 refl in none a above takes
    go (inr (quiet, (r, rs, on))) = stable (r, on.0)
stable_quiet s p false stable gives = (λ _. inl (λ q has. stable (q, has), λ a above takes. false≢true (gives.1 (a, above, takes))), λ _. refl)

-- a state that isn't stable isn't quiet where cycles mean nothing
pub moving_refused : (s : System) (p : ℕ) → s.divergence ≡ Refuse → ((q : ℕ) × HasMove s p Tau q) → IsQuiet s p → ⊥
moving_refused s p refuse moves (inl (still, none)) = still moves.0 moves.1
moving_refused s p refuse moves (inr (quiet, cycle)) = let e : Quiet ≡ Refuse = sym quiet ∙ refuse in cc

-- and else it is where it lies on a cycle
pub moving_quiet : (s : System) (p : ℕ) (b : Bool) → s.divergence ≡ Quiet → ((q : ℕ) × HasMove s p Tau q) → IsTrue b ↔ IsOnTauCycle s p → IsTrue b ↔ IsQuiet s p
moving_quiet s p b quiet moves cycle = (λ t. inr (quiet, cycle.0 t), λ is. go is)
  where
    go : IsQuiet s p → IsTrue b
    go (inl (still, none)) = absurd (still moves.0 moves.1)
    go (inr (_, on)) = cycle.1 on

pub AreQuiet-none : (s : System) → AreQuiet s 0 []
AreQuiet-none s = record { long = refl; each = λ q below. absurd (omega (arith, below)) }

pub AreQuiet-more : (s : System) (n : ℕ) (marks : List Bool) (b : Bool) → IsTrue b ↔ IsQuiet s n → AreQuiet s n marks → AreQuiet s (n + 1) (marks ++ b ∷ [])
AreQuiet-more s n marks b told are = record {
  long = length_push marks b ∙ ap {A = ℕ} {B = ℕ} (λ k. k + 1) are.long;
  each = λ q below. elim (cases_lt q n) [
    | inl before ↦ rw (get_or_append_left marks (b ∷ []) false q (omega (arith, before, are.long))) (are.each q before)
    | inr after ↦
        let same : q ≡ n = omega (arith, below, after) in
        let end : length marks ≡ n = are.long in
        rw (same, get_or_push marks b false n end) told
  ];
}

pub AreQuiet-all : (s : System) (n count : ℕ) (marks : List Bool) → s.states ≡ count → count ≤ n → n ≤ count → AreQuiet s n marks → AreQuiet s s.states marks
AreQuiet-all s n count marks same over within are = let e : n ≡ s.states = omega (arith, same, over, within) in rw e at are

pub read_quiet : (s : System) (marks : List Bool) (q : ℕ) (b : Bool) → AreQuiet s s.states marks → q < s.states → b ≡ get_or marks q b → IsTrue b ↔ IsQuiet s q
read_quiet s marks q b are below read =
    let is : b ≡ get_or marks q false = get_or_read marks q b (rw are.long below) read false in
    let both = are.each q below in
    (λ t. both.0 (sym is ∙ t), λ quiet. is ∙ both.1 quiet)

-- the next move carries no output
pub none_next : (s : System) (ms : List Move) (i inputs : ℕ) (e : Move) → ((a : ℕ) → (get_or ms i e).act ≡ Label a → inputs ≤ a → ⊥) → i < length ms →
    ((k : ℕ) (d : Move) (a : ℕ) → k < i → (get_or ms k d).act ≡ Label a → inputs ≤ a → ⊥) → (k : ℕ) (d : Move) (a : ℕ) → k < i + 1 → (get_or ms k d).act ≡ Label a → inputs ≤ a → ⊥
none_next s ms i inputs e here inside before k d a below label above = elim (cases_lt k i) [
  | inl earlier ↦ before k d a earlier label above
  | inr late ↦
      let same : k ≡ i = omega (arith, late, below) in
      here a (rw (get_or_default ms i e d inside) (rw same at label)) above
]

pub tau_none : (m : Move) (inputs : ℕ) → m.act ≡ Tau → (a : ℕ) → m.act ≡ Label a → inputs ≤ a → ⊥
tau_none m inputs tau a label above = let e : Tau ≡ Label a = sym tau ∙ label in cc

pub input_none : (m : Move) (inputs b : ℕ) → m.act ≡ Label b → b < inputs → (a : ℕ) → m.act ≡ Label a → inputs ≤ a → ⊥
input_none m inputs b is low a label above = let same : b ≡ a = number b a (sym is ∙ label) in omega (arith, same, low, above)
  where
    number : (b a : ℕ) → Label b ≡ Label a → b ≡ a
    number b a e = cc

abbrev pub NoneGiven : List Move → ℕ → ℕ → Type 0
NoneGiven ms inputs n = (k : ℕ) (d : Move) (a : ℕ) → k < n → (get_or ms k d).act ≡ Label a → inputs ≤ a → ⊥

pub none_next_tau : (s : System) (ms : List Move) (i inputs : ℕ) (e : Move) → (get_or ms i e).act ≡ Tau → i < length ms → NoneGiven ms inputs i → NoneGiven ms inputs (i + 1)
none_next_tau s ms i inputs e tau inside before = none_next s ms i inputs e (λ a label above. tau_none (get_or ms i e) inputs tau a label above) inside before

pub none_next_input : (s : System) (ms : List Move) (i inputs b : ℕ) (e : Move) → (get_or ms i e).act ≡ Label b → b < inputs → i < length ms → NoneGiven ms inputs i → NoneGiven ms inputs (i + 1)
none_next_input s ms i inputs b e is low inside before = none_next s ms i inputs e (λ a label above. input_none (get_or ms i e) inputs b is low a label above) inside before
