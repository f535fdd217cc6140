-- Laws on sets of states after traces.
use Rattle.std.proofs.Common.{◌≡◌, ℕ, ◌<◌, List, [], ◌∷◌, ◌++◌, length, get_or, inl, inr, sym, ◌∙◌, arith}
use Rattle.std.proofs.lemmas.List.Elements.{All-contains, All-weaker}
use Rattle.lts_base.specs.declared.action.Act.TheVariants.{Label}
use Rattle.lts_base.specs.declared.item.Item.{Item}
use Rattle.lts_base.specs.declared.item.Item.TheVariants.{Input, Output, Delta}
use Rattle.lts_base.specs.System.{System, IsSystem, IsMoveOf, label_count, IsItemOf}
use Rattle.lts_base.specs.Path.{Leads, Ends, Has, IsSeen}
use Rattle.lts_base.specs.After.{IsSetAfter, Shows, ShowsAfter, Gives}
use Rattle.lts_base.specs.Next.{IsNext, Reaches}
use Rattle.lts_base.proofs.ListLaws.{ascending_unique}
use Rattle.lts_base.proofs.Leads.{Leads-split, Leads-one, Ends-push, Ends-silent, IsSeen-cases, item_of_cases, IsSeen-output, IsSeen-delta, IsSeen-from_output, IsSeen-from_quiet}

-- a set after a trace is unique
pub IsSetAfter-unique : (s : System) (σ : List Item) (ps qs : List ℕ) → IsSetAfter s σ ps → IsSetAfter s σ qs → ps ≡ qs
IsSetAfter-unique s σ ps qs one other =
    ascending_unique ps qs one.rising other.rising
    (λ q inside. other.all q (All-contains (Ends s σ) ps q one.each inside))
    (λ q inside. one.all q (All-contains (Ends s σ) qs q other.each inside))

-- the next list is unique
pub IsNext-unique : (s : System) (x : Item) (ps qs rs : List ℕ) → IsNext s x ps qs → IsNext s x ps rs → qs ≡ rs
IsNext-unique s x ps qs rs one other =
    ascending_unique qs rs one.rising other.rising
    (λ q inside. other.all q (All-contains (Reaches s ps x) qs q one.each inside))
    (λ q inside. one.all q (All-contains (Reaches s ps x) rs q other.each inside))

-- a path whose trace has a last item sees the others first, then it, and then moves with Tau
pub Ends-last : (s : System) (σ : List Item) (x : Item) (q : ℕ) → Ends s (σ ++ x ∷ []) q → (p : ℕ) × (r : ℕ) × Ends s σ p × IsSeen s p x r × Leads s r [] q
Ends-last s σ x q (steps, on, e) =
    let (m, first, (more, next, f)) = Leads-split s σ (x ∷ []) steps s.start q on e in
    let (p, r, before, seen, after) = Leads-one s x more m q next f in
    (p, r, Ends-silent s σ m p first before, seen, after)

-- the next list of the set after a trace is the set after the trace with the item
pub IsSetAfter-next : (s : System) (x : Item) (σ : List Item) (ps qs : List ℕ) → IsSetAfter s σ ps → IsNext s x ps qs → IsSetAfter s (σ ++ x ∷ []) qs
IsSetAfter-next s x σ ps qs set step = record {
  rising = step.rising;
  each = All-weaker (Reaches s ps x) (Ends s (σ ++ x ∷ [])) reached qs step.each;
  all = λ q ends. step.all q (reaches q ends);
}
  where
    reached : (q : ℕ) → Reaches s ps x q → Ends s (σ ++ x ∷ []) q
    reached q (p, r, inside, seen, silent) =
        Ends-silent s (σ ++ x ∷ []) r q (Ends-push s σ p x r (All-contains (Ends s σ) ps p set.each inside) seen) silent

    reaches : (q : ℕ) → Ends s (σ ++ x ∷ []) q → Reaches s ps x q
    reaches q ends =
        let (p, r, before, seen, silent) = Ends-last s σ x q ends in
        (p, r, set.all p before, seen, silent)

-- a trace with a member in its set is one that the system has
pub Has-from_set : (s : System) (σ : List Item) (ps : List ℕ) → IsSetAfter s σ ps → 0 < length ps → Has s σ
Has-from_set s σ ps set some = (get_or ps 0 0, set.each 0 0 some)

-- the set after a trace that the system has isn't empty
pub Has-set_some : (s : System) (σ : List Item) (ps : List ℕ) → IsSetAfter s σ ps → Has s σ → 0 < length ps
Has-set_some s σ ps set (q, ends) =
    let (k, below, at) = set.all q ends in
    omega (arith, below)

-- with a trace a system has its front
pub Has-front : (s : System) (σ : List Item) (x : Item) → Has s (σ ++ x ∷ []) → Has s σ
Has-front s σ x (q, ends) =
    let (p, r, before, seen, silent) = Ends-last s σ x q ends in
    (p, before)

-- what is seen is an item of the alphabet
pub IsSeen-item : (s : System) (p : ℕ) (x : Item) (q : ℕ) → IsSystem s → IsSeen s p x q → IsItemOf s x
IsSeen-item s p x q system seen = elim (IsSeen-cases s p x q seen) [
  | inl (a, inside, is) ↦
      let move = All-contains (IsMoveOf s.states (label_count s)) s.moves (record { from = p; act = Label a; to = q }) system.moves inside in
      elim (item_of_cases s a) [
        | inl (low, as_input) ↦ let e : x ≡ Input a = sym is ∙ as_input in rw e low
        | inr (high, as_output) ↦ let e : x ≡ Output a = sym is ∙ as_output in rw e (high, move.act)
      ]
  | inr (quiet, here, is) ↦ rw (← is) tt
]

-- each item of a trace of the system is one of its alphabet
pub Has-item : (s : System) (σ : List Item) (x : Item) → IsSystem s → Has s (σ ++ x ∷ []) → IsItemOf s x
Has-item s σ x system (q, ends) =
    let (p, r, before, seen, silent) = Ends-last s σ x q ends in
    IsSeen-item s p x r system seen

-- what the set shows is shown after the trace
pub ShowsAfter-from_shows : (s : System) (σ : List Item) (ps : List ℕ) (x : Item) → IsSetAfter s σ ps → Shows s ps x → ShowsAfter s σ x
ShowsAfter-from_shows s σ ps x set (q, inside, gives) = (q, All-contains (Ends s σ) ps q set.each inside, gives)

-- what is shown after the trace is shown by the set
pub Shows-from_after : (s : System) (σ : List Item) (ps : List ℕ) (x : Item) → IsSetAfter s σ ps → ShowsAfter s σ x → Shows s ps x
Shows-from_after s σ ps x set (q, ends, gives) = (q, set.all q ends, gives)

-- what is seen as an output or as `delta` is given
pub Gives-from_output : (s : System) (p a q : ℕ) → IsSeen s p (Output a) q → Gives s p (Output a)
Gives-from_output s p a q seen = ((IsSeen-output s p a q seen).1, (q, (IsSeen-output s p a q seen).0))

pub Gives-from_delta : (s : System) (p q : ℕ) → IsSeen s p Delta q → Gives s p Delta
Gives-from_delta s p q seen = (IsSeen-delta s p q seen).0

-- what is given, and is an item of the alphabet, is seen
pub Gives-seen : (s : System) (p : ℕ) (x : Item) → IsItemOf s x → Gives s p x → (q : ℕ) × IsSeen s p x q
Gives-seen s p (Input a) item gives = absurd gives
Gives-seen s p (Output a) item gives = (gives.1.0, IsSeen-from_output s p a gives.1.0 item.0 gives.1.1)
Gives-seen s p Delta item gives = (p, IsSeen-from_quiet s p gives)

-- an item that a list of states shows is one of the alphabet
pub Shows-item : (s : System) (ps : List ℕ) (x : Item) → IsSystem s → Shows s ps x → IsItemOf s x
Shows-item s ps (Input a) system (q, inside, gives) = absurd gives
Shows-item s ps (Output a) system (q, inside, (high, (r, has))) =
    let move = All-contains (IsMoveOf s.states (label_count s)) s.moves (record { from = q; act = Label a; to = r }) system.moves has in
    (high, move.act)
Shows-item s ps Delta system shows = tt
