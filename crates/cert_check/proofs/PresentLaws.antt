-- Laws on the labels that a list of states may step with.
use Rattle.std.proofs.Common.{◌≡◌, ℕ, ◌+◌, ◌<◌, ◌≤◌, List, [], ◌∷◌, ◌++◌, length, get_or, set, replicate, All, Contains, Bool, true, false, inl, inr, refl, sym, ◌∙◌, ap, arith, length-set}
use Rattle.std.proofs.lemmas.List.{get_or_default, get_or_push, get_or-set_same, get_or-set_other, length_push, length-replicate}
use Rattle.std.proofs.lemmas.List.Elements.{All-contains}
use Rattle.std.proofs.lemmas.Bool.{cases_eq, cases_lt, false≢true}
use Rattle.lts_base.specs.declared.action.Act.TheVariants.{Tau, Label}
use Rattle.lts_base.specs.declared.action.Move.{Move}
use Rattle.lts_base.specs.declared.item.Item.{Item}
use Rattle.lts_base.specs.declared.item.Item.TheVariants.{Input, Output, Delta}
use Rattle.lts_base.specs.declared.item.Mode.{Mode}
use Rattle.lts_base.specs.System.{System, IsSystem, IsMoveOf, IsActOf, IsItemOf, Takes, AreMovesOf, label_count}
use Rattle.lts_base.specs.Path.{IsSeen}
use Rattle.lts_base.specs.After.{Shows}
use Rattle.lts_base.specs.Next.{Reaches}
use Rattle.lts_base.specs.Order.{place}
use Rattle.lts_base.specs.Reached.{Row}
use Rattle.lts_base.proofs.Leads.{IsSeen-input, IsSeen-output}
use Rattle.lts_base.proofs.SetLaws.{Gives-seen}
use Rattle.lts_base.proofs.ListLaws.{none_contained}
use Rattle.cert_check.specs.Present.{Marks, ArePresent}
use Rattle.cert_check.specs.Progress.{IsClosedFor}

-- of the moves of the state the first i have been looked at
pub record IsMarking (old new : List Bool) (ms : List Move) (i : ℕ) : Type 0 where
  pub long : length new ≡ length old
  pub kept : (k : ℕ) → get_or old k false ≡ true → get_or new k false ≡ true
  pub looked : (k : ℕ) (d : Move) (a : ℕ) → k < i → (get_or ms k d).act ≡ Label a → get_or new a false ≡ true

pub IsMarking-none : (old : List Bool) (ms : List Move) → IsMarking old old ms 0
IsMarking-none old ms = record { long = refl; kept = λ k t. t; looked = λ k d a below. absurd (omega (arith, below)) }

pub IsMarking-tau : (old new : List Bool) (ms : List Move) (i : ℕ) (e : Move) → i < length ms → (get_or ms i e).act ≡ Tau → IsMarking old new ms i → IsMarking old new ms (i + 1)
IsMarking-tau old new ms i e inside tau is = record {
  long = is.long;
  kept = is.kept;
  looked = λ k d a below label. elim (cases_lt k i) [
    | inl earlier ↦ is.looked k d a earlier label
    | inr late ↦
        let same : k ≡ i = omega (arith, late, below) in
        let here : (get_or ms i e).act ≡ Label a = rw (get_or_default ms i e d inside) (rw same at label) in
        let e : Tau ≡ Label a = sym tau ∙ here in
        cc
  ];
}

marked_still : (marks : List Bool) (a k : ℕ) → a < length marks → get_or marks k false ≡ true → get_or (set marks a true) k false ≡ true
marked_still marks a k inside t = elim (cases_eq k a) [
  | inl same ↦ rw same (get_or-set_same marks a true false inside)
  | inr other ↦ get_or-set_other marks a k true false other ∙ t
]

number : (a b : ℕ) → Label a ≡ Label b → a ≡ b
number a b e = cc

pub IsMarking-label : (old new : List Bool) (ms : List Move) (i b : ℕ) (e : Move) → i < length ms → (get_or ms i e).act ≡ Label b → b < length new → IsMarking old new ms i → IsMarking old (set new b true) ms (i + 1)
IsMarking-label old new ms i b e inside carries within is = record {
  long = length-set new b true ∙ is.long;
  kept = λ k t. marked_still new b k within (is.kept k t);
  looked = λ k d a below label. elim (cases_lt k i) [
    | inl earlier ↦ marked_still new b a within (is.looked k d a earlier label)
    | inr late ↦
        let same : k ≡ i = omega (arith, late, below) in
        let here : (get_or ms i e).act ≡ Label a = rw (get_or_default ms i e d inside) (rw same at label) in
        let e : b ≡ a = number b a (sym carries ∙ here) in
        rw (← e) (get_or-set_same new b true false within)
  ];
}

pub IsMarking-all : (s : System) (p : ℕ) (old new : List Bool) (ms : List Move) (n : ℕ) → AreMovesOf s p ms → length ms ≤ n → IsMarking old new ms n → Marks s p old new
IsMarking-all s p old new ms n these over is = record {
  long = is.long;
  kept = is.kept;
  marked = λ a takes. none_contained (λ (m : Move). m.act ≡ Label a → get_or new a false ≡ true) ms n over (λ k d below. is.looked k d a below)
      (record { from = p; act = Label a; to = takes.0 }) (these.all (record { from = p; act = Label a; to = takes.0 }) refl takes.1) refl;
}

-- the label of a move is one of those that there are
pub label_below : (s : System) (p b : ℕ) (ms : List Move) (i : ℕ) (e : Move) → IsSystem s → AreMovesOf s p ms → i < length ms → (get_or ms i e).act ≡ Label b → b < label_count s
label_below s p b ms i e system these inside carries =
    let each = these.each i e inside in
    let move = All-contains (IsMoveOf s.states (label_count s)) s.moves (get_or ms i e) system.moves each.1 in
    let act : IsActOf (label_count s) (get_or ms i e).act = move.act in
    rw carries at act

pub ArePresent-none : (s : System) (ps : List ℕ) (count : ℕ) (marks present : List Bool) → count ≡ label_count s → marks ≡ replicate count false → present ≡ marks ++ true ∷ [] → ArePresent s ps 0 present
ArePresent-none s ps count marks present same is grown =
    let size : length marks ≡ label_count s = rw is (length-replicate count false) ∙ same in
    record {
      long = rw grown (length_push marks true) ∙ ap {A = ℕ} {B = ℕ} (λ n. n + 1) size;
      delta = rw grown (get_or_push marks true false (label_count s) size);
      labels = λ k d a below. absurd (omega (arith, below));
    }

pub ArePresent-more : (s : System) (ps : List ℕ) (i e : ℕ) (old new : List Bool) → i < length ps → Marks s (get_or ps i e) old new → ArePresent s ps i old → ArePresent s ps (i + 1) new
ArePresent-more s ps i e old new inside marks are = record {
  long = marks.long ∙ are.long;
  delta = marks.kept (label_count s) are.delta;
  labels = λ k d a below takes. elim (cases_lt k i) [
    | inl earlier ↦ marks.kept a (are.labels k d a earlier takes)
    | inr late ↦
        let same : k ≡ i = omega (arith, late, below) in
        marks.marked a (rw (get_or_default ps i e d inside) (rw same at takes))
  ];
}

pub ArePresent-all : (s : System) (ps : List ℕ) (n : ℕ) (present : List Bool) → length ps ≤ n → ArePresent s ps n present → ArePresent s ps (length ps) present
ArePresent-all s ps n present over are = record { long = are.long; delta = are.delta; labels = λ k d a below. are.labels k d a (omega (arith, below, over)) }

-- no member takes a label without a mark
untaken : (s : System) (ps : List ℕ) (present : List Bool) (a p : ℕ) → ArePresent s ps (length ps) present → get_or present a false ≡ false → Contains ps p → Takes s p a → ⊥
untaken s ps present a p are none (k, below, at) takes = false≢true (sym none ∙ are.labels k p a below (rw at takes))

-- the list steps nowhere with an item without a mark
pub no_step : (s : System) (ps : List ℕ) (present : List Bool) (x : Item) (p r : ℕ) → ArePresent s ps (length ps) present → get_or present (place (label_count s) x) false ≡ false → Contains ps p → IsSeen s p x r → ⊥
no_step s ps present (Input a) p r are none inside seen = untaken s ps present a p are none inside (r, (IsSeen-input s p a r seen).0)
no_step s ps present (Output a) p r are none inside seen = untaken s ps present a p are none inside (r, (IsSeen-output s p a r seen).0)
no_step s ps present Delta p r are none inside seen = false≢true (sym none ∙ are.delta)

pub unshown_absent : (s : System) (ps : List ℕ) (present : List Bool) (x : Item) → IsItemOf s x → ArePresent s ps (length ps) present → get_or present (place (label_count s) x) false ≡ false → Shows s ps x → ⊥
unshown_absent s ps present x item are none (p, inside, gives) =
    let (r, seen) = Gives-seen s p x item gives in
    no_step s ps present x p r are none inside seen

pub closed_absent : (mode : Mode) (i s : System) (rows : List Row) (left right : List ℕ) (present : List Bool) (x : Item) → ArePresent i left (length left) present → get_or present (place (label_count i) x) false ≡ false →
    IsClosedFor mode i s rows (record { left = left; right = right }) x
closed_absent mode i s rows left right present x are none item allowed first second next other = inl (empty first next.each)
  where
    empty : (qs : List ℕ) → All (Reaches i left x) qs → qs ≡ []
    empty [] each = refl
    empty (q ∷ qs) each =
        let (p, r, inside, seen, leads) = each 0 q (omega arith) in
        absurd (no_step i left present x p r are none inside seen)
