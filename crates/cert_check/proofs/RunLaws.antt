-- Laws on the moves of a state with one action, which stand side by side.
use Rattle.std.proofs.Common.{◌≡◌, ◌↔◌, ℕ, ◌+◌, ◌-◌, ◌<◌, ◌≤◌, List, [], ◌∷◌, ◌++◌, length, get_or, take, drop, All, Contains, Bool, true, false, not, inl, inr, refl, sym, ◌∙◌, ap, arith, eqb, nat_lt}
use Rattle.std.specs.Prelude.{IsTrue}
use Rattle.std.specs.List.{AllPairs, filter}
use Rattle.std.specs.List.Sorted.{IsNonDecreasingBy, IsPartitionPoint}
use Rattle.std.proofs.lemmas.List.{take_all, get_or-take, get_or-drop, length-take-le, length-drop, get_or_default, append-nil}
use Rattle.std.proofs.lemmas.List.Kept.{AllPairs-filter}
use Rattle.std.proofs.lemmas.List.Elements.{All-nil, All-contains}
use Rattle.lts_base.proofs.FindLaws.{Adds-kept, Contains-more, Contains-added}
use Rattle.std.proofs.lemmas.Bool.{cases_eq, cases_lt, false≢true, eqb-true, ltb-true}
use Rattle.std.proofs.lemmas.Bool.Decides.{nat_tests}
use Rattle.lts_base.specs.declared.action.Act.{Act}
use Rattle.lts_base.specs.declared.action.Act.TheVariants.{Tau, Label}
use Rattle.lts_base.specs.declared.action.Move.{Move}
use Rattle.lts_base.specs.System.{System, IsSystem, IsMoveOf, label_count, HasMove, AreMovesOf, AreSorted, IsMoveAtMost, act_place, leaves}
use Rattle.lts_base.proofs.Leads.{HasMove-from_parts}
use Rattle.lts_base.proofs.ListLaws.{none_contained}
use Rattle.lts_base.specs.Finds.{Adds, IsAdded}
use Rattle.cert_check.specs.Runs.{move_place, AreMovesWith}

-- what the tests say of a place, said of the numbers
pub point_from_tests : (ms : List Move) (low i : ℕ) → IsPartitionPoint (λ (m : Move). nat_lt (move_place m) low ≡ true) (λ (m : Move). nat_lt (move_place m) low ≡ false) ms i →
    IsPartitionPoint (λ (m : Move). move_place m < low) (λ (m : Move). low ≤ move_place m) ms i
point_from_tests ms low i h =
    (λ k d from to. ltb-true (move_place (get_or ms k d)) low (h.0 k d from to), λ k d from to. let above = h.1 k d from to in grind (arith, nat_tests))

same_act : (a b : Act) → act_place a ≡ act_place b → a ≡ b
same_act Tau Tau e = refl
same_act Tau (Label b) e = absurd (omega (arith, e))
same_act (Label a) Tau e = absurd (omega (arith, e))
same_act (Label a) (Label b) e = let same : a ≡ b = omega (arith, e) in ap Label same

-- the moves of one state stand in the order of their actions
pub by_place : (s : System) (p : ℕ) (ms : List Move) → AreSorted s.moves → ms ≡ filter (leaves p) s.moves → AreMovesOf s p ms → IsNonDecreasingBy move_place ms
by_place s p ms sorted value these i j d le below = elim (cases_eq i j) [
  | inl same ↦ rw same (omega arith)
  | inr other ↦
      let pairs : AllPairs IsMoveAtMost ms = rw value (AllPairs-filter IsMoveAtMost (leaves p) s.moves sorted) in
      let less : i < j = omega (arith, le, other) in
      let one = (these.each i d (omega (arith, less, below))).0 in
      let two = (these.each j d below).0 in
      elim (pairs i j d less below) [
        | inl before ↦ absurd (omega (arith, before, one, two))
        | inr (_, inl lower) ↦ omega (arith, lower)
        | inr (_, inr (same, _)) ↦ omega (arith, same)
      ]
]

-- the order holds of the rest too
pub by_place-drop : (ms : List Move) (n : ℕ) → IsNonDecreasingBy move_place ms → IsNonDecreasingBy move_place (drop n ms)
by_place-drop ms n rising i j d le below =
    let size = length-drop n ms in
    rw (get_or-drop n ms i d, get_or-drop n ms j d) (rising (n + i) (n + j) d (omega (arith, le)) (omega (arith, below, size)))

-- the moves between the two places
pub run_of : (s : System) (p place n k : ℕ) (act : Act) (ms : List Move) → IsSystem s → AreMovesOf s p ms → place ≡ act_place act → n ≤ length ms → k ≤ length (drop n ms) →
    IsPartitionPoint (λ (m : Move). move_place m < place) (λ (m : Move). place ≤ move_place m) ms n →
    IsPartitionPoint (λ (m : Move). move_place m < place + 1) (λ (m : Move). place + 1 ≤ move_place m) (drop n ms) k → AreMovesWith s p act (take k (drop n ms))
run_of s p place n k act ms system these is within short low high = record {
  system = system;
  each = λ j d below0.
      let size : length (take k (drop n ms)) ≡ k = length-take-le k (drop n ms) short in
      let below : j < k = omega (arith, below0, size) in
      let there : get_or (take k (drop n ms)) j d ≡ get_or ms (n + j) d = get_or-take k (drop n ms) j d below ∙ get_or-drop n ms j d in
      let rest = length-drop n ms in
      let inside : n + j < length ms = omega (arith, below, short, rest, within) in
      let least : place ≤ move_place (get_or ms (n + j) d) = low.1 (n + j) d (omega arith) inside in
      let most0 : move_place (get_or (drop n ms) j d) < place + 1 = high.0 j d (omega arith) below in
      let most : move_place (get_or ms (n + j) d) < place + 1 = rw (get_or-drop n ms j d) at most0 in
      let member = these.each (n + j) d inside in
      let carries : (get_or ms (n + j) d).act ≡ act = same_act (get_or ms (n + j) d).act act (omega (arith, least, most, is)) in
      rw there (HasMove-from_parts s (get_or ms (n + j) d) p act member.0 carries member.1);
  all = λ q has.
      let m : Move = record { from = p; act = act; to = q } in
      let (i, inside, at) = these.all m refl has in
      let here : move_place (get_or ms i m) ≡ place = ap move_place at ∙ sym is in
      elim (cases_lt i n) [
        | inl before ↦ let under : move_place (get_or ms i m) < place = low.0 i m (omega arith) before in absurd (omega (arith, under, here))
        | inr after ↦
            let rest = length-drop n ms in
            let e : n + (i - n) ≡ i = omega (arith, after) in
            let found : get_or (drop n ms) (i - n) m ≡ m = get_or-drop n ms (i - n) m ∙ ap {A = ℕ} {B = Move} (λ j. get_or ms j m) e ∙ at in
            elim (cases_lt (i - n) k) [
              | inl low_k ↦ (i - n, rw (length-take-le k (drop n ms) short) low_k, get_or-take k (drop n ms) (i - n) m low_k ∙ found)
              | inr high_k ↦
                  let over : place + 1 ≤ move_place (get_or (drop n ms) (i - n) m) = high.1 (i - n) m high_k (omega (arith, inside, rest, after)) in
                  let same : move_place (get_or (drop n ms) (i - n) m) ≡ act_place act = ap move_place found in
                  absurd (omega (arith, over, same, is))
            ]
      ];
}

-- whether there are such moves
pub some_run : (s : System) (p : ℕ) (act : Act) (ms : List Move) (b : Bool) → AreMovesWith s p act ms → b ≡ eqb (length ms) 0 → IsTrue (not b) ↔ ((q : ℕ) × HasMove s p act q)
some_run s p act [] b are is = (
  λ t. absurd (false≢true (ap not (sym is) ∙ t)),
  λ has. let (k, below, at) = are.all has.0 has.1 in absurd (omega (arith, below)),
)
some_run s p act (m ∷ ms) b are is = (λ t. (m.to, are.each 0 m (omega arith)), λ has. filled b is)
  where
    filled : (b : Bool) → b ≡ eqb (length (m ∷ ms)) 0 → not b ≡ true
    filled false e = refl
    filled true e = absurd (omega (arith, eqb-true (length (m ∷ ms)) 0 (sym e)))

-- the rest of a list from a place on
pub rest_is : (ms : List Move) (n : ℕ) → take (length ms - n) (drop n ms) ≡ drop n ms
rest_is ms n = take_all (length ms - n) (drop n ms) (let rest = length-drop n ms in omega (arith, rest))

-- the targets of the first i of these moves were added
pub record IsRunning (P : ℕ → Type 0) (old new : List ℕ) (ms : List Move) (i : ℕ) : Type 0 where
  pub kept : (more : List ℕ) × (new ≡ old ++ more) × All P more
  pub looked : (k : ℕ) (d : Move) → k < i → Contains new (get_or ms k d).to

pub IsRunning-none : (P : ℕ → Type 0) (old : List ℕ) (ms : List Move) → IsRunning P old old ms 0
IsRunning-none P old ms = record { kept = ([], sym (append-nil old), All-nil P); looked = λ k d below. absurd (omega (arith, below)) }

pub IsRunning-more : (P : ℕ → Type 0) (old now new : List ℕ) (ms : List Move) (i : ℕ) (e : Move) → i < length ms → P (get_or ms i e).to → IsAdded now (get_or ms i e).to new → IsRunning P old now ms i → IsRunning P old new ms (i + 1)
IsRunning-more P old now new ms i e inside has added is = record {
  kept = Adds-kept P old now new (get_or ms i e).to has added is.kept;
  looked = λ k d below. elim (cases_lt k i) [
    | inl earlier ↦ Contains-more now (get_or ms i e).to new added (get_or ms k d).to (is.looked k d earlier)
    | inr late ↦
        let same : k ≡ i = omega (arith, late, below) in
        rw (same, get_or_default ms i d e inside) (Contains-added now (get_or ms i e).to new added)
  ];
}

pub IsRunning-all : (s : System) (p : ℕ) (act : Act) (old new : List ℕ) (ms : List Move) (n : ℕ) → AreMovesWith s p act ms → length ms ≤ n → IsRunning (HasMove s p act) old new ms n → Adds (HasMove s p act) old new
IsRunning-all s p act old new ms n are over is = record {
  kept = is.kept;
  all = λ q has. none_contained (λ (m : Move). Contains new m.to) ms n over is.looked (record { from = p; act = act; to = q }) (are.all q has);
}

-- the target of such a move is a state
pub target_below : (s : System) (p : ℕ) (act : Act) (ms : List Move) (i : ℕ) (e : Move) → AreMovesWith s p act ms → i < length ms → (get_or ms i e).to < s.states
target_below s p act ms i e are inside =
    let move = All-contains (IsMoveOf s.states (label_count s)) s.moves (record { from = p; act = act; to = (get_or ms i e).to }) are.system.moves (are.each i e inside) in
    move.to
