-- Laws on the chains of the moves of a group.
use Rattle.std.proofs.Common.{◌≡◌, ℕ, zero, suc, ◌+◌, ◌-◌, ◌<◌, ◌≤◌, ◌↔◌, List, [], ◌∷◌, ◌++◌, length, get_or, set, replicate, Contains, inl, inr, refl, sym, ◌∙◌, ap, arith, length-set}
use Rattle.std.proofs.lemmas.List.{length_push, get_or_push, get_or_append_left, get_or_default, get_or-set_same, get_or-set_other, get_or-replicate, length-replicate}
use Rattle.std.proofs.lemmas.List.Elements.{All-weaker, All-contains}
use Rattle.std.proofs.lemmas.Bool.{cases_eq, cases_lt}
use Rattle.lts_base.specs.declared.action.Act.{Act}
use Rattle.lts_base.specs.declared.action.Act.TheVariants.{Tau, Label}
use Rattle.lts_base.specs.declared.action.Move.{Move}
use Rattle.lts_base.specs.Built.{move_at}
use Rattle.lts_base.specs.System.{System, IsSystem, IsMoveOf, IsActOf, label_count, HasMove, Takes}
use Rattle.lts_base.proofs.Leads.{act_cases, HasMove-from_parts}
use Rattle.lts_base.specs.Finds.{IsAdded, Adds}
use Rattle.lts_base.proofs.FindLaws.{Contains-added}
use Rattle.lts_shape.specs.Groups.{group_of, group_with, group_count, IsLatest, AreGroups, LeavesIn}
use Rattle.lts_shape.proofs.FollowLaws.{IsAdding, IsAdding-none, IsAdding-add, Contains-more}

abbrev no_move : Move
no_move = record { from = 0; act = Tau; to = 0 }

IsLatest-none : (s : System) (g : ℕ) → IsLatest s g 0 0
IsLatest-none s g = record { within = omega arith; is = λ k e. absurd (omega (arith, e)); none = λ k low below. absurd (omega (arith, below)) }

-- the next move isn't in the group
IsLatest-skip : (s : System) (g i n : ℕ) → (group_of s.states (move_at s.moves i) ≡ g → ⊥) → IsLatest s g i n → IsLatest s g (i + 1) n
IsLatest-skip s g i n other is = record {
  within = omega (arith, is.within);
  is = is.is;
  none = λ k low below into. elim (cases_lt k i) [
    | inl earlier ↦ is.none k low earlier into
    | inr late ↦ let same : k ≡ i = omega (arith, late, below) in other (rw same at into)
  ];
}

-- the next move is in the group
IsLatest-here : (s : System) (g i : ℕ) → group_of s.states (move_at s.moves i) ≡ g → IsLatest s g (i + 1) (i + 1)
IsLatest-here s g i into = record {
  within = omega arith;
  is = λ k e. let same : k ≡ i = omega (arith, e) in rw same into;
  none = λ k low below. absurd (omega (arith, low, below));
}

pub AreGroups-none : (s : System) (count : ℕ) → count ≡ group_count s → AreGroups s 0 (replicate count 0) []
AreGroups-none s count same = record {
  groups = length-replicate count 0 ∙ same;
  moves = refl;
  last = λ g below. rw (get_or-replicate {A = ℕ} count g 0 0 (omega (arith, below, same))) (IsLatest-none s g);
  before = λ k below. absurd (omega (arith, below));
}

-- one more move is chained
pub AreGroups-more : (s : System) (i g n : ℕ) (ms : List Move) (lasts befores : List ℕ) (d : Move) → ms ≡ s.moves → i < length ms → g ≡ group_of s.states (get_or ms i d) → g < group_count s → n ≡ get_or lasts g n →
    AreGroups s i lasts befores → AreGroups s (i + 1) (set lasts g (i + 1)) (befores ++ n ∷ [])
AreGroups-more s i g n ms lasts befores d same inside is_g below read is = record {
  groups = length-set lasts g (i + 1) ∙ is.groups;
  moves = length_push befores n ∙ ap {A = ℕ} {B = ℕ} (λ k. k + 1) is.moves;
  last = λ h low. elim (cases_eq h g) [
    | inl here ↦ rw (here, get_or-set_same lasts g (i + 1) 0 (omega (arith, below, is.groups))) (IsLatest-here s g i into)
    | inr other ↦ rw (get_or-set_other lasts g h (i + 1) 0 other) (IsLatest-skip s h i (get_or lasts h 0) (λ e. other (sym e ∙ into)) (is.last h low))
  ];
  before = λ k low. elim (cases_lt k i) [
    | inl earlier ↦ rw (get_or_append_left befores (n ∷ []) 0 k (omega (arith, earlier, is.moves))) (is.before k earlier)
    | inr late ↦
        let at : k ≡ i = omega (arith, late, low) in
        let end : length befores ≡ i = is.moves in
        rw (at, get_or_push befores n 0 i end, value, into) (is.last g below)
  ];
}
  where
    into : group_of s.states (move_at s.moves i) ≡ g
    into = ap (group_of s.states) (ap (λ (xs : List Move). get_or xs i no_move) (sym same) ∙ get_or_default ms i no_move d inside) ∙ sym is_g

    value : n ≡ get_or lasts g 0
    value = read ∙ get_or_default lasts g n 0 (omega (arith, below, is.groups))

pub AreGroups-all : (s : System) (i : ℕ) (ms : List Move) (lasts befores : List ℕ) → ms ≡ s.moves → length ms ≤ i → i ≤ length ms → AreGroups s i lasts befores → AreGroups s (length s.moves) lasts befores
AreGroups-all s i ms lasts befores same over within is =
    let long : length ms ≡ length s.moves = ap {A = List Move} {B = ℕ} length same in
    let e : i ≡ length s.moves = omega (arith, over, within, long) in
    rw e at is

-- a move's group is one of those that there are
pub group_below : (s : System) (m : Move) → IsMoveOf s.states (label_count s) m → group_of s.states m < group_count s
group_below s m is = go m.act is.act
  where
    go : (act : Act) → IsActOf (label_count s) act → group_with s.states act m.to < group_count s
    go Tau act = let to = is.to in omega (arith, to)
    go (Label a) act = omega (arith, act)

pub read_group : (s : System) (ms : List Move) (i g : ℕ) (d : Move) → IsSystem s → ms ≡ s.moves → i < length ms → g ≡ group_of s.states (get_or ms i d) → g < group_count s
read_group s ms i g d system same inside is_g = rw is_g (group_below s (get_or ms i d) (is ms same inside))
  where
    is : (xs : List Move) → xs ≡ s.moves → i < length xs → IsMoveOf s.states (label_count s) (get_or xs i d)
    is xs e low = rw e (system.moves i d (rw e at low))

-- of the moves of the group those from number next on have been looked at, and the states that they leave were added
pub record IsChained (s : System) (g : ℕ) (old new : List ℕ) (next : ℕ) : Type 0 where
  pub kept : IsAdding (LeavesIn s g) old new
  pub within : next ≤ length s.moves
  pub is : (k : ℕ) → k + 1 ≡ next → group_of s.states (move_at s.moves k) ≡ g
  pub looked : (k : ℕ) → next ≤ k → k < length s.moves → group_of s.states (move_at s.moves k) ≡ g → Contains new (move_at s.moves k).from

pub IsChained-none : (s : System) (g : ℕ) (old lasts befores : List ℕ) (next : ℕ) → AreGroups s (length s.moves) lasts befores → g < group_count s → next ≡ get_or lasts g next → IsChained s g old old next
IsChained-none s g old lasts befores next are below read =
    let value : next ≡ get_or lasts g 0 = read ∙ get_or_default lasts g next 0 (omega (arith, below, are.groups)) in
    let latest : IsLatest s g (length s.moves) next = rw value (are.last g below) in
    record {
      kept = IsAdding-none (LeavesIn s g) old;
      within = latest.within;
      is = latest.is;
      looked = λ k low below into. absurd (latest.none k low below into);
    }

pub IsChained-number : (s : System) (g : ℕ) (old new : List ℕ) (next : ℕ) → 0 < next → IsChained s g old new next → next - 1 < length s.moves
IsChained-number s g old new next some is = omega (arith, some, is.within)

-- one more move has been looked at
pub IsChained-more : (s : System) (g : ℕ) (old now new lasts befores : List ℕ) (next before : ℕ) (ms : List Move) (d : Move) → AreGroups s (length s.moves) lasts befores → ms ≡ s.moves → 0 < next →
    IsAdded now (get_or ms (next - 1) d).from new → before ≡ get_or befores (next - 1) before → IsChained s g old now next → IsChained s g old new before
IsChained-more s g old now new lasts befores zero before ms d are same some added read is = absurd (omega (arith, some))
IsChained-more s g old now new lasts befores (suc k) before ms d are same some added0 read0 is = record {
  kept = IsAdding-add (LeavesIn s g) old now new m.from (m, refl, (k, inside, get_or_default s.moves k m no_move inside), into) added is.kept;
  within = omega (arith, latest.within, inside);
  is = latest.is;
  looked = λ j low below into_j. elim (cases_lt j k) [
    | inl earlier ↦ absurd (latest.none j low earlier into_j)
    | inr late ↦ elim (cases_eq j k) [
      | inl here ↦ rw here (Contains-added now m.from new added)
      | inr other ↦ Contains-more now m.from new added (move_at s.moves j).from (is.looked j (omega (arith, late, other)) below into_j)
    ]
  ];
}
  where
    is_k : suc k - 1 ≡ k
    is_k = omega arith

    m : Move
    m = move_at s.moves k

    inside : k < length s.moves
    inside = omega (arith, is.within)

    into : group_of s.states m ≡ g
    into = is.is k (omega arith)

    added : IsAdded now m.from new
    added =
        let e : get_or ms (suc k - 1) d ≡ m = rw (is_k, same) (get_or_default s.moves k d no_move inside) in
        rw e at added0

    latest : IsLatest s g k before
    latest =
        let read : before ≡ get_or befores k before = rw is_k at read0 in
        let value : before ≡ get_or befores k 0 = read ∙ get_or_default befores k before 0 (omega (arith, inside, are.moves)) in
        let found : IsLatest s (group_of s.states m) k (get_or befores k 0) = are.before k inside in
        rw value (rw into at found)

pub IsChained-all : (s : System) (g : ℕ) (old new : List ℕ) (next : ℕ) → next ≤ 0 → IsChained s g old new next → Adds (LeavesIn s g) old new
IsChained-all s g old new next over is = record {
  kept = is.kept;
  all = λ p has.
      let (m, from, (k, inside, at), into) = has in
      let e : move_at s.moves k ≡ m = get_or_default s.moves k no_move m inside ∙ at in
      let found : Contains new (move_at s.moves k).from = is.looked k (omega (arith, over)) inside (ap (group_of s.states) e ∙ into) in
      rw from at (rw e at found);
}

-- what is added by one property is added by another one that says the same
Adds-same : (P Q : ℕ → Type 0) (old new : List ℕ) → ((q : ℕ) → P q ↔ Q q) → Adds P old new → Adds Q old new
Adds-same P Q old new both adds =
    let (more, grown, all) = adds.kept in
    record {
      kept = (more, grown, All-weaker P Q (λ q has. (both q).0 has) more all);
      all = λ q has. adds.all q ((both q).1 has);
    }

-- the moves of a label's group are those that carry it
takes_in : (s : System) (a q : ℕ) → IsSystem s → LeavesIn s (s.states + a) q ↔ Takes s q a
takes_in s a q system = (
  λ has. let (m, from, inside, into) = has in let move = All-contains (IsMoveOf s.states (label_count s)) s.moves m system.moves inside in elim (act_cases m.act) [
    | inl tau ↦
        let e : m.to ≡ s.states + a = rw tau at into in
        let low = move.to in
        absurd (omega (arith, e, low))
    | inr (b, label) ↦
        let e : s.states + b ≡ s.states + a = rw label at into in
        let same : b ≡ a = omega (arith, e) in
        (m.to, HasMove-from_parts s m q (Label a) from (label ∙ ap Label same) inside)
  ],
  λ takes. (record { from = q; act = Label a; to = takes.0 }, refl, takes.1, refl),
)

-- the moves of a state's group are those with Tau to it
sources_in : (s : System) (q p : ℕ) → q < s.states → LeavesIn s q p ↔ HasMove s p Tau q
sources_in s q p below = (
  λ has. let (m, from, inside, into) = has in elim (act_cases m.act) [
    | inl tau ↦
        let e : m.to ≡ q = rw tau at into in
        let there = HasMove-from_parts s m p Tau from tau inside in
        rw e at there
    | inr (b, label) ↦
        let e : s.states + b ≡ q = rw label at into in
        absurd (omega (arith, e, below))
  ],
  λ has. (record { from = p; act = Tau; to = q }, refl, has, refl),
)

pub Adds-takes : (s : System) (a : ℕ) (old new : List ℕ) → IsSystem s → Adds (LeavesIn s (s.states + a)) old new → Adds (λ q. Takes s q a) old new
Adds-takes s a old new system adds = Adds-same (LeavesIn s (s.states + a)) (λ q. Takes s q a) old new (λ q. takes_in s a q system) adds

pub Adds-sources : (s : System) (q : ℕ) (old new : List ℕ) → q < s.states → Adds (LeavesIn s q) old new → Adds (λ p. HasMove s p Tau q) old new
Adds-sources s q old new below adds = Adds-same (LeavesIn s q) (λ p. HasMove s p Tau q) old new (λ p. sources_in s q p below) adds
