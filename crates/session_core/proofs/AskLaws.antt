-- The sets of a session are those that its events ask for.
use Rattle.std.proofs.Common.{◌≡◌, ◌∙◌, ℕ, zero, suc, ◌+◌, ◌<◌, ◌≤◌, List, [], ◌∷◌, ◌++◌, length, get_or, inl, inr, refl, ap, arith, append_assoc}
use Rattle.std.proofs.lemmas.List.{append-nil}
use Rattle.lts_base.specs.declared.item.Item.{Item}
use Rattle.session_core.specs.Told.{Told}
use Rattle.lts_base.specs.System.{System}
use Rattle.lts_base.specs.After.{IsSetAfter}
use Rattle.lts_base.specs.Reached.{trace_at, total_members}
use Rattle.session_core.specs.Seat.{Seat, Asks, Takes, Counts}
use Rattle.session_core.specs.Sets.{TakesAll, HasSets, HasMembers}
use Rattle.walk_core.specs.Walked.{Walked, set_at, IsWalk, IsFresh, IsAccount, HasAccountOf}

-- one event that asks for a set, and one that asks for none
sets_more : (p m q : Seat) (event : Told) (events : List Told) → Takes p event m → HasSets m events q → (τ : List Item) → Asks p event τ → Counts p.walked m.walked τ → HasSets p (event ∷ events) q
sets_more p m q event events takes rest τ asks counts = record {
  asked = τ ∷ rest.asked;
  asks = (m, rest.asked, takes, rest.asks, inl (τ, asks, refl));
  account = λ traces account. along (traces ++ τ ∷ []) traces rest.asked τ refl (rest.account (traces ++ τ ∷ []) (counts.account traces account));
}
  where
    along : (front traces asked : List (List Item)) (τ : List Item) → front ≡ traces ++ τ ∷ [] → IsAccount q.walked (front ++ asked) → IsAccount q.walked (traces ++ τ ∷ asked)
    along front traces asked τ is account = rw (is, append_assoc traces (τ ∷ []) asked) at account

sets_same : (p m q : Seat) (event : Told) (events : List Told) → Takes p event m → HasSets m events q → ((τ : List Item) → ¬ Asks p event τ) → m.walked ≡ p.walked → HasSets p (event ∷ events) q
sets_same p m q event events takes rest none same = record {
  asked = rest.asked;
  asks = (m, rest.asked, takes, rest.asks, inr (none, refl));
  account = λ traces account. rest.account traces (rw same account);
}

pub sets_all : (p q : Seat) (events : List Told) → TakesAll p events q → HasSets p events q
sets_all p q [] same = record { asked = []; asks = (same, refl); account = λ traces account. rw (append-nil traces, same) account }
sets_all p q (event ∷ events) (m, takes, rest) =
    elim takes.walk [
      | inl one ↦ sets_more p m q event events takes (sets_all m q events rest) one.0 one.1 one.2
      | inr none ↦ sets_same p m q event events takes (sets_all m q events rest) none.0 none.1
    ]

-- the walk goes on with the same system and limit
record IsSameWalk (old new : Walked) : Type 0 where
  pub system : new.system ≡ old.system
  pub limit : new.limit ≡ old.limit
  pub walk : IsWalk new

same_walk : (p m : Seat) (event : Told) → IsWalk p.walked → Takes p event m → IsSameWalk p.walked m.walked
same_walk p m event walk takes = elim takes.walk [
  | inl (τ, asks, counts) ↦ record { system = counts.grows.system; limit = counts.grows.limit; walk = counts.walk }
  | inr (none, same) ↦ rw same (record { system = refl; limit = refl; walk = walk })
]

same_walks : (p : Seat) (events : List Told) (q : Seat) → IsWalk p.walked → TakesAll p events q → IsSameWalk p.walked q.walked
same_walks p [] q walk same = rw same (record { system = refl; limit = refl; walk = walk })
same_walks p (event ∷ events) q walk (m, takes, rest) =
    let one = same_walk p m event walk takes in
    let more = same_walks m events q one.walk rest in
    record { system = more.system ∙ one.system; limit = more.limit ∙ one.limit; walk = more.walk }

-- a walk that is fresh is the account of the trace without items
alone : (sets : List (List ℕ)) → length sets ≡ 1 → sets ≡ set_at sets 0 ∷ []
alone [] one = cc
alone (ps ∷ []) one = refl
alone (ps ∷ qs ∷ sets) one = absurd (longer (length sets) one)
  where
    longer : (n : ℕ) → suc (suc n) ≡ 1 → ⊥
    longer n same = omega (arith, same)

fresh_account : (w : Walked) → IsFresh w → IsAccount w ([] ∷ [])
fresh_account w fresh = (set_at w.sets 0 ∷ [], record { long = refl; each = each }, alone w.sets fresh.alone)
  where
    each : (k : ℕ) → k < 1 → IsSetAfter w.system (trace_at ([] ∷ []) k) (get_or (set_at w.sets 0 ∷ []) k [])
    each zero below = fresh.opening
    each (suc k) below = absurd (none k below)
      where
        none : (n : ℕ) → suc n < 1 → ⊥
        none n less = omega (arith, less)

-- the same account, of a system and a limit that are the same
counted : (s t : System) (traces : List (List Item)) (n : ℕ) → t ≡ s → HasAccountOf t traces n → HasAccountOf s traces n
counted s t traces n same account = rw same at account

passed : (k n m : ℕ) → n ≡ k → n < m → k < m
passed k n m same below = rw same at below

kept_within : (k n m : ℕ) → n ≡ k → m ≤ n → m ≤ k
kept_within k n m same within = rw same at within

-- the sum of the sizes of the sets, and of those with one more that is refused
pub members_all : (p : Seat) (events : List Told) (q : Seat) → IsFresh p.walked → TakesAll p events q → HasMembers p events q
members_all p events q fresh takes =
    let sets = sets_all p q events takes in
    let same = same_walks p events q fresh.walk takes in
    let account : IsAccount q.walked ([] ∷ sets.asked) = sets.account ([] ∷ []) (fresh_account p.walked fresh) in
    let (lists, after, are) = account in
    record {
      asked = sets.asked;
      asks = sets.asks;
      members = total_members q.walked.sets;
      sum = counted p.walked.system q.walked.system ([] ∷ sets.asked) (total_members q.walked.sets) same.system (lists, after, ap total_members are);
      within = kept_within p.walked.limit q.walked.limit (total_members q.walked.sets) same.limit same.walk.within;
      full = λ event reached refused.
          let (τ, asks, refuses) = refused in
          let (size, over) = refuses ([] ∷ sets.asked) account in
          (τ, asks, counted p.walked.system q.walked.system ([] ∷ (sets.asked ++ τ ∷ [])) reached same.system size, passed p.walked.limit q.walked.limit reached same.limit over);
    }
