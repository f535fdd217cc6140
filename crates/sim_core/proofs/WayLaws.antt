-- Laws on a search by breadth along internal moves: its finds come in the order of the least ways to them.
use Rattle.std.proofs.Common.{◌≡◌, ℕ, ◌+◌, ◌<◌, ◌≤◌, List, [], ◌∷◌, ◌++◌, length, get_or, take, Contains, inl, inr, ◌⊎◌, refl, ap, sym, ◌∙◌, arith}
use Rattle.std.proofs.lemmas.List.{length_push, get_or_push, get_or_append_left, get_or_read}
use Rattle.std.proofs.lemmas.List.Elements.{Contains-push, Contains-push_cases, Contains-append_left, Contains-get_or}
use Rattle.std.specs.List.{filter, AllPairs}
use Rattle.std.proofs.lemmas.List.{take_more, get_or-take, take_all, length-take-le, length-append, append_assoc}
use Rattle.std.proofs.lemmas.List.Kept.{AllPairs-filter}
use Rattle.std.proofs.lemmas.Bool.{cases_lt, cases_eq}
use Rattle.lts_base.specs.System.{IsSystem, IsMoveAtMost, act_place, leaves}
use Rattle.lts_base.specs.declared.action.Act.TheVariants.{Tau, Label}
use Rattle.lts_base.specs.declared.action.Move.{Move}
use Rattle.lts_base.specs.System.{System, HasMove, IsTauPath, AreMovesOf, Takes}
use Rattle.lts_base.proofs.ListLaws.{snoc_induction, Contains-none}
use Rattle.lts_base.proofs.TauLaws.{TauLeads-from_leads}
use Rattle.lts_base.proofs.Leads.{HasMove-from_parts}
use Rattle.sim_core.specs.Simulated.{IsLessOrSame, IsWay, IsLeastWay}
use Rattle.sim_core.specs.Gone.{CanTake}
use Rattle.sim_core.specs.Search.{IsFound, find_at, way_at, IsLess, IsTarget, IsMade, IsClosed, IsSearch, HasSearched}
use Rattle.sim_core.proofs.OrderLaws.{less_push, less_last, less_none, at_most, at_most_same, at_most_longer, at_most_push, at_most_trans}

-- a path of internal moves ends with one
path_last : (s : System) (xs : List ℕ) (y p r : ℕ) → IsTauPath s p (xs ++ y ∷ []) r → (q : ℕ) × IsTauPath s p xs q × HasMove s q Tau y × (y ≡ r)
path_last s [] y p r (has, same) = (p, refl, has, same)
path_last s (x ∷ xs) y p r (has, on) =
    let (q, front, last, same) = path_last s xs y x r on in
    (q, (has, front), last, same)

path_push : (s : System) (xs : List ℕ) (p q y : ℕ) → IsTauPath s p xs q → HasMove s q Tau y → IsTauPath s p (xs ++ y ∷ []) y
path_push s [] p q y same has = (rw (← same) at has, refl)
path_push s (x ∷ xs) p q y (first, on) has = (first, path_push s xs x q y on has)

-- where the search begins
pub search_start : (s : System) (p : ℕ) → HasSearched s p (p ∷ []) 0
search_start s p = (
  [] ∷ [],
  record {
    long = refl;
    some = omega arith;
    within = omega arith;
    first = refl;
    first_way = refl;
    paths = λ k below. path k below;
    rising = λ j k less below. absurd (omega (arith, less, below));
    made = λ k some below. absurd (omega (arith, some, below));
    closed = λ m q below has. absurd (omega (arith, below));
    next = λ q target. absurd (Contains-none _ target.1);
  },
)
  where
    path : (k : ℕ) → k < length (p ∷ []) → IsTauPath s p (way_at ([] ∷ []) k) (find_at (p ∷ []) k)
    path k below =
        let zero_is : 0 ≡ k = omega (arith, below) in
        rw (← zero_is) refl

-- each way to a find is less than the one that goes on to q from the find at hand, where q isn't found and no target looked at comes after it
way_less : (s : System) (p : ℕ) (found : List ℕ) (ways : List (List ℕ)) (at : ℕ) (looked : List Move) (q : ℕ) → IsSearch s p found ways at looked → at < length found → (Contains found q → ⊥) →
    ((r : ℕ) → IsTarget looked r → r ≤ q) → (k : ℕ) → k < length found → IsLess (way_at ways k) (way_at ways at ++ q ∷ [])
way_less s p found ways at looked q h here fresh low k below = elim (cases_lt 0 k) [
  | inr none ↦
      let zero_is : k ≡ 0 = omega (arith, none) in
      rw (zero_is, h.first_way) (less_none (way_at ways at) q)
  | inl some ↦
      let (m, way, from) = h.made k some below in
      rw way (elim from [
        | inl earlier ↦ less_push (way_at ways m) (way_at ways at) (find_at found k) q (h.rising m at earlier here)
        | inr (same, target) ↦
            let other : find_at found k ≡ q → ⊥ = λ e. fresh (rw e at (Contains-get_or found k 0 below)) in
            let least = low (find_at found k) target in
            rw same (elim (cases_lt (find_at found k) q) [
              | inl less ↦ less_last (way_at ways at) (find_at found k) q less
              | inr more ↦ absurd (other (omega (arith, least, more)))
            ])
      ])
]

-- a find is closed over by its way, whatever the search
closed_at : (s : System) (p : ℕ) (found : List ℕ) (ways : List (List ℕ)) (at : ℕ) (looked : List Move) (q : ℕ) → IsSearch s p found ways at looked → at < length found → Contains found q →
    IsClosed found ways (way_at ways at) q
closed_at s p found ways at looked q h here (k, below, is) = let is' : find_at found k ≡ q = sym (get_or_read found k q below (sym is) 0) in (
  k,
  below,
  is',
  elim (cases_lt 0 k) [
    | inr none ↦
        let zero_is : k ≡ 0 = omega (arith, none) in
        rw (zero_is, h.first_way) (at_most [] (way_at ways at ++ q ∷ []) (less_none (way_at ways at) q))
    | inl some ↦
        let (m, way, from) = h.made k some below in
        rw (way, is') (elim from [
          | inl earlier ↦ at_most (way_at ways m ++ q ∷ []) (way_at ways at ++ q ∷ []) (less_push (way_at ways m) (way_at ways at) q q (h.rising m at earlier here))
          | inr (same, target) ↦ rw same (at_most_same (way_at ways at ++ q ∷ []))
        ])
  ],
)

-- a place in a list with one more
push_cases : {X : Type 0} (xs : List X) (x : X) (k : ℕ) → k < length (xs ++ x ∷ []) → (k < length xs) ⊎ (k ≡ length xs)
push_cases xs x k below = elim (cases_lt k (length xs)) [ inl low ↦ inl low | inr past ↦ inr (omega (arith, below, past, length_push xs x)) ]

find_old : (found : List ℕ) (y k : ℕ) → k < length found → find_at (found ++ y ∷ []) k ≡ find_at found k
find_old found y k low = get_or_append_left found (y ∷ []) 0 k low

find_new : (found : List ℕ) (y k : ℕ) → k ≡ length found → find_at (found ++ y ∷ []) k ≡ y
find_new found y k last = get_or_push found y 0 k (sym last)

way_old : (ways : List (List ℕ)) (w : List ℕ) (k : ℕ) → k < length ways → way_at (ways ++ w ∷ []) k ≡ way_at ways k
way_old ways w k low = get_or_append_left ways (w ∷ []) [] k low

way_new : (ways : List (List ℕ)) (w : List ℕ) (k : ℕ) → k ≡ length ways → way_at (ways ++ w ∷ []) k ≡ w
way_new ways w k last = get_or_push ways w [] k (sym last)

-- what is closed stays closed when a find is added
closed_push : (found : List ℕ) (ways : List (List ℕ)) (y : ℕ) (w way : List ℕ) (q : ℕ) → length ways ≡ length found → IsClosed found ways way q → IsClosed (found ++ y ∷ []) (ways ++ w ∷ []) way q
closed_push found ways y w way q long (j, below, is, most) =
    (j, omega (arith, below, length_push found y), find_old found y j below ∙ is, rw (way_old ways w j (omega (arith, below, long))) most)

-- a target among the moves looked at, with one more
target_cases : (looked : List Move) (m : Move) (q : ℕ) → IsTarget (looked ++ m ∷ []) q → IsTarget looked q ⊎ ((m.act ≡ Tau) × (m.to ≡ q))
target_cases looked m q (n, inside, tau, to) = elim (Contains-push_cases looked m n inside) [
  | inl before ↦ inl (n, before, tau, to)
  | inr same ↦ inr (rw (← same) at tau, rw (← same) at to)
]

target_before : (looked : List Move) (m : Move) (q : ℕ) → IsTarget looked q → IsTarget (looked ++ m ∷ []) q
target_before looked m q (n, inside, tau, to) = (n, Contains-append_left looked (m ∷ []) n inside, tau, to)

made_before : (found : List ℕ) (ways : List (List ℕ)) (at : ℕ) (looked : List Move) (m : Move) (k : ℕ) → IsMade found ways at looked k → IsMade found ways at (looked ++ m ∷ []) k
made_before found ways at looked m k (j, way, inl earlier) = (j, way, inl earlier)
made_before found ways at looked m k (j, way, inr (same, target)) = (j, way, inr (same, target_before looked m (find_at found k) target))

-- one more move is looked at, by which nothing new is found
pub search_look : (s : System) (p : ℕ) (found : List ℕ) (ways : List (List ℕ)) (at : ℕ) (looked : List Move) (m : Move) → IsSearch s p found ways at looked → at < length found →
    (m.act ≡ Tau → Contains found m.to) → IsSearch s p found ways at (looked ++ m ∷ [])
search_look s p found ways at looked m h here known = record {
  long = h.long;
  some = h.some;
  within = h.within;
  first = h.first;
  first_way = h.first_way;
  paths = h.paths;
  rising = h.rising;
  made = λ k some below. made_before found ways at looked m k (h.made k some below);
  closed = h.closed;
  next = λ q target. elim (target_cases looked m q target) [
    | inl before ↦ h.next q before
    | inr (tau, to) ↦ closed_at s p found ways at looked q h here (rw to at (known tau))
  ];
}

-- one more move is looked at, by which a state is found that wasn't
pub search_push : (s : System) (p : ℕ) (found : List ℕ) (ways : List (List ℕ)) (at : ℕ) (looked : List Move) (m : Move) → IsSearch s p found ways at looked → at < length found → m.act ≡ Tau →
    HasMove s (find_at found at) Tau m.to → ((r : ℕ) → IsTarget looked r → r ≤ m.to) → (Contains found m.to → ⊥) →
    IsSearch s p (found ++ m.to ∷ []) (ways ++ (way_at ways at ++ m.to ∷ []) ∷ []) at (looked ++ m ∷ [])
search_push s p found ways at looked m h here tau has low fresh = record {
  long = omega (arith, h.long, length_push found y, length_push ways w);
  some = omega (arith, length_push found y);
  within = omega (arith, h.within, length_push found y);
  first = find_old found y 0 h.some ∙ h.first;
  first_way = way_old ways w 0 (omega (arith, h.some, h.long)) ∙ h.first_way;
  paths = λ k below. elim (push_cases found y k below) [
    | inl old ↦ rw (find_old found y k old, way_old ways w k (omega (arith, old, h.long))) (h.paths k old)
    | inr last ↦ rw (find_new found y k last, way_new ways w k (last ∙ sym h.long)) (path_push s (way_at ways at) p (find_at found at) y (h.paths at here) has)
  ];
  rising = λ j k less below. elim (push_cases found y k below) [
    | inl old ↦ rw (way_old ways w j (omega (arith, less, old, h.long)), way_old ways w k (omega (arith, old, h.long))) (h.rising j k less old)
    | inr last ↦
        let before : j < length found = omega (arith, less, last) in
        rw (way_old ways w j (omega (arith, before, h.long)), way_new ways w k (last ∙ sym h.long)) (way_less s p found ways at looked y h here fresh low j before)
  ];
  made = λ k some below. elim (push_cases found y k below) [
    | inl old ↦ kept k old (made_before found ways at looked m k (h.made k some old))
    | inr last ↦ (
      at,
      way_new ways w k (last ∙ sym h.long) ∙ rw (find_new found y k last, way_old ways w at (omega (arith, here, h.long))) refl,
      inr (refl, rw (find_new found y k last) (m, Contains-push looked m, tau, refl)),
    )
  ];
  closed = λ n q below moves.
      let old : n < length found = omega (arith, below, here) in
      rw (way_old ways w n (omega (arith, old, h.long))) (closed_push found ways y w (way_at ways n) q h.long (h.closed n q below (rw (find_old found y n old) at moves)));
  next = λ q target. rw (way_old ways w at (omega (arith, here, h.long))) (elim (target_cases looked m q target) [
    | inl before ↦ closed_push found ways y w (way_at ways at) q h.long (h.next q before)
    | inr (silent, to) ↦ (length found, omega (arith, length_push found y), find_new found y (length found) refl ∙ to, rw (way_new ways w (length found) (sym h.long), to) (at_most_same (way_at ways at ++ q ∷ [])))
  ]);
}
  where
    y : ℕ
    y = m.to

    w : List ℕ
    w = way_at ways at ++ m.to ∷ []

    kept : (k : ℕ) → k < length found → IsMade found ways at (looked ++ m ∷ []) k → IsMade (found ++ y ∷ []) (ways ++ w ∷ []) at (looked ++ m ∷ []) k
    kept k old (j, way, from) =
        let low : j < length ways = elim from [ inl earlier ↦ omega (arith, earlier, here, h.long) | inr (same, target) ↦ omega (arith, same, here, h.long) ] in
        (j, rw (way_old ways w k (omega (arith, old, h.long)), way_old ways w j low, find_old found y k old) way, rw (find_old found y k old) from)

-- all moves of the next find have been looked at
pub search_done : (s : System) (p : ℕ) (found : List ℕ) (ways : List (List ℕ)) (at : ℕ) (ms : List Move) → IsSearch s p found ways at ms → at < length found → AreMovesOf s (find_at found at) ms →
    IsSearch s p found ways (at + 1) []
search_done s p found ways at ms h here these = record {
  long = h.long;
  some = h.some;
  within = omega (arith, here);
  first = h.first;
  first_way = h.first_way;
  paths = h.paths;
  rising = h.rising;
  made = λ k some below.
      let (m, way, from) = h.made k some below in
      (m, way, inl (elim from [ inl earlier ↦ omega (arith, earlier) | inr (same, target) ↦ omega (arith, same) ]));
  closed = λ m q below has. elim (cases_lt m at) [
    | inl earlier ↦ h.closed m q earlier has
    | inr past ↦
        let same : m ≡ at = omega (arith, below, past) in
        rw same (h.next q (record { from = find_at found at; act = Tau; to = q }, these.all (record { from = find_at found at; act = Tau; to = q }) refl (rw same at has), refl, refl))
  ];
  next = λ q target. absurd (Contains-none _ target.1);
}

-- each way leads past a find that hasn't been followed, by which no way is less, or to a find
abbrev Meets : System → List ℕ → List (List ℕ) → ℕ → List ℕ → ℕ → Type 0
Meets s found ways at ss r = (m : ℕ) × (m < length found) × IsLessOrSame (way_at ways m) ss × ((at ≤ m) ⊎ (find_at found m ≡ r))

search_meets : (s : System) (p : ℕ) (found : List ℕ) (ways : List (List ℕ)) (at : ℕ) → IsSearch s p found ways at [] → (ss : List ℕ) (r : ℕ) → IsTauPath s p ss r → Meets s found ways at ss r
search_meets s p found ways at h ss = snoc_induction (λ (xs : List ℕ). (r : ℕ) → IsTauPath s p xs r → Meets s found ways at xs r) none push ss
  where
    none : (r : ℕ) → IsTauPath s p [] r → Meets s found ways at [] r
    none r same = (0, h.some, rw h.first_way (at_most_same []), inr (h.first ∙ same))

    step : (xs : List ℕ) (y q : ℕ) → HasMove s q Tau y → Meets s found ways at xs q → Meets s found ways at (xs ++ y ∷ []) y
    step xs y q has (m, below, most, inl ahead) = (m, below, at_most_longer (way_at ways m) xs y most, inl ahead)
    step xs y q has (m, below, most, inr is) = elim (cases_lt m at) [
      | inr ahead ↦ (m, below, at_most_longer (way_at ways m) xs y most, inl ahead)
      | inl done ↦
          let (j, low, to, least) = h.closed m y done (rw (← is) at has) in
          (j, low, at_most_trans (way_at ways j) (way_at ways m ++ y ∷ []) (xs ++ y ∷ []) least (at_most_push (way_at ways m) xs y most), inr to)
    ]

    push : (xs : List ℕ) (y : ℕ) → ((r : ℕ) → IsTauPath s p xs r → Meets s found ways at xs r) → (r : ℕ) → IsTauPath s p (xs ++ y ∷ []) r → Meets s found ways at (xs ++ y ∷ []) r
    push xs y ih r on =
        let (q, front, last, same) = path_last s xs y p r on in
        rw (← same) (step xs y q last (ih q front))

-- no find that has been followed takes the input
abbrev pub NoneTakes : System → ℕ → List ℕ → ℕ → Type 0
NoneTakes s a found at = (k : ℕ) → k < at → Takes s (find_at found k) a → ⊥

-- the finds don't run out before one takes the input
pub search_goes_on : (s : System) (a p : ℕ) (found : List ℕ) (at : ℕ) → HasSearched s p found at → NoneTakes s a found at → CanTake s a p → at < length found
search_goes_on s a p found at (ways, h) none (r, leads, takes) =
    let (rs, on) = TauLeads-from_leads s p r leads in
    let (m, below, most, what) = search_meets s p found ways at h rs r on in
    elim what [
      | inl ahead ↦ omega (arith, ahead, below)
      | inr is ↦ elim (cases_lt m at) [
        | inl done ↦ absurd (none m done (rw (← is) at takes))
        | inr ahead ↦ omega (arith, ahead, below)
      ]
    ]

-- the first find that takes the input stands at the end of the least way
pub search_least : (s : System) (a p : ℕ) (found : List ℕ) (at : ℕ) → HasSearched s p found at → NoneTakes s a found at → at < length found → Takes s (find_at found at) a →
    (rs : List ℕ) × IsLeastWay s a p rs (find_at found at)
search_least s a p found at (ways, h) none here takes = (way_at ways at, record { way = (h.paths at here, takes); least = λ ss r way. least ss r way })
  where
    upto : (m : ℕ) → at ≤ m → m < length found → IsLessOrSame (way_at ways at) (way_at ways m)
    upto m ahead below = elim (cases_eq at m) [
      | inl same ↦ rw same (at_most_same (way_at ways m))
      | inr other ↦ at_most (way_at ways at) (way_at ways m) (h.rising at m (omega (arith, ahead, other)) below)
    ]

    least : (ss : List ℕ) (r : ℕ) → IsWay s a p ss r → IsLessOrSame (way_at ways at) ss
    least ss r (on, able) =
        let (m, below, most, what) = search_meets s p found ways at h ss r on in
        let ahead : at ≤ m = elim what [
          | inl past ↦ past
          | inr is ↦ elim (cases_lt m at) [ inl done ↦ absurd (none m done (rw (← is) at able)) | inr past ↦ past ]
        ] in
        at_most_trans (way_at ways at) (way_at ways m) ss (upto m ahead below) most

-- a search that grew, as far as it has been followed
pub NoneTakes-grows : (s : System) (a : ℕ) (found new more : List ℕ) (at : ℕ) → new ≡ found ++ more → at < length found → NoneTakes s a found at → (Takes s (find_at found at) a → ⊥) → NoneTakes s a new (at + 1)
NoneTakes-grows s a found new more at is here none not k below takes =
    let low : k < length found = omega (arith, below, here) in
    let same : find_at new k ≡ find_at found k = rw is (get_or_append_left found more 0 k low) in
    elim (cases_lt k at) [
      | inl done ↦ none k done (rw same at takes)
      | inr past ↦
          let here_is : k ≡ at = omega (arith, below, past) in
          not (rw (same, here_is) at takes)
    ]

-- a search from p that has looked at these moves of the next find
abbrev pub IsSearching : System → ℕ → List ℕ → ℕ → List Move → Type 0
IsSearching s p found at looked = (ways : List (List ℕ)) × IsSearch s p found ways at looked

-- of two internal moves of a state the earlier one doesn't lead to a later state
targets_rise : (m n : Move) → m.from ≡ n.from → m.act ≡ Tau → n.act ≡ Tau → IsMoveAtMost m n → m.to ≤ n.to
targets_rise m n from one two (inl before) = absurd (omega (arith, from, before))
targets_rise m n from one two (inr (same, inl less)) =
    let a : act_place m.act ≡ 0 = rw one refl in
    let b : act_place n.act ≡ 0 = rw two refl in
    absurd (omega (arith, less, a, b))
targets_rise m n from one two (inr (same, inr (place, most))) = most

-- no target among the moves looked at comes after the one at hand
targets_low : (s : System) (p : ℕ) (ms : List Move) (i : ℕ) (d : Move) → IsSystem s → AreMovesOf s p ms → ms ≡ filter (leaves p) s.moves → i < length ms → (get_or ms i d).act ≡ Tau →
    (r : ℕ) → IsTarget (take i ms) r → r ≤ (get_or ms i d).to
targets_low s p ms i d system these value below tau r (m, (j, low, at), silent, to) =
    let before : j < i = omega (arith, low, length-take-le i ms (omega (arith, below))) in
    let is : get_or ms j d ≡ m = sym (get_or_read ms j m (omega (arith, before, below)) (sym (sym (get_or-take i ms j m before) ∙ at)) d) in
    let sorted : AllPairs IsMoveAtMost ms = rw value (AllPairs-filter IsMoveAtMost (leaves p) s.moves system.sorted) in
    let order : IsMoveAtMost m (get_or ms i d) = rw is at (sorted j i d before below) in
    let from_m : m.from ≡ p = rw is at ((these.each j d (omega (arith, before, below))).0) in
    rw (← to) (targets_rise m (get_or ms i d) (from_m ∙ sym (these.each i d below).0) silent tau order)

-- a move with a label is looked at
pub searching_label : (s : System) (p : ℕ) (found : List ℕ) (at : ℕ) (ms : List Move) (i : ℕ) (d : Move) (l : ℕ) → at < length found → i < length ms → (get_or ms i d).act ≡ Label l →
    IsSearching s p found at (take i ms) → IsSearching s p found at (take (i + 1) ms)
searching_label s p found at ms i d l here below label (ways, h) =
    (ways, rw (take_more ms i d below) (search_look s p found ways at (take i ms) (get_or ms i d) h here (λ tau. absurd (let e : Label l ≡ Tau = sym label ∙ tau in cc))))

-- an internal move is looked at
pub searching_tau : (s : System) (p : ℕ) (found new : List ℕ) (at : ℕ) (ms : List Move) (i : ℕ) (d : Move) → IsSystem s → AreMovesOf s (find_at found at) ms → ms ≡ filter (leaves (find_at found at)) s.moves →
    at < length found → i < length ms → (get_or ms i d).act ≡ Tau → IsFound found (get_or ms i d).to new → IsSearching s p found at (take i ms) → IsSearching s p new at (take (i + 1) ms)
searching_tau s p found new at ms i d system these value here below tau (inl (same, known)) (ways, h) =
    (ways, rw (same, take_more ms i d below) (search_look s p found ways at (take i ms) (get_or ms i d) h here (λ _. known)))
searching_tau s p found new at ms i d system these value here below tau (inr (more, fresh)) (ways, h) =
    let m : Move = get_or ms i d in
    let one = these.each i d below in (
      ways ++ (way_at ways at ++ m.to ∷ []) ∷ [],
      rw (more, take_more ms i d below)
          (search_push s p found ways at (take i ms) m h here tau (HasMove-from_parts s m (find_at found at) Tau one.0 tau one.1) (targets_low s (find_at found at) ms i d system these value below tau) fresh),
    )

-- all moves have been looked at
pub searching_done : (s : System) (p : ℕ) (found : List ℕ) (at : ℕ) (ms : List Move) (i : ℕ) → at < length found → AreMovesOf s (find_at found at) ms → length ms ≤ i → IsSearching s p found at (take i ms) →
    HasSearched s p found (at + 1)
searching_done s p found at ms i here these all (ways, h) = (ways, search_done s p found ways at ms (rw (take_all i ms all) at h) here these)

-- what was found before is found still, at the same place
pub find_kept : (old found more : List ℕ) (at state : ℕ) → found ≡ old ++ more → at < length old → state ≡ get_or old at 0 → (at < length found) × (state ≡ find_at found at)
find_kept old found more at state grows below is =
    (rw grows (omega (arith, below, length-append old more)), rw grows (is ∙ sym (get_or_append_left old more 0 at below)))

-- with one more state looked at, the finds still begin with the old ones
pub found_grows : (old found new more : List ℕ) (q : ℕ) → found ≡ old ++ more → IsFound found q new → (rest : List ℕ) × (new ≡ old ++ rest)
found_grows old found new more q grows (inl (same, known)) = (more, same ∙ grows)
found_grows old found new more q grows (inr (is, fresh)) = (more ++ q ∷ [], is ∙ ap (λ xs. xs ++ q ∷ []) grows ∙ append_assoc old more (q ∷ []))
