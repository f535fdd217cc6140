-- Laws on the steps of the descent: it goes to a new state, blocks become one, and the last block is taken away.
use Rattle.std.proofs.Common.{◌≡◌, ◌≢◌, ℕ, ◌+◌, ◌-◌, ◌<◌, ◌≤◌, List, [], ◌∷◌, ◌++◌, length, get_or, set, take, drop, Option, Some, None, Bool, true, false, ◌⊎◌, inl, inr, All, Contains, refl, sym, ◌∙◌, arith, length-set}
use Rattle.std.proofs.lemmas.List.{length_push, get_or_append_left, get_or_push, get_or-set_same, get_or-set_other, get_or-take, get_or-drop, length-take-le, length-drop, get_or_default}
use Rattle.std.proofs.lemmas.List.Elements.{All-push, All-take, All-contains, All-weaker, Contains-push, Contains-append_left, Contains-push_cases}
use Rattle.std.proofs.lemmas.List.Quantifiers.{all_pairs_push}
use Rattle.std.proofs.lemmas.Bool.{cases_lt, cases_eq, cases_Bool, false≢true}
use Rattle.lts_base.specs.declared.action.Act.TheVariants.{Tau}
use Rattle.lts_base.specs.System.{System, HasMove}
use Rattle.lts_base.specs.System.{TauLeads}
use Rattle.lts_base.specs.declared.descent.Block.{Block}
use Rattle.lts_base.specs.System.{IsOnTauCycle}
use Rattle.lts_base.specs.Descent.{IsAt, IsDone, IsAhead, IsFollowed, IsSource, IsDescent, NoneOpen, IsOpenTo, AreKept, AreMarked}
use Rattle.lts_base.proofs.TauLaws.{TauLeads-here, TauLeads-join, TauLeads-move, IsOnTauCycle-two, IsOnTauCycle-back, IsOnTauCycle-none}
use Rattle.lts_base.proofs.DescentLaws.{push_cases, IsDescent-reaches}

-- the descent goes to a state that it hasn't come to, and begins a block with it
pub IsDescent-enter : (s : System) (places : List (Option ℕ)) (path : List ℕ) (blocks : List Block) (pending : List ℕ) (flags : List Bool) (w : ℕ) (b0 : Block) →
    b0.start ≡ length path → b0.base ≡ length pending → w < s.states → get_or places w None ≡ None → ((i : ℕ) → i < length path → TauLeads s (get_or path i 0) w) →
    IsDescent s (IsOpenTo w) places path blocks pending flags → IsDescent s (λ i q. i ≡ length path) (set places w (Some (length path))) (path ++ w ∷ []) (blocks ++ b0 ∷ []) pending flags
IsDescent-enter s places path blocks pending flags w b0 start base low new leads is = record {
  standing = record {
    places_long = length-set places w (Some (length path)) ∙ is.standing.places_long;
    flags_long = is.standing.flags_long;
    path_within = All-push (λ p. p < s.states) path w is.standing.path_within low;
    placed = λ i below. elim (push_cases path w i below) [
      | inl before ↦ rw (old_at i before) (kept (get_or path i 0) i (is.standing.placed i before))
      | inr here ↦ rw (here, new_at) same
    ];
    sorted = all_pairs_push (λ (a b : Block). (a.start ≤ b.start) × (a.base ≤ b.base)) blocks b0 is.standing.sorted (λ k d below. (omega (arith, start, (is.within k d below).0), omega (arith, base, (is.within k d below).1)));
    first = λ below. elim (cases_lt 0 (length path)) [
      | inl some ↦ let (b, inside, zero) = is.standing.first some in (b, Contains-append_left blocks (b0 ∷ []) b inside, zero)
      | inr none ↦ (b0, Contains-push blocks b0, omega (arith, start, none))
    ];
    leads = λ i k bi bk ahead. elim (push_cases path w i bi) [
      | inl i_old ↦ elim (push_cases path w k bk) [
        | inl k_old ↦ rw (old_at i i_old, old_at k k_old) (is.standing.leads i k i_old k_old (λ b inside. ahead b (Contains-append_left blocks (b0 ∷ []) b inside)))
        | inr k_new ↦ rw (k_new, old_at i i_old, new_at) (leads i i_old)
      ]
      | inr i_new ↦ elim (push_cases path w k bk) [
        | inl k_old ↦ absurd (let after : b0.start ≤ k = ahead b0 (Contains-push blocks b0) (omega (arith, start, i_new)) in omega (arith, after, start, k_old))
        | inr k_new ↦ rw (i_new, k_new) (TauLeads-here s (get_or (path ++ w ∷ []) (length path) 0))
      ]
    ];
    closed = λ p q done has. redone q (is.standing.closed p q (undone p done) has);
    sound = is.standing.sound;
    complete = λ p done on. is.standing.complete p (undone p done) on;
  };
  pending_within = is.pending_within;
  within = All-push (λ (b : Block). (b.start ≤ length (path ++ w ∷ [])) × (b.base ≤ length pending)) blocks b0
      (All-weaker (λ (b : Block). (b.start ≤ length path) × (b.base ≤ length pending)) (λ (b : Block). (b.start ≤ length (path ++ w ∷ [])) × (b.base ≤ length pending)) (λ b in'. (omega (arith, in'.0, length_push path w), in'.1)) blocks is.within)
      (omega (arith, start, length_push path w), omega (arith, base));
  followed = λ i q bi has. elim (push_cases path w i bi) [
    | inl before ↦ elim (is.followed i q before (rw (old_at i before) at has)) [
      | inl to_new ↦ inr (inr (inl (length path, at_new q to_new, more i (length path) before (λ b inside under. begins b inside), λ e. absurd (omega (arith, e, before)))))
      | inr old ↦ inr (later i q before old)
    ]
    | inr here ↦ inl here
  ];
  sources = λ t below.
      let (i, src) = is.sources t below in (
        i,
        (
          omega (arith, src.0, length_push path w),
          rw (old_at i src.0) src.1,
          λ b inside under. elim (Contains-push_cases blocks b0 b inside) [
            | inl o ↦ src.2 b o under
            | inr e ↦ absurd (let under' : b0.base ≤ t = rw (← e) at under in omega (arith, under', base, below))
          ],
          λ b inside under. elim (Contains-push_cases blocks b0 b inside) [
            | inl o ↦ src.3 b o under
            | inr e ↦ absurd (let under' : b0.start ≤ i = rw (← e) at under in omega (arith, under', start, src.0))
          ],
        ),
      );
}
  where
    old_at : (i : ℕ) → i < length path → get_or (path ++ w ∷ []) i 0 ≡ get_or path i 0
    old_at i below = get_or_append_left path (w ∷ []) 0 i below

    new_at : get_or (path ++ w ∷ []) (length path) 0 ≡ w
    new_at = get_or_push path w 0 (length path) refl

    same : get_or (set places w (Some (length path))) w None ≡ Some (length path)
    same = get_or-set_same places w (Some (length path)) None (rw is.standing.places_long low)

    kept : (p i : ℕ) → get_or places p None ≡ Some i → get_or (set places w (Some (length path))) p None ≡ Some i
    kept p i e = elim (cases_eq p w) [
      | inl here ↦ absurd (let f : get_or places w None ≡ Some i = rw here at e in let g : None ≡ Some i = sym new ∙ f in cc)
      | inr other ↦ get_or-set_other places w p (Some (length path)) None other ∙ e
    ]

    at_new : (q : ℕ) → q ≡ w → IsAt (set places w (Some (length path))) (path ++ w ∷ []) q (length path)
    at_new q e = record { place = rw e same; below = omega (arith, length_push path w); here = new_at ∙ sym e }

    begins : (b : Block) → Contains blocks b → b.start ≤ length path
    begins b inside = (All-contains (λ (b : Block). (b.start ≤ length path) × (b.base ≤ length pending)) blocks b is.within inside).0

    more : (i k : ℕ) → i < length path → IsAhead blocks i k → IsAhead (blocks ++ b0 ∷ []) i k
    more i k before ahead b inside under = elim (Contains-push_cases blocks b0 b inside) [
      | inl o ↦ ahead b o under
      | inr e ↦ absurd (let under' : b0.start ≤ i = rw (← e) at under in omega (arith, under', start, before))
    ]

    undone : (p : ℕ) → IsDone (set places w (Some (length path))) (path ++ w ∷ []) p → IsDone places path p
    undone p done =
        let other : p ≢ w = λ e. done.gone (length path) (omega (arith, length_push path w)) (new_at ∙ sym e) in
        record {
          was = (done.was.0, sym (get_or-set_other places w p (Some (length path)) None other) ∙ done.was.1);
          gone = λ i below e. done.gone i (omega (arith, below, length_push path w)) (old_at i below ∙ e);
        }

    redone : (q : ℕ) → IsDone places path q → IsDone (set places w (Some (length path))) (path ++ w ∷ []) q
    redone q done = record {
      was = (done.was.0, kept q done.was.0 done.was.1);
      gone = λ i below e. elim (push_cases path w i below) [
        | inl before ↦ done.gone i before (sym (old_at i before) ∙ e)
        | inr here ↦
            let f : w ≡ q = sym new_at ∙ (rw here at e) in
            let g : get_or places q None ≡ None = rw f at new in
            let h : None ≡ Some done.was.0 = sym g ∙ done.was.1 in
            cc
      ];
    }

    later : (i q : ℕ) → i < length path → IsFollowed places path blocks pending flags i q → IsFollowed (set places w (Some (length path))) (path ++ w ∷ []) (blocks ++ b0 ∷ []) pending flags i q
    later i q before (inl done) = inl (redone q done)
    later i q before (inr (inl (k, on, ahead, flag))) =
        inr (inl (k, record { place = kept q k on.place; below = omega (arith, on.below, length_push path w); here = old_at k on.below ∙ on.here }, more i k before ahead, flag))
    later i q before (inr (inr (t, below, at, after))) = inr (inr (
      t,
      below,
      at,
      λ b inside under. elim (Contains-push_cases blocks b0 b inside) [
        | inl o ↦ after b o under
        | inr e ↦ absurd (let under' : b0.start ≤ i = rw (← e) at under in omega (arith, under', start, before))
      ],
    ))

-- a move with Tau from the last block leads to a state of the path: the blocks from its block on become one
pub IsDescent-merge : (s : System) (places : List (Option ℕ)) (path : List ℕ) (blocks : List Block) (pending : List ℕ) (flags : List Bool) (w p j n : ℕ) →
    w < s.states → IsAt places path w p → All (λ (b : Block). b.base ≤ length pending) blocks → IsSource s path blocks (length pending) w j → AreKept blocks p n →
    IsDescent s (IsOpenTo w) places path blocks pending flags → IsDescent s NoneOpen places path (take n blocks) pending (set flags w true)
IsDescent-merge s places path blocks pending flags w p j n low on bases source are is = record {
  standing = record {
    places_long = is.standing.places_long;
    flags_long = length-set flags w true ∙ is.standing.flags_long;
    path_within = is.standing.path_within;
    placed = is.standing.placed;
    sorted = λ i k d before below.
        let under : k < n = omega (arith, below, length-take-le n blocks are.within) in
        rw (get_or-take n blocks i d (omega (arith, before, under)), get_or-take n blocks k d under) (is.standing.sorted i k d before (omega (arith, under, are.within)));
    first = λ some. let (b, inside, zero) = is.standing.first some in (b, keep b inside (omega (arith, zero)), zero);
    leads = reach;
    closed = is.standing.closed;
    sound = λ q t. elim (cases_eq q w) [
      | inl same ↦ rw same cycle
      | inr other ↦ is.standing.sound q (sym (get_or-set_other flags w q true false other) ∙ t)
    ];
    complete = λ q done back. kept q (is.standing.complete q done back);
  };
  pending_within = is.pending_within;
  within = All-take (λ (b : Block). (b.start ≤ length path) × (b.base ≤ length pending)) n blocks is.within;
  followed = λ i q below has. elim (is.followed i q below has) [
    | inl to_w ↦ inr (inr (inl (p, rw to_w on, λ b inside under. (part b inside).1, λ e. rw to_w raised)))
    | inr (inl done) ↦ inr (inl done)
    | inr (inr (inl (k, at, ahead, flag))) ↦ inr (inr (inl (k, at, λ b inside. ahead b (part b inside).0, λ e. kept q (flag e))))
    | inr (inr (inr (t, under, at, after))) ↦ inr (inr (inr (t, under, at, λ b inside. after b (part b inside).0)))
  ];
  sources = λ t below. let (i, src) = is.sources t below in (i, (src.0, src.1, λ b inside. src.2 b (part b inside).0, λ b inside. src.3 b (part b inside).0));
}
  where
    part : (b : Block) → Contains (take n blocks) b → Contains blocks b × (b.start ≤ p)
    part b (k, below, at) =
        let under : k < n = omega (arith, below, length-take-le n blocks are.within) in
        let e : get_or blocks k b ≡ b = sym (get_or-take n blocks k b under) ∙ at in
        let first : (get_or blocks k b).start ≤ p = are.below k b under in
        ((k, omega (arith, under, are.within), e), rw e at first)

    keep : (b : Block) → Contains blocks b → b.start ≤ p → Contains (take n blocks) b
    keep b (k, below, at) before = elim (cases_lt k n) [
      | inl under ↦ (k, omega (arith, under, length-take-le n blocks are.within), get_or-take n blocks k b under ∙ at)
      | inr over ↦ absurd (let after : p < b.start = rw at at (are.above k b over below) in omega (arith, after, before))
    ]

    raised : get_or (set flags w true) w false ≡ true
    raised = get_or-set_same flags w true false (rw is.standing.flags_long low)

    kept : (q : ℕ) → get_or flags q false ≡ true → get_or (set flags w true) q false ≡ true
    kept q t = elim (cases_eq q w) [
      | inl same ↦ rw same raised
      | inr other ↦ get_or-set_other flags w q true false other ∙ t
    ]

    to_w : (i : ℕ) → i < length path → TauLeads s (get_or path i 0) w
    to_w i below = TauLeads-join s (get_or path i 0) (get_or path j 0) w (IsDescent-reaches s (IsOpenTo w) places path blocks pending flags w j bases source is i below) (TauLeads-move s (get_or path j 0) w source.1)

    from_w : (k : ℕ) → k < length path → IsAhead blocks p k → TauLeads s w (get_or path k 0)
    from_w k below ahead = rw on.here at (is.standing.leads p k on.below below ahead)

    reach : (i k : ℕ) → i < length path → k < length path → IsAhead (take n blocks) i k → TauLeads s (get_or path i 0) (get_or path k 0)
    reach i k bi bk ahead = elim (cases_lt p i) [
      | inl after ↦ TauLeads-join s (get_or path i 0) w (get_or path k 0) (to_w i bi) (from_w k bk (λ b inside before. ahead b (keep b inside before) (omega (arith, before, after))))
      | inr before ↦ is.standing.leads i k bi bk (λ b inside under. ahead b (keep b inside (omega (arith, under, before))) under)
    ]

    cycle : IsOnTauCycle s w
    cycle = IsOnTauCycle-back s w (get_or path j 0) (from_w j source.0 (λ b inside under. source.2 b inside (All-contains (λ (b : Block). b.base ≤ length pending) blocks b bases inside))) source.1

-- nothing is to be looked at for the last block: its states are done
pub IsDescent-close : (s : System) (places : List (Option ℕ)) (path : List ℕ) (front : List Block) (pending : List ℕ) (flags flags' : List Bool) (b0 : Block) →
    length pending ≤ b0.base → (AreMarked (drop b0.start path) flags flags' × (b0.start + 1 < length path)) ⊎ ((flags' ≡ flags) × (length path ≤ b0.start + 1)) →
    IsDescent s NoneOpen places path (front ++ b0 ∷ []) pending flags → IsDescent s NoneOpen places (take b0.start path) front pending flags'
IsDescent-close s places path front pending flags flags' b0 over marks is = record {
  standing = record {
    places_long = is.standing.places_long;
    flags_long = elim marks [ inl m ↦ m.0.long ∙ is.standing.flags_long | inr m ↦ rw m.0 is.standing.flags_long ];
    path_within = All-take (λ p. p < s.states) b0.start path is.standing.path_within;
    placed = λ i below. let under = low i below in rw (old_at i under) (is.standing.placed i (omega (arith, under, begins)));
    sorted = λ i k d before below.
        rw (get_or_append_left front (b0 ∷ []) d i (omega (arith, before, below)), get_or_append_left front (b0 ∷ []) d k below) at (is.standing.sorted i k d before (omega (arith, below, length_push front b0)));
    first = λ some.
        let (b, inside, zero) = is.standing.first (omega (arith, some, short, begins)) in
        elim (Contains-push_cases front b0 b inside) [
          | inl o ↦ (b, o, zero)
          | inr e ↦ absurd (let none : b0.start ≡ 0 = rw (← e) at zero in omega (arith, none, some, short))
        ];
    leads = λ i k bi bk ahead.
        rw (old_at i (low i bi), old_at k (low k bk)) (is.standing.leads i k (omega (arith, low i bi, begins)) (omega (arith, low k bk, begins)) (λ b inside under. elim (Contains-push_cases front b0 b inside) [
          | inl o ↦ ahead b o under
          | inr e ↦ absurd (let under' : b0.start ≤ i = rw (← e) at under in omega (arith, under', low i bi))
        ]));
    closed = λ p q done has. elim (done_cases p done) [
      | inl old ↦ redone q (is.standing.closed p q old has)
      | inr (i, past, on) ↦ elim (targets i q past on.below (rw on.here has)) [
        | inl old ↦ redone q old
        | inr (k, past_k, on_k, flag) ↦ now_done q k past_k on_k
      ]
    ];
    sound = λ p t. elim marks [
      | inl m ↦ elim (m.0.from p t) [
        | inl old ↦ is.standing.sound p old
        | inr inside ↦ marked p inside m.1
      ]
      | inr m ↦ is.standing.sound p (rw m.0 at t)
    ];
    complete = λ p done back. elim (done_cases p done) [
      | inl old ↦ kept p (is.standing.complete p old back)
      | inr (i, past, on) ↦ elim marks [
        | inl m ↦
            let e : get_or (drop b0.start path) (i - b0.start) 0 ≡ p = get_or-drop b0.start path (i - b0.start) 0 ∙ (let sum : b0.start + (i - b0.start) ≡ i = omega (arith, past) in rw sum on.here) in
            rw e at (m.0.each (i - b0.start) (omega (arith, past, on.below, length-drop b0.start path)))
        | inr m ↦ rw m.0 (alone p i past on m.1 back)
      ]
    ];
  };
  pending_within = is.pending_within;
  within = λ k d below.
      let old = rw (get_or_append_left front (b0 ∷ []) d k below) at (is.within k d (omega (arith, below, length_push front b0))) in
      (rw short (top k d below), old.1);
  followed = λ i q below has. elim (is.followed i q (omega (arith, low i below, begins)) (rw (old_at i (low i below)) at has)) [
    | inl none ↦ absurd none
    | inr (inl done) ↦ inr (inl (redone q done))
    | inr (inr (inl (k, on, ahead, flag))) ↦ elim (cases_lt k b0.start) [
      | inl under ↦ inr (inr (inl (k, record { place = on.place; below = omega (arith, under, short); here = old_at k under ∙ on.here }, λ b inside. ahead b (Contains-append_left front (b0 ∷ []) b inside), λ e. kept q (flag e))))
      | inr past ↦ inr (inl (now_done q k past on))
    ]
    | inr (inr (inr (t, under, at, after))) ↦ inr (inr (inr (t, under, at, λ b inside. after b (Contains-append_left front (b0 ∷ []) b inside))))
  ];
  sources = λ t below.
      let (i, src) = is.sources t below in
      let under : i < b0.start = elim (cases_lt i b0.start) [
        | inl under ↦ under
        | inr past ↦ absurd (let after : b0.base ≤ t = src.3 b0 (Contains-push front b0) past in omega (arith, after, below, over))
      ] in
      (i, (omega (arith, under, short), rw (old_at i under) src.1, λ b inside. src.2 b (Contains-append_left front (b0 ∷ []) b inside), λ b inside. src.3 b (Contains-append_left front (b0 ∷ []) b inside)));
}
  where
    begins : b0.start ≤ length path
    begins = (All-contains (λ (b : Block). (b.start ≤ length path) × (b.base ≤ length pending)) (front ++ b0 ∷ []) b0 is.within (Contains-push front b0)).0

    short : length (take b0.start path) ≡ b0.start
    short = length-take-le b0.start path begins

    low : (i : ℕ) → i < length (take b0.start path) → i < b0.start
    low i below = omega (arith, below, short)

    old_at : (i : ℕ) → i < b0.start → get_or (take b0.start path) i 0 ≡ get_or path i 0
    old_at i under = get_or-take b0.start path i 0 under

    top : (k : ℕ) (d : Block) → k < length front → (get_or front k d).start ≤ b0.start
    top k d below =
        let both = is.standing.sorted k (length front) d below (omega (arith, length_push front b0)) in
        rw (get_or_append_left front (b0 ∷ []) d k below, get_or_push front b0 d (length front) refl) at both.0

    tops : (b : Block) → Contains (front ++ b0 ∷ []) b → b.start ≤ b0.start
    tops b inside = elim (Contains-push_cases front b0 b inside) [
      | inl (k, below, at) ↦ rw at at (top k b below)
      | inr e ↦ rw e (omega arith)
    ]

    kept : (p : ℕ) → get_or flags p false ≡ true → get_or flags' p false ≡ true
    kept p t = elim marks [ inl m ↦ m.0.kept p t | inr m ↦ rw m.0 t ]

    same_place : (p i k : ℕ) → get_or places p None ≡ Some i → k < length path → get_or path k 0 ≡ p → k ≡ i
    same_place p i k at below here =
        let e : get_or places p None ≡ Some k = rw here at (is.standing.placed k below) in
        let f : Some k ≡ Some i = sym e ∙ at in
        cc

    redone : (p : ℕ) → IsDone places path p → IsDone places (take b0.start path) p
    redone p done = record {
      was = done.was;
      gone = λ i below e. done.gone i (omega (arith, low i below, begins)) (sym (old_at i (low i below)) ∙ e);
    }

    now_done : (p k : ℕ) → b0.start ≤ k → IsAt places path p k → IsDone places (take b0.start path) p
    now_done p k past on = record {
      was = (k, on.place);
      gone = λ i below e.
          let same : i ≡ k = same_place p k i on.place (omega (arith, low i below, begins)) (sym (old_at i (low i below)) ∙ e) in
          omega (arith, same, past, low i below);
    }

    done_cases : (p : ℕ) → IsDone places (take b0.start path) p → IsDone places path p ⊎ ((i : ℕ) × (b0.start ≤ i) × IsAt places path p i)
    done_cases p done = elim (cases_lt done.was.0 (length path)) [
      | inl below ↦ elim (cases_eq (get_or path done.was.0 0) p) [
        | inl here ↦ elim (cases_lt done.was.0 b0.start) [
          | inl under ↦ absurd (done.gone done.was.0 (omega (arith, under, short)) (old_at done.was.0 under ∙ here))
          | inr past ↦ inr (done.was.0, past, record { place = done.was.1; below = below; here = here })
        ]
        | inr away ↦ inl (record { was = done.was; gone = λ k bk e. away (let same : k ≡ done.was.0 = same_place p done.was.0 k done.was.1 bk e in rw same at e) })
      ]
      | inr past ↦ inl (record { was = done.was; gone = λ k bk e. (let same : k ≡ done.was.0 = same_place p done.was.0 k done.was.1 bk e in omega (arith, same, past, bk)) })
    ]

    targets : (i q : ℕ) → b0.start ≤ i → i < length path → HasMove s (get_or path i 0) Tau q → IsDone places path q ⊎ ((k : ℕ) × (b0.start ≤ k) × IsAt places path q k × (k ≡ i → get_or flags q false ≡ true))
    targets i q past below has = elim (is.followed i q below has) [
      | inl none ↦ absurd none
      | inr (inl done) ↦ inl done
      | inr (inr (inl (k, on, ahead, flag))) ↦ inr (k, ahead b0 (Contains-push front b0) past, on, flag)
      | inr (inr (inr (t, under, at, after))) ↦ absurd (let later : b0.base ≤ t = after b0 (Contains-push front b0) past in omega (arith, later, under, over))
    ]

    both : (i k : ℕ) → b0.start ≤ k → i < length path → k < length path → TauLeads s (get_or path i 0) (get_or path k 0)
    both i k past bi bk = is.standing.leads i k bi bk (λ b inside under. omega (arith, tops b inside, past))

    pair : (i k : ℕ) → b0.start ≤ i → b0.start ≤ k → i < length path → k < length path → i ≢ k → IsOnTauCycle s (get_or path i 0)
    pair i k past_i past_k bi bk apart =
        IsOnTauCycle-two s (get_or path i 0) (get_or path k 0) (λ e. apart (same_place (get_or path k 0) k i (is.standing.placed k bk) bi e)) (both i k past_k bi bk) (both k i past_i bk bi)

    marked : (p : ℕ) → Contains (drop b0.start path) p → b0.start + 1 < length path → IsOnTauCycle s p
    marked p (k, below, at) many =
        let under : b0.start + k < length path = omega (arith, below, length-drop b0.start path) in
        let e : get_or path (b0.start + k) 0 ≡ p = sym (get_or-drop b0.start path k 0) ∙ get_or_default (drop b0.start path) k 0 p below ∙ at in
        let back : IsOnTauCycle s (get_or path (b0.start + k) 0) = elim (cases_lt 0 k) [
          | inl some ↦ pair (b0.start + k) b0.start (omega arith) (omega arith) under (omega (arith, many)) (λ same. omega (arith, same, some))
          | inr none ↦ pair (b0.start + k) (b0.start + 1) (omega arith) (omega arith) under many (λ same. omega (arith, same, none))
        ] in
        rw e at back

    alone : (p i : ℕ) → b0.start ≤ i → IsAt places path p i → length path ≤ b0.start + 1 → IsOnTauCycle s p → get_or flags p false ≡ true
    alone p i past on single back = elim (cases_Bool (get_or flags p false)) [
      | inl t ↦ t
      | inr f ↦ absurd (IsOnTauCycle-none s (λ q. IsDone places path q) p (λ q r done has. is.standing.closed q r done has)
          (λ q has. elim (targets i q past on.below (rw on.here has)) [
            | inl done ↦ done
            | inr (k, past_k, on_k, flag) ↦ absurd (
                let same : k ≡ i = omega (arith, past, past_k, on.below, on_k.below, single) in
                let e : q ≡ p = sym on_k.here ∙ (rw same on.here) in
                let t : get_or flags p false ≡ true = rw e at (flag same) in
                false≢true (sym f ∙ t))
          ])
          (λ done. done.gone i on.below on.here) back)
    ]
