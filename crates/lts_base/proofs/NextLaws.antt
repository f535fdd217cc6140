-- The next list of states is there for every list and item: it is computed by adding, one move after another, where a move
-- with Tau leads from a state that is already there.
use Rattle.std.proofs.Common.{ℕ, zero, suc, ◌+◌, ◌<◌, ◌≤◌, ◌≡◌, List, [], ◌∷◌, ◌++◌, length, refl, sym, ap, ◌∙◌, inl, inr, ◌⊎◌, arith}
use Rattle.std.specs.Prelude.{All, Contains}
use Rattle.std.specs.List.Sorted.{IsStrictlyIncreasing}
use Rattle.std.proofs.lemmas.Bool.{cases_eq, cases_lt}
use Rattle.std.proofs.lemmas.List.{length-append}
use Rattle.std.proofs.lemmas.List.Elements.{Contains-append_left, Contains-append_right, Contains-append_cases, Contains-get_or, Contains-push, Contains-push_cases, All-push}
use Rattle.lts_base.specs.declared.action.Act.{Act}
use Rattle.lts_base.specs.declared.action.Act.TheVariants.{Tau, Label}
use Rattle.lts_base.specs.declared.action.Move.{Move}
use Rattle.lts_base.specs.declared.divergence.Divergence.{Divergence}
use Rattle.lts_base.specs.declared.divergence.Divergence.TheVariants.{Refuse, Quiet}
use Rattle.lts_base.specs.declared.item.Item.{Item}
use Rattle.lts_base.specs.declared.item.Item.TheVariants.{Input, Output, Delta}
use Rattle.lts_base.specs.System.{System, HasMove, IsStable, GivesNoOutput, IsOnTauCycle, IsOnQuietCycle, IsQuiet}
use Rattle.lts_base.specs.Path.{Leads, IsSeen, item_of}
use Rattle.lts_base.specs.Next.{Reaches, IsNext}
use Rattle.lts_base.proofs.ListLaws.{Contains-first_cases, Contains-rest, Contains-first, Contains-none, IsStrictlyIncreasing-push}
use Rattle.lts_base.proofs.TauLaws.{TauLeads-from_leads, Leads-from_tau_leads}
use Rattle.lts_base.proofs.Leads.{act_cases, HasMove-from_parts, Leads-here, Leads-append, Leads-tau, Leads-closed, IsSeen-along, IsSeen-cases, IsSeen-from_quiet}

pub contains_number : (xs : List ℕ) (q : ℕ) → Contains xs q ⊎ (¬ Contains xs q)
contains_number [] q = inr (λ has. Contains-none q has)
contains_number (x ∷ xs) q =
    elim (cases_eq x q) [
      | inl same ↦ inl (rw same (Contains-first q xs))
      | inr apart ↦
          elim (contains_number xs q) [
            | inl has ↦ inl (Contains-rest x xs q has)
            | inr none ↦ inr (λ has. elim (Contains-first_cases x xs q has) [ inl same ↦ apart same | inr there ↦ none there ])
          ]
    ]

same_item : (x y : Item) → (x ≡ y) ⊎ ¬ (x ≡ y)
same_item (Input a) (Input b) = elim (cases_eq a b) [ inl e ↦ inl (ap Input e) | inr apart ↦ inr (λ e. apart cc) ]
same_item (Input a) (Output b) = inr (λ e. cc)
same_item (Input a) Delta = inr (λ e. cc)
same_item (Output a) (Input b) = inr (λ e. cc)
same_item (Output a) (Output b) = elim (cases_eq a b) [ inl e ↦ inl (ap Output e) | inr apart ↦ inr (λ e. apart cc) ]
same_item (Output a) Delta = inr (λ e. cc)
same_item Delta (Input b) = inr (λ e. cc)
same_item Delta (Output b) = inr (λ e. cc)
same_item Delta Delta = inl refl

-- ---- states that an item leads to at once

-- from a member, a move with a label that is the item leads to each seed
record AreSown (s : System) (x : Item) (ps : List ℕ) (ms : List Move) (seeds : List ℕ) : Type 0 where
  each : (r : ℕ) → Contains seeds r → (p : ℕ) × Contains ps p × IsSeen s p x r
  all : (m : Move) (l : ℕ) → Contains ms m → m.act ≡ Label l → item_of s l ≡ x → Contains ps m.from → Contains seeds m.to

sown_skip : (s : System) (x : Item) (ps : List ℕ) (m : Move) (ms : List Move) (seeds : List ℕ) → AreSown s x ps ms seeds →
    ((l : ℕ) → m.act ≡ Label l → item_of s l ≡ x → Contains ps m.from → ⊥) → AreSown s x ps (m ∷ ms) seeds
sown_skip s x ps m ms seeds sown skips =
    record {
      each = sown.each;
      all = λ k l has label e from. elim (Contains-first_cases m ms k has) [
        | inl same ↦ absurd (skips l (rw same label) e (rw same from))
        | inr there ↦ sown.all k l there label e from
      ];
    }

sown_take : (s : System) (x : Item) (ps : List ℕ) (m : Move) (ms : List Move) (seeds : List ℕ) (l : ℕ) → AreSown s x ps ms seeds →
    Contains s.moves m → m.act ≡ Label l → item_of s l ≡ x → Contains ps m.from → AreSown s x ps (m ∷ ms) (m.to ∷ seeds)
sown_take s x ps m ms seeds l sown inside label e from =
    record {
      each = λ r has. elim (Contains-first_cases m.to seeds r has) [
        | inl same ↦ rw (← same) (m.from, from, rw (← e) (IsSeen-along s m.from l m.to (HasMove-from_parts s m m.from (Label l) refl label inside)))
        | inr there ↦ sown.each r there
      ];
      all = λ k j has is at there. elim (Contains-first_cases m ms k has) [
        | inl same ↦ rw (← same) (Contains-first m.to seeds)
        | inr after ↦ Contains-rest m.to seeds k.to (sown.all k j after is at there)
      ];
    }

same_label : (a : Act) (l k : ℕ) → a ≡ Label l → a ≡ Label k → l ≡ k
same_label a l k f g = cc

no_label : (a : Act) (l : ℕ) → a ≡ Tau → a ≡ Label l → ⊥
no_label a l f g = cc

sow : (s : System) (x : Item) (ps : List ℕ) (ms : List Move) → ((m : Move) → Contains ms m → Contains s.moves m) → (seeds : List ℕ) × AreSown s x ps ms seeds
sow s x ps [] inside = ([], record { each = λ r has. absurd (Contains-none r has); all = λ m l has. absurd (Contains-none m has) })
sow s x ps (m ∷ ms) inside =
    let (seeds, sown) = sow s x ps ms (λ k has. inside k (Contains-rest m ms k has)) in
    elim (act_cases m.act) [
      | inl tau ↦ (seeds, sown_skip s x ps m ms seeds sown (λ l label e from. no_label m.act l tau label))
      | inr (l, label) ↦
          elim (same_item (item_of s l) x) [
            | inr other ↦ (seeds, sown_skip s x ps m ms seeds sown (λ k is e from. other (ap (item_of s) (same_label m.act l k label is) ∙ e)))
            | inl e ↦
                elim (contains_number ps m.from) [
                  | inr none ↦ (seeds, sown_skip s x ps m ms seeds sown (λ k is at from. none from))
                  | inl from ↦ (m.to ∷ seeds, sown_take s x ps m ms seeds l sown (inside m (Contains-first m ms)) label e from)
                ]
          ]
    ]

-- ---- closure under Tau

record IsGrown (s : System) (seeds found : List ℕ) (unused : List Move) : Type 0 where
  kept : (q : ℕ) → Contains seeds q → Contains found q
  each : (q : ℕ) → Contains found q → (p : ℕ) × Contains seeds p × Leads s p [] q
  moves : (m : Move) → Contains s.moves m → Contains unused m ⊎ Contains found m.to
  inside : (m : Move) → Contains unused m → Contains s.moves m

record IsClosure (s : System) (seeds found : List ℕ) : Type 0 where
  kept : (q : ℕ) → Contains seeds q → Contains found q
  each : (q : ℕ) → Contains found q → (p : ℕ) × Contains seeds p × Leads s p [] q
  closed : (p q : ℕ) → Contains found p → HasMove s p Tau q → Contains found q

pick : (found : List ℕ) (ms : List Move) →
    ((m : Move) × (front : List Move) × (back : List Move) × (ms ≡ front ++ m ∷ back) × (m.act ≡ Tau) × Contains found m.from) ⊎ ((m : Move) → Contains ms m → m.act ≡ Tau → Contains found m.from → ⊥)
pick found [] = inr (λ m has tau from. Contains-none m has)
pick found (m ∷ ms) =
    elim (pick found ms) [
      | inl (k, front, back, e, tau, from) ↦ inl (k, m ∷ front, back, ap (λ ks. m ∷ ks) e, tau, from)
      | inr none ↦
          elim (act_cases m.act) [
            | inr (l, label) ↦ inr (λ k has tau from. elim (Contains-first_cases m ms k has) [ inl same ↦ no_label k.act l tau (rw same at label) | inr there ↦ none k there tau from ])
            | inl tau ↦
                elim (contains_number found m.from) [
                  | inl from ↦ inl (m, [], ms, refl, tau, from)
                  | inr apart ↦ inr (λ k has is from. elim (Contains-first_cases m ms k has) [ inl same ↦ apart (rw same from) | inr there ↦ none k there is from ])
                ]
          ]
    ]

grown_more : (s : System) (seeds found : List ℕ) (m : Move) (front back : List Move) → m.act ≡ Tau → Contains found m.from → IsGrown s seeds found (front ++ m ∷ back) → IsGrown s seeds (m.to ∷ found) (front ++ back)
grown_more s seeds found m front back tau from grown =
    record {
      kept = λ q has. Contains-rest m.to found q (grown.kept q has);
      each = λ q has. elim (Contains-first_cases m.to found q has) [
        | inl same ↦
            let (p, seed, way) = grown.each m.from from in
            rw (← same) (p, seed, Leads-append s p m.from m.to [] [] way (Leads-tau s m.from m.to (HasMove-from_parts s m m.from Tau refl tau (grown.inside m (Contains-append_right front (m ∷ back) m (Contains-first m back))))))
        | inr there ↦ grown.each q there
      ];
      moves = λ k has. elim (grown.moves k has) [
        | inl unused ↦ elim (Contains-append_cases front (m ∷ back) k unused) [
          | inl before ↦ inl (Contains-append_left front back k before)
          | inr after ↦ elim (Contains-first_cases m back k after) [
            | inl same ↦ inr (rw (← same) (Contains-first m.to found))
            | inr there ↦ inl (Contains-append_right front back k there)
          ]
        ]
        | inr there ↦ inr (Contains-rest m.to found k.to there)
      ];
      inside = λ k has. grown.inside k (elim (Contains-append_cases front back k has) [
        | inl before ↦ Contains-append_left front (m ∷ back) k before
        | inr after ↦ Contains-append_right front (m ∷ back) k (Contains-rest m back k after)
      ]);
    }

grown_all : (s : System) (seeds found : List ℕ) (unused : List Move) → IsGrown s seeds found unused → ((m : Move) → Contains unused m → m.act ≡ Tau → Contains found m.from → ⊥) → IsClosure s seeds found
grown_all s seeds found unused grown none =
    record {
      kept = grown.kept;
      each = grown.each;
      closed = λ p q has move. elim (grown.moves _ move) [ inl left ↦ absurd (none _ left refl has) | inr there ↦ there ];
    }

shorter : (front back : List Move) (m : Move) (fuel : ℕ) → length (front ++ m ∷ back) ≤ fuel + 1 → length (front ++ back) ≤ fuel
shorter front back m fuel h = rw (length-append front back) (omega (arith, rw (length-append front (m ∷ back)) at h))

some_length : (front back : List Move) (m : Move) → length (front ++ m ∷ back) ≤ 0 → ⊥
some_length front back m h = omega (arith, rw (length-append front (m ∷ back)) at h)

grow : (s : System) (seeds : List ℕ) (fuel : ℕ) (found : List ℕ) (unused : List Move) → length unused ≤ fuel → IsGrown s seeds found unused → (all : List ℕ) × IsClosure s seeds all
grow s seeds zero found unused few grown =
    elim (pick found unused) [
      | inl (m, front, back, e, tau, from) ↦ absurd (some_length front back m (rw e at few))
      | inr none ↦ (found, grown_all s seeds found unused grown none)
    ]
grow s seeds (suc fuel) found unused few grown =
    elim (pick found unused) [
      | inl (m, front, back, e, tau, from) ↦
          grow s seeds fuel (m.to ∷ found) (front ++ back) (shorter front back m fuel (omega (arith, rw e at few))) (grown_more s seeds found m front back tau from (rw e at grown))
      | inr none ↦ (found, grown_all s seeds found unused grown none)
    ]

closure : (s : System) (seeds : List ℕ) → (all : List ℕ) × IsClosure s seeds all
closure s seeds =
    grow s seeds (length s.moves) seeds s.moves (omega arith) (record {
      kept = λ q has. has;
      each = λ q has. (q, has, Leads-here s q);
      moves = λ m has. inl has;
      inside = λ m has. has;
    })

-- ---- quiet states

abbrev IsLoudAct : System → Act → Type 0
IsLoudAct s Tau = Unit {0}
IsLoudAct s (Label a) = s.inputs ≤ a

loud_cases : (s : System) (a : Act) → IsLoudAct s a ⊎ (IsLoudAct s a → ⊥)
loud_cases s Tau = inl tt
loud_cases s (Label a) = elim (cases_lt a s.inputs) [ inl less ↦ inr (λ h. omega (arith, less, h)) | inr most ↦ inl most ]

find_loud : (s : System) (p : ℕ) (ms : List Move) →
    ((m : Move) × Contains ms m × (m.from ≡ p) × IsLoudAct s m.act) ⊎ ((m : Move) → Contains ms m → m.from ≡ p → IsLoudAct s m.act → ⊥)
find_loud s p [] = inr (λ m has e loud. Contains-none m has)
find_loud s p (m ∷ ms) =
    elim (find_loud s p ms) [
      | inl (k, has, from, loud) ↦ inl (k, Contains-rest m ms k has, from, loud)
      | inr none ↦
          elim (cases_eq m.from p) [
            | inr apart ↦ inr (λ k has e loud. elim (Contains-first_cases m ms k has) [ inl same ↦ apart (ap (λ (o : Move). o.from) same ∙ e) | inr there ↦ none k there e loud ])
            | inl from ↦
                elim (loud_cases s m.act) [
                  | inl loud ↦ inl (m, Contains-first m ms, from, loud)
                  | inr still ↦ inr (λ k has e loud. elim (Contains-first_cases m ms k has) [ inl same ↦ still (rw same loud) | inr there ↦ none k there e loud ])
                ]
          ]
    ]

not_silent : (s : System) (p : ℕ) (m : Move) (a : Act) → m.act ≡ a → Contains s.moves m → m.from ≡ p → IsLoudAct s a → ¬ (IsStable s p × GivesNoOutput s p)
not_silent s p m Tau is has from loud quiet = quiet.0 m.to (HasMove-from_parts s m p Tau from is has)
not_silent s p m (Label a) is has from loud quiet = quiet.1 a loud (m.to, HasMove-from_parts s m p (Label a) from is has)

silent_cases : (s : System) (p : ℕ) → (IsStable s p × GivesNoOutput s p) ⊎ (¬ (IsStable s p × GivesNoOutput s p))
silent_cases s p =
    elim (find_loud s p s.moves) [
      | inl (m, has, from, loud) ↦ inr (λ quiet. not_silent s p m m.act refl has from loud quiet)
      | inr none ↦ inl (λ q has. none _ has refl tt, λ a high (q, has). none _ has refl high)
    ]

-- ---- states on cycles of Tau

-- a move with Tau leads from p to each of these states, and to no others
record AreTauTargets (s : System) (p : ℕ) (ms : List Move) (targets : List ℕ) : Type 0 where
  each : (q : ℕ) → Contains targets q → HasMove s p Tau q
  all : (q : ℕ) → Contains ms (record { from = p; act = Tau; to = q }) → Contains targets q

tau_targets : (s : System) (p : ℕ) (ms : List Move) → ((m : Move) → Contains ms m → Contains s.moves m) → (targets : List ℕ) × AreTauTargets s p ms targets
tau_targets s p [] inside = ([], record { each = λ q has. absurd (Contains-none q has); all = λ q has. absurd (Contains-none _ has) })
tau_targets s p (m ∷ ms) inside =
    let (targets, are) = tau_targets s p ms (λ k has. inside k (Contains-rest m ms k has)) in
    elim (act_cases m.act) [
      | inr (l, label) ↦ (
        targets,
        record {
          each = are.each;
          all = λ q has. elim (Contains-first_cases m ms _ has) [ inl same ↦ absurd (no_label m.act l (ap (λ (k : Move). k.act) same) label) | inr there ↦ are.all q there ];
        },
      )
      | inl tau ↦
          elim (cases_eq m.from p) [
            | inr apart ↦ (
              targets,
              record {
                each = are.each;
                all = λ q has. elim (Contains-first_cases m ms _ has) [ inl same ↦ absurd (apart (ap (λ (k : Move). k.from) same)) | inr there ↦ are.all q there ];
              },
            )
            | inl from ↦ (
              m.to ∷ targets,
              record {
                each = λ q has. elim (Contains-first_cases m.to targets q has) [
                  | inl same ↦ rw (← same) (HasMove-from_parts s m p Tau from tau (inside m (Contains-first m ms)))
                  | inr there ↦ are.each q there
                ];
                all = λ q has. elim (Contains-first_cases m ms _ has) [
                  | inl same ↦ let to : m.to ≡ q = ap (λ (k : Move). k.to) same in rw (← to) (Contains-first m.to targets)
                  | inr there ↦ Contains-rest m.to targets q (are.all q there)
                ];
              },
            )
          ]
    ]

cycle_cases : (s : System) (p : ℕ) → IsOnTauCycle s p ⊎ (¬ IsOnTauCycle s p)
cycle_cases s p =
    let (targets, are) = tau_targets s p s.moves (λ m has. has) in
    let (all, closed) = closure s targets in
    elim (contains_number all p) [
      | inl has ↦
          let (r, seed, way) = closed.each p has in
          let (rs, on) = TauLeads-from_leads s r p way in
          inl (r, rs, (are.each r seed, on))
      | inr none ↦ inr (λ (r, rs, on). none (Leads-closed s (λ q. Contains all q) (λ a b has move. closed.closed a b has move) r p (closed.kept r (are.all r on.0)) (Leads-from_tau_leads s r p (rs, on.1))))
    ]

quiet_cycle_cases : (s : System) (p : ℕ) → IsOnQuietCycle s p ⊎ (¬ IsOnQuietCycle s p)
quiet_cycle_cases s p = go s.divergence refl
  where
    go : (d : Divergence) → s.divergence ≡ d → IsOnQuietCycle s p ⊎ (¬ IsOnQuietCycle s p)
    go Refuse is = inr (λ on. let e : Refuse ≡ Quiet = sym is ∙ on.0 in cc)
    go Quiet is = elim (cycle_cases s p) [ inl on ↦ inl (is, on) | inr off ↦ inr (λ on. off on.1) ]

pub quiet_cases : (s : System) (p : ℕ) → IsQuiet s p ⊎ (¬ IsQuiet s p)
quiet_cases s p =
    elim (silent_cases s p) [
      | inl silent ↦ inl (inl silent)
      | inr loud ↦
          elim (quiet_cycle_cases s p) [
            | inl on ↦ inl (inr on)
            | inr off ↦ inr (λ quiet. elim quiet [ inl silent ↦ loud silent | inr on ↦ off on ])
          ]
    ]

sow_quiet : (s : System) (x : Item) (ps : List ℕ) → (seeds : List ℕ) × ((r : ℕ) → Contains seeds r → Contains ps r × IsSeen s r x r) × ((p : ℕ) → Contains ps p → IsQuiet s p → Delta ≡ x → Contains seeds p)
sow_quiet s x [] = ([], λ r has. absurd (Contains-none r has), λ p has. absurd (Contains-none p has))
sow_quiet s x (p ∷ ps) =
    let (seeds, each, all) = sow_quiet s x ps in
    elim (same_item Delta x) [
      | inr other ↦ (seeds, λ r has. (Contains-rest p ps r (each r has).0, (each r has).1), λ q has quiet e. absurd (other e))
      | inl e ↦
          elim (quiet_cases s p) [
            | inr loud ↦ (
              seeds,
              λ r has. (Contains-rest p ps r (each r has).0, (each r has).1),
              λ q has quiet d. elim (Contains-first_cases p ps q has) [ inl same ↦ absurd (loud (rw same quiet)) | inr there ↦ all q there quiet d ],
            )
            | inl quiet ↦ (
              p ∷ seeds,
              λ r has. elim (Contains-first_cases p seeds r has) [
                | inl same ↦ rw (← same) (Contains-first p ps, rw (← e) (IsSeen-from_quiet s p quiet))
                | inr there ↦ (Contains-rest p ps r (each r there).0, (each r there).1)
              ],
              λ q has still d. elim (Contains-first_cases p ps q has) [ inl same ↦ rw (← same) (Contains-first p seeds) | inr there ↦ Contains-rest p seeds q (all q there still d) ],
            )
          ]
    ]

-- ---- in ascending order

record AreAscending (found : List ℕ) (n : ℕ) (qs : List ℕ) : Type 0 where
  rising : IsStrictlyIncreasing qs
  below : All (λ q. q < n) qs
  each : (q : ℕ) → Contains qs q → Contains found q
  all : (q : ℕ) → q < n → Contains found q → Contains qs q

ascend : (found : List ℕ) (n : ℕ) → (qs : List ℕ) × AreAscending found n qs
ascend found zero = ([], record { rising = λ k less. absurd (omega (arith, less)); below = λ k d less. absurd (omega (arith, less)); each = λ q has. absurd (Contains-none q has); all = λ q less. absurd (omega (arith, less)) })
ascend found (suc n) =
    let (qs, old) = ascend found n in
    elim (contains_number found n) [
      | inr none ↦ (
        qs,
        record {
          rising = old.rising;
          below = λ k d less. omega (arith, old.below k d less);
          each = old.each;
          all = λ q less has. elim (cases_eq q n) [ inl same ↦ absurd (none (rw same at has)) | inr apart ↦ old.all q (omega (arith, less, apart)) has ];
        },
      )
      | inl there ↦ (
        qs ++ n ∷ [],
        record {
          rising = IsStrictlyIncreasing-push qs n old.rising old.below;
          below = All-push (λ q. q < suc n) qs n (λ k d less. omega (arith, old.below k d less)) (omega arith);
          each = λ q has. elim (Contains-push_cases qs n q has) [ inl before ↦ old.each q before | inr same ↦ rw same at there ];
          all = λ q less has. elim (cases_eq q n) [ inl same ↦ rw same (Contains-push qs n) | inr apart ↦ Contains-append_left qs (n ∷ []) q (old.all q (omega (arith, less, apart)) has) ];
        },
      )
    ]

bound : (xs : List ℕ) → (n : ℕ) × ((q : ℕ) → Contains xs q → q < n)
bound [] = (0, λ q has. absurd (Contains-none q has))
bound (x ∷ xs) =
    let (n, below) = bound xs in
    (x + n + 1, λ q has. elim (Contains-first_cases x xs q has) [ inl same ↦ omega (arith, same) | inr there ↦ omega (arith, below q there) ])

-- ---- the next list

pub next_exists : (s : System) (x : Item) (ps : List ℕ) → (qs : List ℕ) × IsNext s x ps qs
next_exists s x ps =
    let (moved, sown) = sow s x ps s.moves (λ m has. has) in
    let (rested, still, quiet) = sow_quiet s x ps in
    let (all, closed) = closure s (moved ++ rested) in
    let (n, below) = bound all in
    let (qs, order) = ascend all n in (
      qs,
      record {
        rising = order.rising;
        each = λ k d less. each s x ps moved rested all sown still closed _ (order.each _ (Contains-get_or qs k d less));
        all = λ q (p, r, from, seen, way). order.all q (below q (reached s x ps moved rested all sown quiet closed p r q from seen way)) (reached s x ps moved rested all sown quiet closed p r q from seen way);
      },
    )
  where
    each : (s : System) (x : Item) (ps moved rested all : List ℕ) → AreSown s x ps s.moves moved → ((r : ℕ) → Contains rested r → Contains ps r × IsSeen s r x r) → IsClosure s (moved ++ rested) all →
        (q : ℕ) → Contains all q → Reaches s ps x q
    each s x ps moved rested all sown still closed q has =
        let (r, seed, way) = closed.each q has in
        elim (Contains-append_cases moved rested r seed) [
          | inl one ↦ let (p, from, seen) = sown.each r one in (p, r, from, seen, way)
          | inr one ↦ (r, r, (still r one).0, (still r one).1, way)
        ]

    reached : (s : System) (x : Item) (ps moved rested all : List ℕ) → AreSown s x ps s.moves moved → ((p : ℕ) → Contains ps p → IsQuiet s p → Delta ≡ x → Contains rested p) → IsClosure s (moved ++ rested) all →
        (p r q : ℕ) → Contains ps p → IsSeen s p x r → Leads s r [] q → Contains all q
    reached s x ps moved rested all sown quiet closed p r q from seen way =
        let seed : Contains (moved ++ rested) r = elim (IsSeen-cases s p x r seen) [
          | inl (a, has, e) ↦ Contains-append_left moved rested r (sown.all (record { from = p; act = Label a; to = r }) a has refl e from)
          | inr (still, same, e) ↦ Contains-append_right moved rested r (rw same at (quiet p from still e))
        ] in
        Leads-closed s (λ o. Contains all o) (λ a b has move. closed.closed a b has move) r q (closed.kept r seed) way
