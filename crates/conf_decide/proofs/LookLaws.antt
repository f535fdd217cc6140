-- Laws of one look: what the search is after an item of a pair.
use Rattle.std.proofs.Common.{ℕ, zero, suc, ◌+◌, ◌-◌, ◌<◌, ◌≤◌, ◌≡◌, List, [], ◌∷◌, ◌++◌, length, Option, Some, None, refl, ap, arith, inl, inr, ◌⊎◌}
use Rattle.std.proofs.lemmas.List.{take_all}
use Rattle.std.proofs.lemmas.List.Elements.{All-nil}
use Rattle.std.proofs.lemmas.Bool.{cases_lt}
use Rattle.lts_base.specs.declared.action.Act.TheVariants.{Label}
use Rattle.lts_base.specs.declared.item.Item.TheVariants.{Input, Output}
use Rattle.lts_base.specs.Next.{IsNext, Reaches}
use Rattle.lts_base.specs.Path.{IsSeen}
use Rattle.lts_base.proofs.Leads.{IsSeen-input, IsSeen-output}
use Rattle.state_sets.specs.Finds.{IsLeastFrom, IsTakenIn}
use Rattle.lts_base.specs.declared.item.Item.{Item}
use Rattle.lts_base.specs.System.{System, IsItemOf, HasMove, label_count}
use Rattle.lts_base.specs.After.{Allows}
use Rattle.lts_base.specs.Order.{place}
use Rattle.lts_base.specs.Reached.{row_at}
use Rattle.walk_core.specs.Walked.{Walked, set_at, IsWalk, Grows}
use Rattle.conf_decide.specs.declared.table.Found.{Found}
use Rattle.conf_decide.specs.declared.answer.Answer.{Answer}
use Rattle.conf_decide.specs.declared.answer.Answer.TheVariants.{Undecided}
use Rattle.conf_decide.specs.declared.answer.What.TheVariants.{ImpMembers, SpecMembers}
use Rattle.conf_decide.specs.declared.search.Setting.{Setting}
use Rattle.conf_decide.specs.declared.search.Pace.{Pace}
use Rattle.conf_decide.specs.declared.search.Pace.TheVariants.{Nothing, Pair, ImpFull, SpecFull}
use Rattle.conf_decide.specs.Table.{found_at, HasPair, rows_in}
use Rattle.conf_decide.specs.Progress.{IsSetting, IsRunOf, IsNewest, IsTested, IsOutcome, IsAnswer, IsPace}
use Rattle.conf_decide.proofs.SearchLaws.{search_item}
use Rattle.conf_decide.proofs.WrongLaws.{item_spec}
use Rattle.conf_decide.proofs.GrowLaws.{Grows-same}
use Rattle.conf_decide.proofs.RunLaws.{rows_length, row_in_at, IsStepped, closed_empty, run_empty, run_there, new_untested, run_new, imp_cut, spec_cut}

pub few_pairs : (setting : Setting) (wi ws : Walked) (found : List Found) (at p : ℕ) → IsRunOf setting wi ws found at p → length found ≤ setting.most_pairs
few_pairs setting wi ws found at p run =
    let whole = take_all (length found) (rows_in wi.sets ws.sets found) (rw (rows_length wi.sets ws.sets found) (omega arith)) in
    rw (whole, rows_length wi.sets ws.sets found) at (run.within (length found) (omega arith)).pairs

pub small_depth : (setting : Setting) (wi ws : Walked) (found : List Found) (at p : ℕ) (from : Found) → IsSetting setting wi ws → IsRunOf setting wi ws found at p → at < length found → from ≡ found_at found at →
    from.depth + 1 < 4294967296
small_depth setting wi ws found at p from set run within e =
    rw e (omega (arith, run.edges.short at within, within, few_pairs setting wi ws found at p run, set.few))

pub small_at : (setting : Setting) (wi ws : Walked) (found : List Found) (at p : ℕ) → IsSetting setting wi ws → IsRunOf setting wi ws found at p → at < length found → at < 4294967296
small_at setting wi ws found at p set run within = omega (arith, within, few_pairs setting wi ws found at p run, set.few)

-- the pair's right set doesn't allow the item
pub look_skip : (setting : Setting) (wi ws : Walked) (found : List Found) (at p : ℕ) (x : Item) (from : Found) → IsSetting setting wi ws → ((s : System) → s.inputs ≡ setting.inputs → s.outputs ≡ setting.outputs → IsItemOf s x) →
    place (setting.inputs + setting.outputs) x ≡ p → IsRunOf setting wi ws found at p → at < length found → from ≡ found_at found at → (Allows setting.mode ws.system (set_at ws.sets from.right) x → ⊥) →
    IsRunOf setting wi ws found at (p + 1)
look_skip setting wi ws found at p x from set item here run within e refused =
    record {
      traces = run.traces;
      search = search_item setting.mode wi.system ws.system (rows_in wi.sets ws.sets found) run.traces at p x run.search (item_spec setting wi ws x set item) (rw (set.spec_inputs, set.spec_outputs) here) (λ other allows has. absurd (refused (allowed allows)));
      edges = run.edges;
      nodes = run.nodes;
      left_sets = run.left_sets;
      right_sets = run.right_sets;
      within = run.within;
    }
  where
    allowed : Allows setting.mode ws.system (row_at (rows_in wi.sets ws.sets found) at).right x → Allows setting.mode ws.system (set_at ws.sets from.right) x
    allowed h = rw e (rw (row_in_at wi.sets ws.sets found at within) at h)

-- the pair's left set leads nowhere by the item
pub look_blank : (setting : Setting) (wi ws : Walked) (found : List Found) (at p : ℕ) (x : Item) (from : Found) → IsSetting setting wi ws → ((s : System) → s.inputs ≡ setting.inputs → s.outputs ≡ setting.outputs → IsItemOf s x) →
    place (setting.inputs + setting.outputs) x ≡ p → IsRunOf setting wi ws found at p → at < length found → from ≡ found_at found at → IsNext wi.system x (set_at wi.sets from.left) [] →
    IsRunOf setting wi ws found at (p + 1)
look_blank setting wi ws found at p x from set item here run within e next =
    record {
      traces = run.traces;
      search = search_item setting.mode wi.system ws.system (rows_in wi.sets ws.sets found) run.traces at p x run.search (item_spec setting wi ws x set item) there
          (λ other allows has. closed_empty setting.mode setting.most_pairs wi wi ws ws found at p x (stepped allows) (rw e at next) other allows has);
      edges = run.edges;
      nodes = run.nodes;
      left_sets = run.left_sets;
      right_sets = run.right_sets;
      within = run.within;
    }
  where
    there : place (label_count ws.system) x ≡ p
    there = rw (set.spec_inputs, set.spec_outputs) here

    stepped : Allows setting.mode ws.system (row_at (rows_in wi.sets ws.sets found) at).right x → IsStepped setting.mode setting.most_pairs wi wi ws ws found at p x
    stepped allows = record {
      run = run;
      imp = Grows-same wi;
      spec = Grows-same ws;
      imp_walk = set.imp_walk;
      spec_walk = set.spec_walk;
      within = within;
      item = item_spec setting wi ws x set item;
      here = there;
      allows = rw (row_in_at wi.sets ws.sets found at within) at allows;
    }

-- a label that no member of the list takes leads nowhere
leads_nowhere : (s : System) (a : ℕ) (x : Item) (ps : List ℕ) → ((p r : ℕ) → IsSeen s p x r → HasMove s p (Label a) r) → (IsTakenIn s ps a → ⊥) → IsNext s x ps []
leads_nowhere s a x ps moves none = record {
  rising = λ k below. absurd (omega (arith, below));
  each = All-nil (Reaches s ps x);
  all = λ q reaches. let (p, r, inside, seen, leads) = reaches in absurd (none (p, inside, (r, moves p r seen)));
}

module _ (setting : Setting) (wi ws : Walked) (found : List Found) (at : ℕ) (from : Found) (set : IsSetting setting wi ws) (within : at < length found) (e : from ≡ found_at found at) where
  -- one label that one of the two sets doesn't take
  skip_one : (k : ℕ) → k < setting.inputs + setting.outputs → (IsTakenIn ws.system (set_at ws.sets from.right) k → ⊥) ⊎ (IsTakenIn wi.system (set_at wi.sets from.left) k → ⊥) →
      IsRunOf setting wi ws found at k → IsRunOf setting wi ws found at (k + 1)
  skip_one k below none run = elim (cases_lt k setting.inputs) [
    | inl input ↦ elim none [
      | inl right ↦ look_skip setting wi ws found at k (Input k) from set (λ s i o. rw i input) refl run within e (λ allows. right allows.0)
      | inr left ↦ look_blank setting wi ws found at k (Input k) from set (λ s i o. rw i input) refl run within e (leads_nowhere wi.system k (Input k) _ (λ p r seen. (IsSeen-input wi.system p k r seen).0) left)
    ]
    | inr output ↦ elim none [
      | inl right ↦ look_skip setting wi ws found at k (Output k) from set (λ s i o. rw (i, o) (output, below)) refl run within e (λ shows. right (shows.0, shows.1, shows.2.1))
      | inr left ↦ look_blank setting wi ws found at k (Output k) from set (λ s i o. rw (i, o) (output, below)) refl run within e (leads_nowhere wi.system k (Output k) _ (λ p r seen. (IsSeen-output wi.system p k r seen).0) left)
    ]
  ]

  skip_by : (p n d : ℕ) → p + d ≤ n → n ≤ setting.inputs + setting.outputs → ((k : ℕ) → p ≤ k → k < n → (IsTakenIn ws.system (set_at ws.sets from.right) k → ⊥) ⊎ (IsTakenIn wi.system (set_at wi.sets from.left) k → ⊥)) →
      IsRunOf setting wi ws found at p → IsRunOf setting wi ws found at (p + d)
  skip_by p n zero low high none run = let same : p + zero ≡ p = omega arith in rw same run
  skip_by p n (suc d) low high none run =
      let next : p + suc d ≡ p + d + 1 = omega arith in
      rw next (skip_one (p + d) (omega (arith, low, high)) (none (p + d) (omega arith) (omega (arith, low))) (skip_by p n d (omega (arith, low)) high none run))

  -- the labels from p to m aren't taken on the left, and those from m to n not on the right
  pub look_jump : (p m n : ℕ) → IsLeastFrom (IsTakenIn wi.system (set_at wi.sets from.left)) p (label_count wi.system) m → IsLeastFrom (IsTakenIn ws.system (set_at ws.sets from.right)) m (label_count ws.system) n →
      IsRunOf setting wi ws found at p → IsRunOf setting wi ws found at n
  look_jump p m n left right run =
      let whole : p + (n - p) ≡ n = omega (arith, right.low, left.low) in
      let high : n ≤ setting.inputs + setting.outputs = omega (arith, right.high, set.spec_inputs, set.spec_outputs) in
      rw whole at (skip_by p n (n - p) (omega (arith, whole)) high none run)
    where
      none : (k : ℕ) → p ≤ k → k < n → (IsTakenIn ws.system (set_at ws.sets from.right) k → ⊥) ⊎ (IsTakenIn wi.system (set_at wi.sets from.left) k → ⊥)
      none k low less = elim (cases_lt k m) [
        | inl before ↦ inr (left.none k low before)
        | inr after ↦ inl (right.none k after less)
      ]

-- a look whose item is allowed, after both walks were stepped
pub record IsLook (setting : Setting) (wi wi' ws ws' : Walked) (found : List Found) (at p : ℕ) (x : Item) (f : Found) : Type 0 where
  pub stepped : IsStepped setting.mode setting.most_pairs wi wi' ws ws' found at p x
  pub from : f ≡ found_at found at

pub look : (setting : Setting) (wi wi' ws ws' : Walked) (found : List Found) (at p : ℕ) (x : Item) (from : Found) → IsSetting setting wi ws → ((s : System) → s.inputs ≡ setting.inputs → s.outputs ≡ setting.outputs → IsItemOf s x) →
    place (setting.inputs + setting.outputs) x ≡ p → IsRunOf setting wi ws found at p → at < length found → from ≡ found_at found at → Allows setting.mode ws.system (set_at ws.sets from.right) x →
    Grows wi wi' → Grows ws ws' → IsWalk wi' → IsWalk ws' → IsLook setting wi wi' ws ws' found at p x from
look setting wi wi' ws ws' found at p x from set item here run within e allows imp spec imp_walk spec_walk =
    record {
      stepped = record {
        run = run;
        imp = imp;
        spec = spec;
        imp_walk = imp_walk;
        spec_walk = spec_walk;
        within = within;
        item = item_spec setting wi ws x set item;
        here = rw (set.spec_inputs, set.spec_outputs) here;
        allows = rw e at allows;
      };
      from = e;
    }

module _ (setting : Setting) (wi wi' ws ws' : Walked) (found : List Found) (at p : ℕ) (x : Item) (from : Found) (lk : IsLook setting wi wi' ws ws' found at p x from) where
  pub look_empty : (o : Pace) → o ≡ Nothing → IsPace wi wi' ws ws' from.left from.right x o → IsRunOf setting wi' ws' found at (p + 1)
  look_empty o is pace = run_empty _ _ _ _ _ _ _ _ _ _ lk.stepped (rw (is, lk.from) at pace)

  pub look_there : (l r : ℕ) → (o : Pace) → o ≡ Pair l r → IsPace wi wi' ws ws' from.left from.right x o → HasPair found l r → IsRunOf setting wi' ws' found at (p + 1)
  look_there l r o is pace has = let paced = rw (is, lk.from) at pace in run_there _ _ _ _ _ _ _ _ _ _ lk.stepped l r paced.0 paced.1 has

  abbrev newest : ℕ → ℕ → Found
  newest l r = record { left = l; right = r; from = at; item = x; depth = from.depth + 1 }

  depth_is : from.depth + 1 ≡ (found_at found at).depth + 1
  depth_is = ap (λ (f : Found). f.depth + 1) lk.from

  pub look_newest : (l r : ℕ) → (o : Pace) → o ≡ Pair l r → IsPace wi wi' ws ws' from.left from.right x o → (HasPair found l r → ⊥) → IsNewest setting wi' ws' (found ++ record { left = l; right = r; from = at; item = x; depth = from.depth + 1 } ∷ [])
  look_newest l r o is pace apart = let paced = rw (is, lk.from) at pace in new_untested _ _ _ _ _ _ _ _ _ _ lk.stepped (newest l r) refl refl depth_is paced.0 paced.1 apart

  pub look_tested : (l r : ℕ) → (o : Pace) → o ≡ Pair l r → IsPace wi wi' ws ws' from.left from.right x o → (HasPair found l r → ⊥) → (new : List Found) (answer : Option Answer) →
      IsTested setting wi' ws' found (record { left = l; right = r; from = at; item = x; depth = from.depth + 1 }) new answer → IsOutcome setting wi' ws' new at (p + 1) answer
  look_tested l r o is pace apart new (Some answer) tested = tested
  look_tested l r o is pace apart new None (grown, fine, few) =
      let paced = rw (is, lk.from) at pace in
      rw grown (run_new _ _ _ _ _ _ _ _ _ _ lk.stepped (newest l r) refl refl depth_is paced.0 paced.1 apart fine (rw grown at few))

  pub look_imp_full : (reach : ℕ) → (o : Pace) → o ≡ ImpFull reach → IsPace wi wi' ws ws' from.left from.right x o → IsAnswer setting wi' ws' (Undecided ImpMembers reach (from.depth + 1))
  look_imp_full reach o is pace = let paced = rw (is, lk.from) at pace in rw depth_is (imp_cut _ _ _ _ _ _ _ _ _ _ lk.stepped reach paced)

  pub look_spec_full : (reach : ℕ) → (o : Pace) → o ≡ SpecFull reach → IsPace wi wi' ws ws' from.left from.right x o → IsAnswer setting wi' ws' (Undecided SpecMembers reach (from.depth + 1))
  look_spec_full reach o is pace = let paced = rw (is, lk.from) at pace in rw depth_is (spec_cut _ _ _ _ _ _ _ _ _ _ lk.stepped reach paced.0 paced.1 paced.2)
