-- Laws on what the steps of a search reach.
use Rattle.std.proofs.Common.{◌≡◌, ℕ, ◌+◌, ◌<◌, ◌≤◌, List, [], ◌∷◌, ◌++◌, length, get_or, inl, inr, All, Contains, refl, sym, subst, arith}
use Rattle.std.proofs.lemmas.List.{append-nil, get_or_default}
use Rattle.std.proofs.lemmas.List.Elements.{All-nil, All-weaker}
use Rattle.std.proofs.lemmas.Bool.{cases_lt}
use Rattle.lts_base.specs.declared.action.Act.{Act}
use Rattle.lts_base.specs.declared.action.Act.TheVariants.{Label}
use Rattle.lts_base.specs.declared.action.Move.{Move}
use Rattle.lts_base.specs.declared.item.Item.{Item}
use Rattle.lts_base.specs.declared.item.Item.TheVariants.{Input, Output, Delta}
use Rattle.lts_base.specs.System.{System, HasMove, IsQuiet, AreMovesOf, IsItemOf}
use Rattle.lts_base.specs.Path.{IsSeen}
use Rattle.lts_base.specs.Next.{IsNext}
use Rattle.lts_base.proofs.Leads.{IsSeen-input, IsSeen-output, IsSeen-delta, IsSeen-from_input, IsSeen-from_output, IsSeen-from_quiet, HasMove-from_parts}
use Rattle.lts_base.proofs.ListLaws.{none_contained}
use Rattle.lts_base.specs.Finds.{IsAdded, Adds, IsReached, AreReached, AreNext}
use Rattle.lts_base.proofs.FindLaws.{Contains-added, Contains-more, Adds-kept}

-- of the moves ms the first i have been looked at, and the targets of those that carry the action were added
pub record IsSpreading (P : ℕ → Type 0) (act : Act) (old new : List ℕ) (ms : List Move) (i : ℕ) : Type 0 where
  pub kept : (more : List ℕ) × (new ≡ old ++ more) × All P more
  pub looked : (k : ℕ) (d : Move) → k < i → (get_or ms k d).act ≡ act → Contains new (get_or ms k d).to

-- the moves before this place carry other actions
pub IsSpreading-from : (P : ℕ → Type 0) (act : Act) (old : List ℕ) (ms : List Move) (i : ℕ) → ((k : ℕ) (d : Move) → k < i → (get_or ms k d).act ≡ act → ⊥) → IsSpreading P act old old ms i
IsSpreading-from P act old ms i others = record {
  kept = ([], sym (append-nil old), All-nil P);
  looked = λ k d below carries. absurd (others k d below carries);
}

-- the moves from this place on carry other actions
pub IsSpreading-rest : (P : ℕ → Type 0) (act : Act) (old new : List ℕ) (ms : List Move) (i : ℕ) → ((k : ℕ) (d : Move) → i ≤ k → k < length ms → (get_or ms k d).act ≡ act → ⊥) → IsSpreading P act old new ms i → IsSpreading P act old new ms (length ms)
IsSpreading-rest P act old new ms i others is = record {
  kept = is.kept;
  looked = λ k d below carries. elim (cases_lt k i) [
    | inl earlier ↦ is.looked k d earlier carries
    | inr late ↦ absurd (others k d late below carries)
  ];
}

-- the next move carries the action, and its target was added
pub IsSpreading-add : (P : ℕ → Type 0) (act : Act) (old now new : List ℕ) (ms : List Move) (i : ℕ) (e : Move) → i < length ms → P (get_or ms i e).to → IsAdded now (get_or ms i e).to new → IsSpreading P act old now ms i → IsSpreading P act old new ms (i + 1)
IsSpreading-add P act old now new ms i e inside has added is = record {
  kept = Adds-kept P old now new (get_or ms i e).to has added is.kept;
  looked = λ k d below carries. elim (cases_lt k i) [
    | inl earlier ↦ Contains-more now (get_or ms i e).to new added (get_or ms k d).to (is.looked k d earlier carries)
    | inr late ↦
        let same : k ≡ i = omega (arith, late, below) in
        rw (same, get_or_default ms i d e inside) (Contains-added now (get_or ms i e).to new added)
  ];
}

-- the target of a move of the state p that carries the action
pub HasMove-at : (s : System) (p : ℕ) (act : Act) (ms : List Move) (i : ℕ) (e : Move) → AreMovesOf s p ms → i < length ms → (get_or ms i e).act ≡ act → HasMove s p act (get_or ms i e).to
HasMove-at s p act ms i e these inside carries =
    let each = these.each i e inside in
    HasMove-from_parts s (get_or ms i e) p act each.0 carries each.1

-- all moves of the state have been looked at
pub IsSpreading-all : (s : System) (p : ℕ) (act : Act) (old new : List ℕ) (ms : List Move) (n : ℕ) → AreMovesOf s p ms → length ms ≤ n → IsSpreading (HasMove s p act) act old new ms n → Adds (HasMove s p act) old new
IsSpreading-all s p act old new ms n these over is = record {
  kept = is.kept;
  all = λ q has.
      none_contained (λ (m : Move). m.act ≡ act → Contains new m.to) ms n over is.looked
      (record { from = p; act = act; to = q }) (these.all (record { from = p; act = act; to = q }) refl has) refl;
}

-- the same states are reached by a relation that says the same
pub AreReached-alike : (R Q : ℕ → ℕ → Type 0) (ps found : List ℕ) → ((p r : ℕ) → R p r → Q p r) → ((p r : ℕ) → Q p r → R p r) → AreReached R ps found → AreReached Q ps found
AreReached-alike R Q ps found into back is = record {
  each = All-weaker (IsReached R ps) (IsReached Q ps) (λ r reached. (reached.0, reached.1, into reached.0 r reached.2)) found is.each;
  all = λ p r inside leads. is.all p r inside (back p r leads);
}

-- what a move with the label of an input or output leads to is what a step seen as it leads to
pub AreSeen-input : (s : System) (ps found : List ℕ) (a : ℕ) → IsItemOf s (Input a) → AreReached (λ p r. HasMove s p (Label a) r) ps found → AreReached (λ p r. IsSeen s p (Input a) r) ps found
AreSeen-input s ps found a item = AreReached-alike (λ p r. HasMove s p (Label a) r) (λ p r. IsSeen s p (Input a) r) ps found
    (λ p r has. IsSeen-from_input s p a r item has) (λ p r seen. (IsSeen-input s p a r seen).0)

pub AreSeen-output : (s : System) (ps found : List ℕ) (a : ℕ) → IsItemOf s (Output a) → AreReached (λ p r. HasMove s p (Label a) r) ps found → AreReached (λ p r. IsSeen s p (Output a) r) ps found
AreSeen-output s ps found a item = AreReached-alike (λ p r. HasMove s p (Label a) r) (λ p r. IsSeen s p (Output a) r) ps found
    (λ p r has. IsSeen-from_output s p a r item.0 has) (λ p r seen. (IsSeen-output s p a r seen).0)

-- the quiet states are what a step seen as `delta` leads to
pub AreSeen-delta : (s : System) (ps found : List ℕ) → AreReached (λ p r. IsQuiet s p × (p ≡ r)) ps found → AreReached (λ p r. IsSeen s p Delta r) ps found
AreSeen-delta s ps found = AreReached-alike (λ p r. IsQuiet s p × (p ≡ r)) (λ p r. IsSeen s p Delta r) ps found
    (λ p r rests. subst (λ z. IsSeen s p Delta z) rests.1 (IsSeen-from_quiet s p rests.0)) (λ p r seen. IsSeen-delta s p r seen)

one_item : (found : List ℕ) (q : ℕ) → length found ≡ 1 → q ≡ get_or found 0 0 → found ≡ q ∷ []
one_item [] q e is = absurd (omega (arith, e))
one_item (y ∷ []) q e is = rw is refl
one_item (y ∷ z ∷ zs) q e is = absurd (omega (arith, e))

-- one state was found: it alone is the next list
pub IsNext-one : (s : System) (x : Item) (ps found : List ℕ) (q : ℕ) → length found ≡ 1 → q ≡ get_or found 0 0 → AreNext s x ps found → IsNext s x ps (q ∷ [])
IsNext-one s x ps found q e is are =
    let same = one_item found q e is in
    record {
      rising = λ k below. absurd (omega (arith, below));
      each = rw same at are.each;
      all = λ r reaches. rw same at (are.all r reaches);
    }
