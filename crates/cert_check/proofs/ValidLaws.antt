-- A valid relation shows that the implementation conforms. There is a set after each trace, but none is computed here: it is
-- enough that there can't be none.
use Rattle.std.proofs.Common.{◌≡◌, ℕ, zero, suc, ◌+◌, ◌<◌, List, [], ◌∷◌, ◌++◌, length, inl, inr, All, Contains, arith}
use Rattle.std.specs.List.Sorted.{IsStrictlyIncreasing}
use Rattle.std.proofs.lemmas.Bool.{cases_eq}
use Rattle.std.proofs.lemmas.List.Elements.{All-contains, All-push, All-nil, Contains-push, Contains-append_left}
use Rattle.lts_base.specs.declared.item.Item.{Item}
use Rattle.lts_base.specs.declared.item.Mode.{Mode}
use Rattle.lts_base.specs.declared.relation.Relation.{Relation}
use Rattle.lts_base.specs.System.{System, IsSystem, IsMoveOf, label_count}
use Rattle.lts_base.specs.Path.{Step, Along, Rest, IsPath, Ends, Has}
use Rattle.lts_base.specs.After.{IsSetAfter}
use Rattle.lts_base.specs.Next.{IsNext, Reaches}
use Rattle.lts_base.specs.Conformance.{IsAllowed, IsConforming}
use Rattle.lts_base.specs.Reached.{Row}
use Rattle.lts_base.specs.Related.{rows_of, IsValid}
use Rattle.lts_base.proofs.ListLaws.{snoc_induction, IsStrictlyIncreasing-push}
use Rattle.lts_base.proofs.Leads.{Ends-push, Ends-silent}
use Rattle.lts_base.proofs.SetLaws.{Ends-last, Has-front, Has-set_some, Has-item, Shows-from_after, ShowsAfter-from_shows}
use Rattle.lts_base.proofs.AllowedLaws.{IsAllowed-has, IsAllowed-front, IsAllowed-last}
use Rattle.cert_check.specs.declared.checked.Checked.{Checked}
use Rattle.cert_check.specs.declared.checked.Checked.TheVariants.{Accepted}
use Rattle.cert_check.specs.Checks.{IsCheckedRelation}

-- the list has, in ascending order, the numbers below n with P
record ArePicked (P : ℕ → Type 0) (n : ℕ) (picked : List ℕ) : Type 0 where
  rising : IsStrictlyIncreasing picked
  below : All (λ q. q < n) picked
  each : All P picked
  all : (q : ℕ) → q < n → P q → Contains picked q

-- there is nothing below 0 to pick
picked-none : (P : ℕ → Type 0) → ArePicked P 0 []
picked-none P = record {
  rising = λ k less. absurd (omega (arith, less));
  below = All-nil (λ q. q < 0);
  each = All-nil P;
  all = λ q less. absurd (omega (arith, less));
}

-- one more number is picked
picked-take : (P : ℕ → Type 0) (n : ℕ) (picked : List ℕ) → P n → ArePicked P n picked → ArePicked P (n + 1) (picked ++ n ∷ [])
picked-take P n picked here is = record {
  rising = IsStrictlyIncreasing-push picked n is.rising is.below;
  below = All-push (λ q. q < n + 1) picked n (λ k d less. omega (arith, is.below k d less)) (omega arith);
  each = All-push P picked n is.each here;
  all = λ q less has. elim (cases_eq q n) [
    | inl same ↦ rw same (Contains-push picked n)
    | inr other ↦ Contains-append_left picked (n ∷ []) q (is.all q (omega (arith, less, other)) has)
  ];
}

-- one more number is left out
picked-skip : (P : ℕ → Type 0) (n : ℕ) (picked : List ℕ) → (P n → ⊥) → ArePicked P n picked → ArePicked P (n + 1) picked
picked-skip P n picked lacks is = record {
  rising = is.rising;
  below = λ k d less. omega (arith, is.below k d less);
  each = is.each;
  all = λ q less has. elim (cases_eq q n) [
    | inl same ↦ absurd (lacks (rw same at has))
    | inr other ↦ is.all q (omega (arith, less, other)) has
  ];
}

-- there can't be no such list
can_pick : (P : ℕ → Type 0) (n : ℕ) → ((picked : List ℕ) → ArePicked P n picked → ⊥) → ⊥
can_pick P zero none = none [] (picked-none P)
can_pick P (suc n) none = can_pick P n (λ picked is.
    let lacks : P n → ⊥ = λ here. none (picked ++ n ∷ []) (more (picked ++ n ∷ []) (picked-take P n picked here is)) in
    none picked (more picked (picked-skip P n picked lacks is)))
  where
    more : (picked : List ℕ) → ArePicked P (n + 1) picked → ArePicked P (suc n) picked
    more picked is = let same : n + 1 ≡ suc n = omega arith in rw same at is

-- a path from a state stays within the states
path_within : (s : System) (steps : List Step) (p q : ℕ) → IsSystem s → p < s.states → IsPath s p steps q → q < s.states
path_within s [] p q system within on = rw on at within
path_within s (Along m ∷ steps) p q system within on =
    path_within s steps m.to q system (All-contains (IsMoveOf s.states (label_count s)) s.moves m system.moves on.1).to on.2
path_within s (Rest ∷ steps) p q system within on = path_within s steps p q system within on.1

-- there can't be no set after a trace
can_be_set : (s : System) (σ : List Item) → IsSystem s → ((set : List ℕ) → IsSetAfter s σ set → ⊥) → ⊥
can_be_set s σ system none = can_pick (Ends s σ) s.states (λ picked is. none picked (record {
  rising = is.rising;
  each = is.each;
  all = λ q ends. is.all q (path_within s ends.0 s.start q system system.start ends.1) ends;
}))

-- the set after a trace with one item more is the next list of the set after the trace
next_between : (s : System) (σ : List Item) (x : Item) (ps qs : List ℕ) → IsSetAfter s σ ps → IsSetAfter s (σ ++ x ∷ []) qs → IsNext s x ps qs
next_between s σ x ps qs before after = record {
  rising = after.rising;
  each = λ k d less. reaches (after.each k d less);
  all = λ q (p, r, inside, seen, silent). after.all q (Ends-silent s (σ ++ x ∷ []) r q (Ends-push s σ p x r (All-contains (Ends s σ) ps p before.each inside) seen) silent);
}
  where
    reaches : {q : ℕ} → Ends s (σ ++ x ∷ []) q → Reaches s ps x q
    reaches {q} ends =
        let (p, r, first, seen, silent) = Ends-last s σ x q ends in
        (p, r, before.all p first, seen, silent)

-- the two sets after the trace can't be in no pair, where the trace is allowed and the implementation has it
abbrev IsCovered : Mode → System → System → List Row → List Item → Type 0
IsCovered mode i s rows σ = IsAllowed mode s σ → Has i σ → (left right : List ℕ) → IsSetAfter i σ left → IsSetAfter s σ right → (Contains rows (record { left = left; right = right }) → ⊥) → ⊥

-- the sets after a trace with one item more are covered where those after the trace are
covered_next : (mode : Mode) (i s : System) (rows : List Row) (σ : List Item) (x : Item) → IsSystem i → IsSystem s → IsValid mode i s rows → IsCovered mode i s rows σ → IsCovered mode i s rows (σ ++ x ∷ [])
covered_next mode i s rows σ x imp_system system valid before allowed has left right left_set right_set absent =
    can_be_set i σ imp_system (λ ps ps_set. can_be_set s σ system (λ qs qs_set.
    before (IsAllowed-front mode s σ x allowed) (Has-front i σ x has) ps qs ps_set qs_set (λ there.
    elim (valid.closed (record { left = ps; right = qs }) there x (Has-item s σ x system (IsAllowed-has mode s (σ ++ x ∷ []) allowed)) (IsAllowed-last mode s σ x qs system qs_set allowed) left right
    (next_between i σ x ps left ps_set left_set) (next_between s σ x qs right qs_set right_set)) [
      | inl none ↦ empty none
      | inr found ↦ absent found
    ])))
  where
    empty : left ≡ [] → ⊥
    empty none =
        let some : 0 < length left = Has-set_some i (σ ++ x ∷ []) left left_set has in
        let some' : 0 < length {A = ℕ} [] = rw none at some in
        omega (arith, some')

-- the sets after each trace are covered
covered : (mode : Mode) (i s : System) (rows : List Row) (σ : List Item) → IsSystem i → IsSystem s → IsValid mode i s rows → IsCovered mode i s rows σ
covered mode i s rows σ imp_system system valid =
    snoc_induction (IsCovered mode i s rows)
    (λ allowed has left right left_set right_set absent. absent (valid.opening left right left_set right_set))
    (λ τ x before. covered_next mode i s rows τ x imp_system system valid before) σ

-- where the relation is valid, the implementation conforms
pub conforming_from_valid : (mode : Mode) (i s : System) (rows : List Row) → IsSystem i → IsSystem s → IsValid mode i s rows → IsConforming mode i s
conforming_from_valid mode i s rows imp_system system valid σ x violation =
    can_be_set i σ imp_system (λ left left_set. can_be_set s σ system (λ right right_set.
    covered mode i s rows σ imp_system system valid violation.allowed (violation.shown.0, violation.shown.1) left right left_set right_set (λ there.
    violation.unshown (ShowsAfter-from_shows s σ right x right_set (valid.fine (record { left = left; right = right }) there x (Shows-from_after i σ left x left_set violation.shown))))))

-- where the answer is that the relation is valid, the implementation conforms
pub conforming_from_accepted : (mode : Mode) (i s : System) (relation : Relation) (c : Checked) → IsSystem i → IsSystem s → IsCheckedRelation mode i s relation c → c ≡ Accepted → IsConforming mode i s
conforming_from_accepted mode i s relation c imp_system system is accepted = conforming_from_valid mode i s (rows_of relation) imp_system system (rw accepted at is)
